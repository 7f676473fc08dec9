-- The functions of a typed pipeline of the grammar are never stuck.
use Rattle.std.proofs.Common.{◌≡◌, ℕ, ◌+◌, Bool, true, false, cond, List, [], ◌∷◌, ◌++◌, refl, ap, sym, ◌∙◌, subst, append_assoc, arith}
use Rattle.std.specs.Prelude.{Option, Some, None, Ok, slice_get, bytes_eq, zero, suc}
use Rattle.std.proofs.lemmas.List.{append-nil}
use Rattle.pie_value.specs.declared.task.Task.{Task}
use Rattle.pie_value.specs.Tree.{items_of}
use Rattle.pie_value.specs.Types.{parts_of}
use Rattle.pie_value.specs.HasType.{have_types}
use Rattle.pie_parser.specs.declared.tree.Param.{Param}
use Rattle.pie_parser.specs.FunctionTrees.{FunctionTree}
use Rattle.pie_types.specs.Faults.{TypingResult}
use Rattle.pie_types.specs.Scope.{Entry, with_name}
use Rattle.pie_types.specs.Headings.{Heading, function_in, params_from, signature_of, headings_from}
use Rattle.pie_types.specs.Whole.{types_in, takes, number_from}
use Rattle.pie_types.specs.inner.Rules.{BlockHas}
use Rattle.pie_types.specs.inner.WholeRules.{ParamsBring, no_param, a_param, Declares, AreDeclared, no_function, a_function, IsTypedFunction, typed_function}
use Rattle.pie_types.specs.inner.WholeRules.{AreTyped, nothing, one_more, IsTyped, typed}
use Rattle.pie_types.proofs.WrittenLaw.{written_complete}
use Rattle.pie_types.proofs.Complete.{may_enter_is}
use Rattle.pie_value.specs.declared.event.Answer.{Answer}
use Rattle.pie_value.specs.declared.event.Answer.TheVariants.{Output}
use Rattle.pie_value.specs.declared.event.Event.TheVariants.{Require}
use Rattle.pie_value.specs.declared.event.How.TheVariants.{Whole, Hashed}
use Rattle.pie_value.specs.declared.value.Value.{Value}
use Rattle.pie_value.specs.Values.{tree_of}
use Rattle.pie_operators.specs.Domain.{done}
use Rattle.pie_semantics.specs.Meaning.{next_of}
use Rattle.pie_type_laws.specs.Fitting.{AnswerFits, OutputFits}
use Rattle.pie_type_laws.specs.NeverStuck.{Takes, AnswersFit, IsNeverStuck, AreNeverStuck, NeverStuck}
use Rattle.pie_type_laws.proofs.Functions.{function_runs}

params_are : (es : List Entry) (ps : List Param) (fs : List Entry) → ParamsBring es ps fs → params_from es ps ≡ Ok fs
params_are _ _ _ no_param = refl
params_are _ _ _ (a_param {es = es} {fs = fs} {p = p} {ps = ps} {t = t} f d more) =
    rw (may_enter_is p.name es f, written_complete p.kind t d) (params_are (with_name es p.name.text t) ps fs more)

signature_is : (f : FunctionTree) (h : Heading) → Declares f h → signature_of f ≡ Ok h
signature_is f h d =
    rw (params_are [] f.params h.params d.params, written_complete f.result h.result d.result)
    (ap (λ (n : List ℕ). Ok (record { name = n; params = h.params; result = h.result })) (sym d.name))

one_heading : (f : FunctionTree) (h k : Heading) → Declares f h → Declares f k → h ≡ k
one_heading f h k d e = let p : signature_of f ≡ Ok h = signature_is f h d in let q : signature_of f ≡ Ok k = signature_is f k e in cc

-- functions with their headings, one each
abbrev Paired : List FunctionTree → List Heading → Type 0
Paired [] [] = Unit {0}
Paired (f ∷ fs) (h ∷ hs) = Declares f h × Paired fs hs
Paired fs hs = ⊥

paired_from : (done : List Heading) (fs : List FunctionTree) (hs : List Heading) → AreDeclared done fs hs
    → (gs : List Heading) × (hs ≡ done ++ gs) × Paired fs gs
paired_from _ _ _ (no_function {hs = hs}) = ([], sym (append-nil hs), tt)
paired_from _ _ _ (a_function {hs = hs} {gs = gs} {f = f} {fs = fs} {h = h} b n d more) =
    let r = paired_from (hs ++ h ∷ []) fs gs more in (h ∷ r.0, r.1 ∙ append_assoc hs (h ∷ []) r.0, (d, r.2))

-- a task's function with its heading, by the number of the function
record Located (fs : List FunctionTree) (hs : List Heading) (t : Task) (j : ℕ) : Type 0 where
  f : FunctionTree
  h : Heading
  at : slice_get fs j ≡ Some f
  name : function_in t.func hs ≡ Some h
  declares : Declares f h
  takes : Takes h t.args

locate_here : (f : FunctionTree) (fs : List FunctionTree) (h : Heading) (hs : List Heading) (t : Task) (n i : ℕ) → Declares f h
    → function_in t.func (h ∷ hs) ≡ Some h → (b : Bool) → have_types (parts_of (types_in h.params)) (items_of t.args) ≡ b
    → cond b (Some n) None ≡ Some i → (j : ℕ) × (i ≡ n + j) × Located (f ∷ fs) (h ∷ hs) t j
locate_here f fs h hs t n i d name true e p =
    let s : n ≡ i = cc in (0, sym s ∙ (let z : n ≡ n + 0 = omega arith in z), record { f = f; h = h; at = refl; name = name; declares = d; takes = e })
locate_here f fs h hs t n i d name false e p = let x : ⊥ = cc in absurd x

locate : (fs : List FunctionTree) (hs : List Heading) → Paired fs hs → (t : Task) (n i : ℕ) → number_from n fs t ≡ Some i
    → (j : ℕ) × (i ≡ n + j) × Located fs hs t j
locate [] [] p t n i e = let x : ⊥ = cc in absurd x
locate [] (h ∷ hs) p t n i e = absurd p
locate (f ∷ fs) [] p t n i e = absurd p
locate (f ∷ fs) (h ∷ hs) p t n i e = go (locate fs hs p.1 t (n + 1) i) (bytes_eq t.func f.name.text) refl e
  where
    names : bytes_eq t.func h.name ≡ bytes_eq t.func f.name.text
    names = ap (λ (m : List ℕ). bytes_eq t.func m) p.0.name

    go : (number_from (n + 1) fs t ≡ Some i → (j : ℕ) × (i ≡ n + 1 + j) × Located fs hs t j)
        → (b : Bool) → bytes_eq t.func f.name.text ≡ b → cond b (cond (takes (signature_of f) t) (Some n) None) (number_from (n + 1) fs t) ≡ Some i
        → (j : ℕ) × (i ≡ n + j) × Located (f ∷ fs) (h ∷ hs) t j
    go more true s q = locate_here f fs h hs t n i p.0 (ap (λ (b : Bool). cond b (Some h) (function_in t.func hs)) (names ∙ s))
        (have_types (parts_of (types_in h.params)) (items_of t.args)) refl
        (ap (λ (o : TypingResult Heading). cond (takes o t) (Some n) None) (sym (signature_is f h p.0)) ∙ q)
    go more false s q =
        let r = more q in
        let l = r.2 in (
          suc r.0,
          r.1 ∙ (let z : n + 1 + r.0 ≡ n + suc r.0 = omega arith in z),
          record {
            f = l.f;
            h = l.h;
            at = l.at;
            name = ap (λ (b : Bool). cond b (Some h) (function_in t.func hs)) (names ∙ s) ∙ l.name;
            declares = l.declares;
            takes = l.takes;
          },
        )

-- a typed task has a function
numbered : (fs : List FunctionTree) (hs : List Heading) → Paired fs hs → (t : Task) (h : Heading) → function_in t.func hs ≡ Some h → Takes h t.args
    → (n : ℕ) → (i : ℕ) × (number_from n fs t ≡ Some i)
numbered [] [] p t h e k n = let x : ⊥ = cc in absurd x
numbered [] (g ∷ hs) p t h e k n = absurd p
numbered (f ∷ fs) [] p t h e k n = absurd p
numbered (f ∷ fs) (g ∷ hs) p t h e k n = go (λ e. numbered fs hs p.1 t h e k (n + 1)) (bytes_eq t.func f.name.text) refl
  where
    names : bytes_eq t.func g.name ≡ bytes_eq t.func f.name.text
    names = ap (λ (m : List ℕ). bytes_eq t.func m) p.0.name

    here : bytes_eq t.func f.name.text ≡ true → g ≡ h
    here s = let q : Some g ≡ Some h = sym (ap (λ (b : Bool). cond b (Some g) (function_in t.func hs)) (names ∙ s)) ∙ e in cc

    takes_it : bytes_eq t.func f.name.text ≡ true → takes (signature_of f) t ≡ true
    takes_it s = ap (λ (o : TypingResult Heading). takes o t) (signature_is f g p.0) ∙ ap (λ (x : Heading). takes (Ok x) t) (here s) ∙ k

    go : (function_in t.func hs ≡ Some h → (i : ℕ) × (number_from (n + 1) fs t ≡ Some i))
        → (b : Bool) → bytes_eq t.func f.name.text ≡ b → (i : ℕ) × (number_from n (f ∷ fs) t ≡ Some i)
    go more true s = (
      n,
      ap (λ (b : Bool). cond b (cond (takes (signature_of f) t) (Some n) None) (number_from (n + 1) fs t)) s
          ∙ ap (λ (b : Bool). cond b (Some n) None) (takes_it s),
    )
    go more false s =
        let r = more (sym (ap (λ (b : Bool). cond b (Some g) (function_in t.func hs)) (names ∙ s)) ∙ e) in
        (r.0, ap (λ (b : Bool). cond b (cond (takes (signature_of f) t) (Some n) None) (number_from (n + 1) fs t)) s ∙ r.1)

typed_at : (hs : List Heading) (fs : List FunctionTree) → AreTyped hs fs → (j : ℕ) (f : FunctionTree) → slice_get fs j ≡ Some f → IsTypedFunction hs f
typed_at _ _ (nothing {hs = hs}) j f e = let x : ⊥ = cc in absurd x
typed_at _ _ (one_more {hs = hs} {f = g} {fs = fs} d more) zero f e = let s : g ≡ f = cc in subst (IsTypedFunction hs) s d
typed_at _ _ (one_more {hs = hs} {f = g} {fs = fs} d more) (suc j) f e = typed_at hs fs more j f e

typed_runs : (hs : List Heading) (f : FunctionTree) (h : Heading) → Declares f h → IsTypedFunction hs f → (t : Task) → Takes h t.args
    → IsNeverStuck hs f h.result t.args
typed_runs hs _ h d (typed_function {f = f} {h = k} e b) t takes =
    function_runs hs f h d.params (subst (λ (x : Heading). BlockHas hs x.params f.body x.result) (one_heading f k h e d) b) t.args takes

-- a typed pipeline with its headings
paired_never_stuck : (fs : List FunctionTree) (hs : List Heading) → Paired fs hs → AreTyped hs fs → AreNeverStuck fs hs
paired_never_stuck fs hs p are = record {
  found = λ t. (
    λ k. numbered fs hs p t k.0 k.1 k.2 0,
    λ k. (let l = (locate fs hs p t 0 k.0 k.1).2 in (l.h, l.name, l.takes)),
  );
  runs = λ t i e. (
      let r = locate fs hs p t 0 i e in
      let l = r.2 in
      let same : r.0 ≡ i = sym (r.1 ∙ (let z : 0 + r.0 ≡ r.0 = omega arith in z)) in (
        l.f,
        l.h,
        ap (λ (k : ℕ). slice_get fs k) (sym same) ∙ l.at,
        l.name,
        typed_runs hs l.f l.h l.declares (typed_at hs fs are r.0 l.f l.at) t l.takes,
      )
      );
}

headings_are : (done : List Heading) (fs : List FunctionTree) (hs : List Heading) → AreDeclared done fs hs → headings_from done fs ≡ Ok hs
headings_are _ _ _ no_function = refl
headings_are _ _ _ (a_function {hs = hs} {gs = gs} {f = f} {fs = fs} {h = h} b n d more) =
    rw (b, n, signature_is f h d) (headings_are (hs ++ h ∷ []) fs gs more)

-- a pipeline has one list of headings
same_headings : (fs : List FunctionTree) (hs gs : List Heading) → AreDeclared [] fs hs → AreDeclared [] fs gs → hs ≡ gs
same_headings fs hs gs d e =
    let p : headings_from [] fs ≡ Ok hs = headings_are [] fs hs d in let q : headings_from [] fs ≡ Ok gs = headings_are [] fs gs e in cc

typed_with : (fs : List FunctionTree) (hs : List Heading) → IsTyped fs → AreDeclared [] fs hs → AreTyped hs fs
typed_with _ hs (typed {fs = fs} {hs = gs} e t) d = subst (λ (x : List Heading). AreTyped x fs) (same_headings fs gs hs e d) t

pub never_stuck : NeverStuck
never_stuck fs hs types declared =
    let p = paired_from [] fs hs declared in
    paired_never_stuck fs hs (subst (Paired fs) (sym p.1) p.2) (typed_with fs hs types declared)

-- what a task gives fits as the answer to the one that required it
pub output_fits : (fs : List FunctionTree) (hs : List Heading) → AreNeverStuck fs hs → (t : Task) (i : ℕ) → number_from 0 fs t ≡ Some i
    → (f : FunctionTree) × (slice_get fs i ≡ Some f) × ((answers : List Answer) → AnswersFit hs f t.args answers → (v : Value)
    → (next_of f t.args answers).0 ≡ done (tree_of v) → AnswerFits hs (Require t Whole) (Output v) × AnswerFits hs (Require t Hashed) (Output v))
output_fits fs hs never t i e =
    let r = never.runs t i e in (
      r.0,
      r.2,
      λ answers fit v p.
          (let h : OutputFits (function_in t.func hs) (tree_of v) =
          subst (λ (o : Option Heading). OutputFits o (tree_of v)) (sym r.3) ((r.4 answers fit).result (tree_of v) p) in (h, h)),
    )
