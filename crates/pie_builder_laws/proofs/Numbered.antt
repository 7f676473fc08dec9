-- A function with a number takes the arguments of its tasks, and so does its code.
use Rattle.std.proofs.Common.{◌≡◌, ℕ, zero, suc, ◌+◌, Bool, true, false, cond, ◌&&◌, List, [], ◌∷◌, length, bytes_eq, Some, None, Ok, Err, refl, sym}
use Rattle.std.proofs.Common.{ap, subst, ◌∙◌, arith}
use Rattle.std.specs.Prelude.{slice_get}
use Rattle.std.proofs.lemmas.List.{length-append, length-map}
use Rattle.pie_value.specs.declared.task.Task.{Task}
use Rattle.pie_value.specs.Tree.{Tree, items_of}
use Rattle.pie_value.specs.Types.{TyTree, parts_of}
use Rattle.pie_value.specs.HasType.{has_type, have_types}
use Rattle.pie_code.specs.declared.code.Code.{Code}
use Rattle.pie_parser.specs.declared.tree.Param.{Param}
use Rattle.pie_parser.specs.FunctionTrees.{FunctionTree}
use Rattle.pie_types.specs.Faults.{TypingResult, then_on}
use Rattle.pie_types.specs.Written.{written}
use Rattle.pie_types.specs.Scope.{Entry, may_enter, with_name}
use Rattle.pie_types.specs.Headings.{Heading, with_param, params_from, signature_of}
use Rattle.pie_types.specs.Whole.{types_in, takes, number_from}
use Rattle.pie_codegen.specs.Functions.{IsCodeOf}
use Rattle.pie_codegen.specs.Pipelines.{AreCodesOf}
use Rattle.pie_builder_laws.specs.Events.{AreCompiled, HasCode}

-- what follows a success
record Follows {A B : Type 0} (o : TypingResult A) (k : A → TypingResult B) (b : B) : Type 0 where
  first : A
  is : o ≡ Ok first
  next : k first ≡ Ok b

followed : {A B : Type 0} (o : TypingResult A) (k : A → TypingResult B) (b : B) → then_on o k ≡ Ok b → Follows o k b
followed (Ok a) k b h = record { first = a; is = refl; next = h }
followed (Err e) k b h = cc

same_ok : {A : Type 0} (x y : A) → ◌≡◌ {A = TypingResult A} (Ok x) (Ok y) → x ≡ y
same_ok x y h = cc

-- ---- headings

param_more : (done : List Entry) (p : Param) (es : List Entry) → with_param done p ≡ Ok es → length es ≡ length done + 1
param_more done p es h =
    let f = followed (may_enter p.name done) (λ _. then_on (written p.kind) (λ t. Ok (with_name done p.name.text t))) es h in
    let g = followed (written p.kind) (λ t. Ok (with_name done p.name.text t)) es f.next in
    ap length (sym (same_ok (with_name done p.name.text g.first) es g.next)) ∙ length-append done (record { name = p.name.text; ty = g.first } ∷ [])

params_many : (done : List Entry) (ps : List Param) (es : List Entry) → params_from done ps ≡ Ok es → length es ≡ length done + length ps
params_many done [] es h = ap length (sym (same_ok done es h)) ∙ omega arith
params_many done (p ∷ ps) es h =
    let f = followed (with_param done p) (λ xs. params_from xs ps) es h in
    omega (arith, params_many f.first ps es f.next, param_more done p f.first f.is)

heading_many : (f : FunctionTree) (h : Heading) → signature_of f ≡ Ok h → length h.params ≡ length f.params
heading_many f h e =
    let g = followed (params_from [] f.params) (λ ps. then_on (written f.result) (λ t. Ok (record { name = f.name.text; params = ps; result = t }))) h e in
    let k = followed (written f.result) (λ t. Ok (record { name = f.name.text; params = g.first; result = t })) h g.next in
    ap (λ (x : Heading). length x.params) (sym (same_ok (record { name = f.name.text; params = g.first; result = k.first }) h k.next))
    ∙ params_many [] f.params g.first g.is ∙ omega arith

-- ---- arguments

as_many : (us : List TyTree) (ts : List Tree) → have_types (parts_of us) (items_of ts) ≡ true → length us ≡ length ts
as_many [] [] h = refl
as_many [] (t ∷ ts) h = cc
as_many (u ∷ us) [] h = cc
as_many (u ∷ us) (t ∷ ts) h = omega (arith, as_many us ts (rest (has_type u t) h))
  where
    rest : (b : Bool) → (b && have_types (parts_of us) (items_of ts)) ≡ true → have_types (parts_of us) (items_of ts) ≡ true
    rest true k = k
    rest false k = cc

takes_many : (f : FunctionTree) (t : Task) → takes (signature_of f) t ≡ true → length t.args ≡ length f.params
takes_many f t = by (signature_of f) refl
  where
    by : (o : TypingResult Heading) → signature_of f ≡ o → takes o t ≡ true → length t.args ≡ length f.params
    by (Ok h) e k = sym (as_many (types_in h.params) t.args k) ∙ length-map h.params (λ (x : Entry). x.ty) ∙ heading_many f h e
    by (Err x) e k = cc

-- ---- numbers

-- the function with a number takes the task
record IsNumbered (m n : ℕ) (fs : List FunctionTree) (t : Task) : Type 0 where
  place : ℕ
  is : n ≡ m + place
  function : FunctionTree
  there : slice_get fs place ≡ Some function
  fits : takes (signature_of function) t ≡ true

numbered : (m n : ℕ) (fs : List FunctionTree) (t : Task) → number_from m fs t ≡ Some n → IsNumbered m n fs t
numbered m n [] t h = cc
numbered m n (f ∷ fs) t h = by (bytes_eq t.func f.name.text) (takes (signature_of f) t) refl h (numbered (m + 1) n fs t)
  where
    same : Some m ≡ Some n → n ≡ m
    same k = cc

    by : (b c : Bool) → takes (signature_of f) t ≡ c → cond b (cond c (Some m) None) (number_from (m + 1) fs t) ≡ Some n
        → (number_from (m + 1) fs t ≡ Some n → IsNumbered (m + 1) n fs t) → IsNumbered m n (f ∷ fs) t
    by true true e k r = record { place = 0; is = same k ∙ omega arith; function = f; there = refl; fits = e }
    by true false e k r = cc
    by false c e k r =
        let x = r k in record { place = suc x.place; is = x.is ∙ omega arith; function = x.function; there = x.there; fits = x.fits }

-- the code in a function's place
record HasItsCode (cs : List Code) (n : ℕ) (f : FunctionTree) : Type 0 where
  code : Code
  there : slice_get cs n ≡ Some code
  is : IsCodeOf f code

code_at : (fs : List FunctionTree) (cs : List Code) (n : ℕ) (f : FunctionTree) → AreCodesOf fs cs → slice_get fs n ≡ Some f → HasItsCode cs n f
code_at [] cs n f a e = absurd (none e)
  where
    none : None ≡ Some f → ⊥
    none h = cc
code_at (g ∷ fs) [] n f a e = absurd a
code_at (g ∷ fs) (c ∷ cs) zero f a e = record { code = c; there = refl; is = subst (λ (x : FunctionTree). IsCodeOf x c) (same e) a.0 }
  where
    same : Some g ≡ Some f → g ≡ f
    same h = cc
code_at (g ∷ fs) (c ∷ cs) (suc n) f a e = let r = code_at fs cs n f a.1 e in record { code = r.code; there = r.there; is = r.is }

pub code_found : (fs : List FunctionTree) (codes : List Code) (t : Task) (n : ℕ) → AreCompiled fs codes → number_from 0 fs t ≡ Some n → HasCode codes n t
code_found fs codes t n c h =
    let x = numbered 0 n fs t h in
    let place_is : x.place ≡ n = omega (arith, x.is) in
    let r = code_at fs codes x.place x.function c.compiled x.there in
    record {
      code = r.code;
      is = ap (slice_get codes) (sym place_is) ∙ r.there;
      takes = takes_many x.function t x.fits ∙ sym r.is.params;
    }
