-- Answers that fit, and what follows from them.
use Rattle.std.proofs.Common.{◌≡◌, ◌⊎◌, inl, inr, ℕ, true, Some, None, List, [], ◌∷◌, ◌++◌, map, refl, sym, ap, subst, ◌∙◌}
use Rattle.std.specs.Prelude.{slice_get}
use Rattle.pie_value.specs.declared.event.Answer.{Answer}
use Rattle.pie_value.specs.declared.event.By.{By}
use Rattle.pie_value.specs.declared.event.Event.{Event}
use Rattle.pie_value.specs.declared.event.Event.TheVariants as events
use Rattle.pie_value.specs.declared.event.How.{How}
use Rattle.pie_value.specs.declared.event.How.TheVariants.{Whole, Hashed, Ran}
use Rattle.pie_value.specs.declared.task.Task.{Task}
use Rattle.pie_value.specs.declared.value.Value.{Value}
use Rattle.pie_value.specs.Tree.{Tree, TPath, TList, items_of}
use Rattle.pie_value.specs.Values.{tree_of}
use Rattle.pie_value.specs.Types.{ListTy, PathTy}
use Rattle.pie_value.specs.HasType.{has_type}
use Rattle.pie_operators.specs.Domain.{Outcome, done, wants, State}
use Rattle.pie_code.specs.declared.code.Code.{Code}
use Rattle.pie_code.specs.Running.{start}
use Rattle.pie_parser.specs.FunctionTrees.{FunctionTree}
use Rattle.pie_types.specs.Headings.{Heading, function_in}
use Rattle.pie_types.specs.Whole.{number_from}
use Rattle.pie_types.specs.inner.WholeRules.{IsTyped, typed}
use Rattle.pie_semantics.specs.Meaning.{next_of}
use Rattle.pie_type_laws.specs.Fitting.{AnswerFits, OutputFits}
use Rattle.pie_type_laws.specs.NeverStuck.{RunsWell}
use Rattle.pie_type_laws.proofs.Whole.{never_stuck}
use Rattle.pie_codegen.proofs.Whole.{one_event}
use Rattle.pie_builder_laws.specs.Looks.{Sight, presence_answer, reading_answer, digest_answer}
use Rattle.pie_builder_laws.specs.Requiring.{requiring_answer}
use Rattle.pie_builder_laws.specs.Fits.{HasHeadings, Fit, EvaluatesTo, AnswersOfBuildersFit}
use Rattle.pie_builder_laws.proofs.Coded.{function_of}

some_one : {X : Type 0} (x y : X) → Some x ≡ Some y → x ≡ y
some_one x y h = cc

pub headings_of : (fs : List FunctionTree) → IsTyped fs → (hs : List Heading) × HasHeadings fs hs
headings_of _ (typed {fs = gs} {hs = hs} d k) = (hs, record { types = typed d k; declared = d })

-- what the code evaluates to its function does
comes_is : (fs : List FunctionTree) (codes : List Code) (t : Task) (given : List Answer) (o : Outcome Tree) (c : EvaluatesTo fs codes t given o)
    (f : FunctionTree) → slice_get fs c.number ≡ Some f → (next_of f t.args given).0 ≡ o
comes_is fs codes t given o c f e =
    let g = function_of fs codes c.number c.code c.compiled.compiled c.compiled.means c.coded in
    let same : f ≡ g.function = some_one f g.function (sym e ∙ g.is) in
    ap (λ x. (next_of x t.args given).0) same
    ∙ ap (λ (z : Outcome Tree × State). z.0) (one_event c.code (start c.code t.args given) (next_of g.function t.args given) (o, c.state)
    (g.means.comes t.args given (c.takes ∙ g.code_of.params)) c.comes)

-- ---- one answer more

-- where a list with one more element is parted: at that element, or before it
parted : {A : Type 0} (xs : List A) (x y : A) (front back : List A) → xs ++ x ∷ [] ≡ front ++ y ∷ back
    → ((front ≡ xs) × (y ≡ x)) ⊎ ((rest : List A) × (xs ≡ front ++ y ∷ rest))
parted {A} [] x y [] back h = inl (refl, same h)
  where
    same : x ∷ [] ≡ y ∷ back → y ≡ x
    same k = cc
parted {A} [] x y (z ∷ zs) back h = absurd (long zs (rest h))
  where
    rest : x ∷ [] ≡ z ∷ (zs ++ y ∷ back) → [] ≡ zs ++ y ∷ back
    rest k = cc

    long : (us : List A) → [] ≡ us ++ y ∷ back → ⊥
    long [] k = cc
    long (u ∷ us) k = cc
parted {A} (w ∷ ws) x y [] back h = inr (ws, ap (λ z. z ∷ ws) (same h))
  where
    same : w ∷ (ws ++ x ∷ []) ≡ y ∷ back → w ≡ y
    same k = cc
parted {A} (w ∷ ws) x y (z ∷ zs) back h = by (parted ws x y zs back (rest h))
  where
    same : w ∷ (ws ++ x ∷ []) ≡ z ∷ (zs ++ y ∷ back) → z ≡ w
    same k = cc

    rest : w ∷ (ws ++ x ∷ []) ≡ z ∷ (zs ++ y ∷ back) → ws ++ x ∷ [] ≡ zs ++ y ∷ back
    rest k = cc

    by : ((zs ≡ ws) × (y ≡ x)) ⊎ ((r : List A) × (ws ≡ zs ++ y ∷ r)) → ((z ∷ zs ≡ w ∷ ws) × (y ≡ x)) ⊎ ((r : List A) × (w ∷ ws ≡ z ∷ (zs ++ y ∷ r)))
    by (inl k) = inl ((λ i. same h i ∷ k.0 i), k.1)
    by (inr k) = inr (k.0, λ i. sym (same h) i ∷ k.1 i)

pub no_answers : (fs : List FunctionTree) (hs : List Heading) (t : Task) → Fit fs hs t []
no_answers fs hs t n f e g before after a ev h k = absurd (long before h)
  where
    long : (us : List Answer) → [] ≡ us ++ a ∷ after → ⊥
    long [] i = cc
    long (u ∷ us) i = cc

wants_same : (d e : Event) → ◌≡◌ {A = Outcome Tree} (wants d) (wants e) → d ≡ e
wants_same d e h = cc

pub more_answers : (fs : List FunctionTree) (hs : List Heading) (codes : List Code) (t : Task) (given : List Answer) (e : Event) (a : Answer)
    → EvaluatesTo fs codes t given (wants e) → AnswerFits hs e a → Fit fs hs t given → Fit fs hs t (given ++ a ∷ [])
more_answers fs hs codes t given e a c fits before_fit n f i j before after b d h k = by (parted given a b before after h)
  where
    number_is : n ≡ c.number
    number_is = some_one n c.number (sym i ∙ c.numbered)

    asked : (next_of f t.args given).0 ≡ wants e
    asked = comes_is fs codes t given (wants e) c f (ap (slice_get fs) (sym number_is) ∙ j)

    by : ((before ≡ given) × (b ≡ a)) ⊎ ((rest : List Answer) × (given ≡ before ++ b ∷ rest)) → AnswerFits hs d b
    by (inl s) =
        let same : e ≡ d = wants_same e d (sym asked ∙ ap (λ xs. (next_of f t.args xs).0) (sym s.0) ∙ k) in
        subst (λ (z : Event × Answer). AnswerFits hs z.0 z.1) (λ x. (same x, sym s.1 x)) fits
    by (inr s) = before_fit n f i j before s.0 b d s.1 k

-- ---- what a task then gives

runs_well : (fs : List FunctionTree) (hs : List Heading) (codes : List Code) (t : Task) (given : List Answer) (o : Outcome Tree) → HasHeadings fs hs
    → EvaluatesTo fs codes t given o → Fit fs hs t given → (h : Heading) × (function_in t.func hs ≡ Some h) × RunsWell hs h.result o
runs_well fs hs codes t given o H c fit =
    let r = (never_stuck fs hs H.types H.declared).runs t c.number c.numbered in
    (r.1, r.3, subst (RunsWell hs r.1.result) (comes_is fs codes t given o c r.0 r.2) (r.4 given (fit c.number r.0 c.numbered r.2)))

pub required_known : (fs : List FunctionTree) (hs : List Heading) (codes : List Code) (t : Task) (given : List Answer) (u : Task) (how : How)
    → HasHeadings fs hs → EvaluatesTo fs codes t given (wants (events.Require u how)) → Fit fs hs t given → (n : ℕ) × (number_from 0 fs u ≡ Some n)
required_known fs hs codes t given u how H c fit =
    ((never_stuck fs hs H.types H.declared).found u).0 ((runs_well fs hs codes t given (wants (events.Require u how)) H c fit).2.required u how refl)

pub output_fits : (fs : List FunctionTree) (hs : List Heading) (codes : List Code) (t : Task) (given : List Answer) (v : Tree) → HasHeadings fs hs
    → EvaluatesTo fs codes t given (done v) → Fit fs hs t given → OutputFits (function_in t.func hs) v
output_fits fs hs codes t given v H c fit =
    let r = runs_well fs hs codes t given (done v) H c fit in
    subst (λ o. OutputFits o v) (sym r.1) (r.2.result v refl)

-- ---- what a builder answers

paths_fit : (ps : List (List ℕ)) → has_type (ListTy PathTy) (TList (items_of (map TPath ps))) ≡ true
paths_fit [] = refl
paths_fit (p ∷ ps) = paths_fit ps

requiring_fits : (hs : List Heading) (u : Task) (how : How) (v : Value) → OutputFits (function_in u.func hs) (tree_of v)
    → AnswerFits hs (events.Require u how) (requiring_answer how v)
requiring_fits hs u Whole v h = h
requiring_fits hs u Hashed v h = h
requiring_fits hs u Ran v h = tt

presence_fits : (hs : List Heading) (p : List ℕ) (seen : Sight) → AnswerFits hs (events.Exists p) (presence_answer seen)
presence_fits hs p None = tt
presence_fits hs p (Some f) = tt

reading_fits : (hs : List Heading) (p : List ℕ) (by : By) (seen : Sight) → AnswerFits hs (events.Read p by) (reading_answer seen)
reading_fits hs p by None = tt
reading_fits hs p by (Some f) = tt

digest_fits : (hs : List Heading) (p : List ℕ) (seen : Sight) → AnswerFits hs (events.Digest p) (digest_answer seen)
digest_fits hs p None = tt
digest_fits hs p (Some f) = tt

pub builders_fit : (hs : List Heading) → AnswersOfBuildersFit hs
builders_fit hs = record {
  presences = presence_fits hs;
  readings = reading_fits hs;
  digests = digest_fits hs;
  listings = λ p es. paths_fit es;
  outputs = requiring_fits hs;
}
