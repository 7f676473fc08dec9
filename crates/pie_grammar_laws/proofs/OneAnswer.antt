-- The facts on answers exclude each other, and each fixes its place: out of memory aside, the tokens leave one answer.
use Rattle.std.proofs.Common.{◌≡◌, ◌⊎◌, inl, inr, ℕ, true, List, [], ◌∷◌, ◌++◌, refl, sym, subst, ap, ◌∙◌, append_assoc, arith}
use Rattle.std.proofs.lemmas.List.{append-nil}
use Rattle.pie_lexer.specs.declared.token.Token.{Token}
use Rattle.pie_parser.specs.Kinds.{kind_of_token}
use Rattle.pie_parser.specs.Places.{start_of}
use Rattle.pie_parser.specs.FunctionReading.{last_end}
use Rattle.pie_parser.specs.FunctionTrees.{FunctionTree}
use Rattle.pie_parser.specs.FunctionGrammar.{IsPipeline}
use Rattle.pie_grammar_laws.specs.Brackets.{opens, open_after, IsShallow}
use Rattle.pie_grammar_laws.specs.Refusals.{BeginsPipeline, CannotGoOn, StopsAt, NestsTooDeepAt}

-- the first part is longer than the second
abbrev Longer : List Token → List Token → List Token → List Token → Type 0
Longer a r b s = (x : Token) × (d : List Token) × (a ≡ b ++ x ∷ d) × (s ≡ x ∷ d ++ r)

heads_same : {x y : Token} {xs ys : List Token} → x ∷ xs ≡ y ∷ ys → (x ≡ y) × (xs ≡ ys)
heads_same h = (cc, cc)

-- of two prefixes of the same tokens one is a prefix of the other
two_prefixes : (a r b s : List Token) → a ++ r ≡ b ++ s → ((a ≡ b) × (r ≡ s)) ⊎ (Longer a r b s ⊎ Longer b s a r)
two_prefixes [] r [] s e = inl (refl, e)
two_prefixes [] r (y ∷ b) s e = inr (inr (y, b, refl, e))
two_prefixes (x ∷ a) r [] s e = inr (inl (x, a, refl, sym e))
two_prefixes (x ∷ a) r (y ∷ b) s e =
    let h = heads_same e in
    elim (two_prefixes a r b s h.1) [
      | inl q ↦ inl (ap (λ c. c ∷ a) h.0 ∙ ap (λ us. y ∷ us) q.0, q.1)
      | inr q ↦ elim q [
        | inl l ↦ inr (inl (l.0, l.1, ap (λ c. c ∷ a) h.0 ∙ ap (λ us. y ∷ us) l.2, l.3))
        | inr l ↦ inr (inr (l.0, l.1, ap (λ c. c ∷ b) (sym h.0) ∙ ap (λ us. x ∷ us) l.2, l.3))
      ]
    ]

-- a prefix of what begins a pipeline begins it
front_begins : (a d : List Token) (x : Token) → BeginsPipeline (a ++ x ∷ d) → BeginsPipeline (a ++ x ∷ [])
front_begins a d x (more, fs, k) =
    (d ++ more, fs, subst (λ us. IsPipeline us fs) (append_assoc a (x ∷ d) more ∙ sym (append_assoc a (x ∷ []) (d ++ more))) k)

-- nothing that begins a pipeline goes on past where the tokens stop
not_past : {a r s : List Token} (b : List Token) → CannotGoOn b s → BeginsPipeline a → Longer a r b s → ⊥
not_past b e k l = subst (CannotGoOn b) l.3 e (front_begins b l.1 l.0 (subst BeginsPipeline l.2 k))

pub stops_once : (ts : List Token) (i j : ℕ) → StopsAt ts i → StopsAt ts j → i ≡ j
stops_once ts i j x y = elim (two_prefixes x.before x.rest y.before y.rest (sym x.splits ∙ y.splits)) [
  | inl q ↦ x.place ∙ ap (start_of (last_end 0 ts)) q.1 ∙ sym y.place
  | inr q ↦ elim q [ inl l ↦ absurd (not_past y.before y.stops x.begins l) | inr l ↦ absurd (not_past x.before x.stops y.begins l) ]
]

pub pipeline_never_stops : (ts : List Token) (fs : List FunctionTree) (i : ℕ) → IsPipeline ts fs → StopsAt ts i → ⊥
pipeline_never_stops ts fs i k x = by_rest x.rest x.splits x.stops
  where
    by_rest : (r : List Token) → ts ≡ x.before ++ r → CannotGoOn x.before r → ⊥
    by_rest [] e h = h fs (subst (λ us. IsPipeline us fs) (e ∙ append-nil x.before) k)
    by_rest (t ∷ r) e h = h (r, fs, subst (λ us. IsPipeline us fs) (e ∙ sym (append_assoc x.before (t ∷ []) r)) k)

-- a bracket inside 64 that stands before the end of a prefix isn't shallow in it
deep_before : {a r rest : List Token} {x : Token} (b : List Token) → IsShallow a → opens (kind_of_token x.kind) ≡ true → open_after 0 b ≡ 64
    → Longer a r b (x ∷ rest) → ⊥
deep_before {a = a} {x = x} b h o n l =
    let e : a ≡ b ++ x ∷ l.1 = l.2 ∙ ap (λ (t : Token). b ++ t ∷ l.1) (sym (heads_same l.3).0) in
    let m = h b x l.1 e o in
    absurd (omega arith)

pub deep_once : (ts : List Token) (i j : ℕ) → NestsTooDeepAt ts i → NestsTooDeepAt ts j → i ≡ j
deep_once ts i j x y = elim (two_prefixes x.before (x.bracket ∷ x.rest) y.before (y.bracket ∷ y.rest) (sym x.splits ∙ y.splits)) [
  | inl q ↦ x.place ∙ ap (λ (t : Token). t.at) (heads_same q.1).0 ∙ sym y.place
  | inr q ↦ elim q [
    | inl l ↦ absurd (deep_before y.before x.shallow y.opening y.inside l)
    | inr l ↦ absurd
        (deep_before x.before y.shallow x.opening x.inside l)
  ]
]

pub shallow_not_deep : (ts : List Token) (i : ℕ) → IsShallow ts → NestsTooDeepAt ts i → ⊥
shallow_not_deep ts i h x = let l = h x.before x.bracket x.rest x.splits x.opening in let n = x.inside in absurd (omega arith)

pub stops_not_deep : (ts : List Token) (i j : ℕ) → StopsAt ts i → NestsTooDeepAt ts j → ⊥
stops_not_deep ts i j x y = elim (two_prefixes x.before x.rest y.before (y.bracket ∷ y.rest) (sym x.splits ∙ y.splits)) [
  | inl q ↦ subst (CannotGoOn x.before) q.1 x.stops (subst (λ us. BeginsPipeline (us ++ y.bracket ∷ [])) (sym q.0) y.begins)
  | inr q ↦ elim q [
    | inl l ↦ deep_before y.before x.shallow y.opening y.inside l
    | inr l ↦ (let e : y.before ++ y.bracket ∷ [] ≡ x.before ++ l.0 ∷ (l.1 ++ y.bracket ∷ []) = ap (λ us. us ++ y.bracket ∷ []) l.2
        ∙ append_assoc x.before (l.0 ∷ l.1) (y.bracket ∷ []) in
        subst (CannotGoOn x.before) l.3 x.stops (front_begins x.before (l.1 ++ y.bracket ∷ []) l.0 (subst BeginsPipeline e y.begins)))
  ]
]
