-- One answer more that fits what a function waits for.
use Rattle.std.proofs.Common.{◌≡◌, ◌⊎◌, inl, inr, ℕ, true, List, [], ◌∷◌, ◌++◌, map, refl, sym, ap, subst, ◌∙◌}
use Rattle.std.proofs.lemmas.List.{map-append}
use Rattle.pie_value.specs.declared.event.Answer.{Answer}
use Rattle.pie_value.specs.declared.event.Event.{Event}
use Rattle.pie_value.specs.Tree.{Tree as Val, TPath, TList, items_of}
use Rattle.pie_value.specs.Types.{ListTy, PathTy}
use Rattle.pie_value.specs.HasType.{has_type}
use Rattle.pie_operators.specs.Domain.{Outcome, wants}
use Rattle.pie_parser.specs.FunctionTrees.{FunctionTree}
use Rattle.pie_types.specs.Headings.{Heading}
use Rattle.pie_semantics.specs.Meaning.{next_of}
use Rattle.pie_type_laws.specs.Fitting.{AnswerFits}
use Rattle.pie_type_laws.specs.NeverStuck.{AnswersFit}
use Rattle.pie_model.specs.declared.words.Answer.{Answer as ModelAnswer}
use Rattle.pie_model_pipeline.specs.Answers.{answer_of}

-- where a list with one more element is parted: at that element, or before it
parted : {A : Type 0} (xs : List A) (x y : A) (front back : List A) → xs ++ x ∷ [] ≡ front ++ y ∷ back
    → ((front ≡ xs) × (y ≡ x)) ⊎ ((rest : List A) × (xs ≡ front ++ y ∷ rest))
parted {A} [] x y [] back h = inl (refl, same h)
  where
    same : x ∷ [] ≡ y ∷ back → y ≡ x
    same k = cc
parted {A} [] x y (z ∷ zs) back h = absurd (long zs (rest h))
  where
    rest : x ∷ [] ≡ z ∷ (zs ++ y ∷ back) → [] ≡ zs ++ y ∷ back
    rest k = cc

    long : (us : List A) → [] ≡ us ++ y ∷ back → ⊥
    long [] k = cc
    long (u ∷ us) k = cc
parted {A} (w ∷ ws) x y [] back h = inr (ws, ap (λ z. z ∷ ws) (same h))
  where
    same : w ∷ (ws ++ x ∷ []) ≡ y ∷ back → w ≡ y
    same k = cc
parted {A} (w ∷ ws) x y (z ∷ zs) back h = by (parted ws x y zs back (rest h))
  where
    same : w ∷ (ws ++ x ∷ []) ≡ z ∷ (zs ++ y ∷ back) → z ≡ w
    same k = cc

    rest : w ∷ (ws ++ x ∷ []) ≡ z ∷ (zs ++ y ∷ back) → ws ++ x ∷ [] ≡ zs ++ y ∷ back
    rest k = cc

    by : ((zs ≡ ws) × (y ≡ x)) ⊎ ((r : List A) × (ws ≡ zs ++ y ∷ r)) → ((z ∷ zs ≡ w ∷ ws) × (y ≡ x)) ⊎ ((r : List A) × (w ∷ ws ≡ z ∷ (zs ++ y ∷ r)))
    by (inl k) = inl ((λ i. same h i ∷ k.0 i), k.1)
    by (inr k) = inr (k.0, λ i. sym (same h) i ∷ k.1 i)

pub none_fit : (hs : List Heading) (f : FunctionTree) (args : List Val) → AnswersFit hs f args []
none_fit hs f args before after a e h k = absurd (long before h)
  where
    long : (us : List Answer) → [] ≡ us ++ a ∷ after → ⊥
    long [] i = cc
    long (u ∷ us) i = cc

wants_same : (d e : Event) → ◌≡◌ {A = Outcome Val} (wants d) (wants e) → d ≡ e
wants_same d e h = cc

one_fits : (hs : List Heading) (f : FunctionTree) (args : List Val) (given : List Answer) (e : Event) (a : Answer) → (next_of f args given).0 ≡ wants e
    → AnswerFits hs e a → AnswersFit hs f args given → AnswersFit hs f args (given ++ a ∷ [])
one_fits hs f args given e a asks fits fit before after b d h k = by (parted given a b before after h)
  where
    by : ((before ≡ given) × (b ≡ a)) ⊎ ((rest : List Answer) × (given ≡ before ++ b ∷ rest)) → AnswerFits hs d b
    by (inl s) =
        let same : e ≡ d = wants_same e d (sym asks ∙ ap (λ xs. (next_of f args xs).0) (sym s.0) ∙ k) in
        subst (λ (z : Event × Answer). AnswerFits hs z.0 z.1) (λ x. (same x, sym s.1 x)) fits
    by (inr s) = fit before s.0 b d s.1 k

-- the same of an answer of the model
pub more_fit : (hs : List Heading) (f : FunctionTree) (args : List Val) (given : List ModelAnswer) (e : Event) (a : ModelAnswer)
    → (next_of f args (map answer_of given)).0 ≡ wants e → AnswerFits hs e (answer_of a) → AnswersFit hs f args (map answer_of given)
    → AnswersFit hs f args (map answer_of (given ++ a ∷ []))
more_fit hs f args given e a asks fits fit =
    subst (AnswersFit hs f args) (sym (map-append answer_of given (a ∷ []))) (one_fits hs f args (map answer_of given) e (answer_of a) asks fits fit)

pub paths_fit : (ps : List (List ℕ)) → has_type (ListTy PathTy) (TList (items_of (map TPath ps))) ≡ true
paths_fit [] = refl
paths_fit (p ∷ ps) = paths_fit ps
