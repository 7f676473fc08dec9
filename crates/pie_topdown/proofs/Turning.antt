-- Steps and roots, one after another, in the words of the model.
use Rattle.std.proofs.Common.{◌≡◌, ℕ, ◌+◌, ◌<◌, ◌≤◌, true, false, List, [], ◌∷◌, ◌++◌, Option, None, Some, length, map, take, drop, get_or, sym, ap, subst, ◌∙◌, inl, inr}
use Rattle.std.proofs.lemmas.List.{map-append, take_more, take_all, drop_more, take-append-drop}
use Rattle.pie_value.specs.declared.task.Task.{Task}
use Rattle.pie_value.specs.declared.verdict.Refusal.{Refusal}
use Rattle.pie_value.specs.Canonical.{enc_task}
use Rattle.pie_files.specs.Directory.{Directory}
use Rattle.pie_store.specs.inner.Offers.{Offered}
use Rattle.pie_model.specs.Paths.{among}
use Rattle.pie_model.specs.Verdict.{verdict}
use Rattle.pie_model.proofs.Basics.{among_here, among_right}
use Rattle.pie_model_pipeline.specs.Rows.{refusal_of}
use Rattle.pie_model_pipeline.specs.World.{world}
use Rattle.pie_core_laws.specs.Update.{Update, present}
use Rattle.pie_topdown.specs.declared.builder.Builder.{Builder}
use Rattle.pie_topdown.specs.declared.hand.Hand.{Hand}
use Rattle.pie_topdown.specs.declared.hand.Turn.{Turn}
use Rattle.pie_topdown.specs.declared.hand.Turn.TheVariants.{Goes, Rests, Many, Fails}
use Rattle.pie_topdown.specs.declared.plan.Plan.{Plan}
use Rattle.pie_topdown.specs.inner.Right.{IsPlanNow, AreOffersHonest, IsRight, StepsRight, TurnIsRight}
use Rattle.pie_topdown.specs.inner.Rooted.{HasSettledRight, IsBuildOf, IsSettledSoFar, RunsOnRight, SettlesAllRight, SettlesRight, StaysRight}

-- by the files and the offers as they are between two calls, of the same plan
pub build_then : (u : Update) (held mid : Option Directory) (told later : Directory → Task → List ℕ → List Offered) (p q : Plan) → mid ≡ held → later ≡ told → q ≡ p
    → IsBuildOf u held told p → IsBuildOf u mid later q
build_then u held mid told later p q same offers plan is = record {
  holds = same ∙ is.holds;
  plan = subst (IsPlanNow u) (sym plan) is.plan;
  honest = subst (λ x. AreOffersHonest u x later) (sym plan) (subst (AreOffersHonest u p) (sym offers) is.honest);
}

-- ---- the steps of a root

pub stays_first : (held : Option Directory) (told : Directory → Task → List ℕ → List Offered) (b : Builder) (h : Hand) → StaysRight held told b h b h
stays_first held told b h u done root of is = is

module _ (held mid : Option Directory) (told later : Directory → Task → List ℕ → List Offered) (a b c : Builder) (h g : Hand) (turn : Turn) (same : mid ≡ held)
    (offers : later ≡ told) (plan : b.plan ≡ a.plan) (before : StaysRight held told a h b g) (step : StepsRight mid later b g c turn) where
  turned : (u : Update) (done : List (List ℕ)) (root : List ℕ) → IsBuildOf u held told a.plan → IsRight u done root a h → TurnIsRight u done root c turn
  turned u done root of is =
      let now = build_then u held mid told later a.plan b.plan same offers plan of in
      step u done root now.holds now.plan now.honest (before u done root of is)

  pub stays_on : (next : Hand) → turn ≡ Goes next → StaysRight held told a h c next
  stays_on next goes u done root of is = subst (TurnIsRight u done root c) goes (turned u done root of is)

  pub stops_rests : turn ≡ Rests → RunsOnRight held told a h c true
  stops_rests rests u done root of is = subst (TurnIsRight u done root c) rests (turned u done root of is)

  pub stops_many : turn ≡ Many → RunsOnRight held told a h c false
  stops_many many u done root of is = inl (subst (TurnIsRight u done root c) many (turned u done root of is))

  pub stops_fails : turn ≡ Fails → RunsOnRight held told a h c false
  stops_fails fails u done root of is = inr (subst (TurnIsRight u done root c) fails (turned u done root of is))

-- ---- the roots

pub none_settled : (held : Option Directory) (told : Directory → Task → List ℕ → List Offered) (b : Builder) (roots : List Task)
    → HasSettledRight held told b roots (take 0 roots) b
none_settled held told b roots u of are begun = begun

pub all_settled : (held : Option Directory) (told : Directory → Task → List ℕ → List Offered) (a b : Builder) (roots : List Task) (i : ℕ) → length roots ≤ i
    → HasSettledRight held told a roots (take i roots) b → SettlesAllRight held told a roots b None
all_settled held told a b roots i past so_far u of are begun =
    subst (λ ts. IsSettledSoFar u ts b) are
    (subst (λ (ts : List Task). IsSettledSoFar u (map enc_task ts) b) (take_all i roots past) (so_far u of are begun))

module _ (held mid : Option Directory) (told later : Directory → Task → List ℕ → List Offered) (a b c : Builder) (roots : List Task) (i : ℕ) (t : Task)
    (inside : i < length roots) (at : t ≡ get_or roots i t) (same : mid ≡ held) (offers : later ≡ told) (plan : b.plan ≡ a.plan)
    (before : HasSettledRight held told a roots (take i roots) b) where
  -- the roots before it, it, and those after it
  pub split : map enc_task (take i roots) ++ enc_task t ∷ map enc_task (drop (i + 1) roots) ≡ map enc_task roots
  split =
      let front : drop i roots ≡ t ∷ drop (i + 1) roots = drop_more roots i t inside ∙ ap (λ (x : Task). x ∷ drop (i + 1) roots) (sym at) in
      sym (map-append enc_task (take i roots) (t ∷ drop (i + 1) roots))
      ∙ ap (map enc_task) (ap (λ (ts : List Task). take i roots ++ ts) (sym front) ∙ take-append-drop i roots)

  one_more : map enc_task (take (i + 1) roots) ≡ map enc_task (take i roots) ++ enc_task t ∷ []
  one_more =
      ap (map enc_task) (take_more roots i t inside ∙ ap (λ (x : Task). take i roots ++ x ∷ []) (sym at)) ∙ map-append enc_task (take i roots) (t ∷ [])

  pub listed : (u : Update) → map enc_task roots ≡ u.roots → among (enc_task t) u.roots ≡ true
  listed u are =
      subst (λ ts. among (enc_task t) ts ≡ true) (split ∙ are)
      (among_right (enc_task t) (map enc_task (take i roots)) (enc_task t ∷ map enc_task (drop (i + 1) roots))
      (among_here (enc_task t) (map enc_task (drop (i + 1) roots))))

  pub settled_one : SettlesRight mid later b t c None → HasSettledRight held told a roots (take (i + 1) roots) c
  settled_one settles u of are begun =
      subst (λ ts. IsSettledSoFar u ts c) (sym one_more)
      (settles u (map enc_task (take i roots)) (build_then u held mid told later a.plan b.plan same offers plan of) (listed u are) (before u of are begun))

  pub refused_one : (why : Refusal) → SettlesRight mid later b t c (Some why) → SettlesAllRight held told a roots c (Some why)
  refused_one why settles u of are begun =
      subst (λ ts. verdict world (present u) ts ≡ refusal_of why) (split ∙ are)
      (settles u (map enc_task (take i roots)) (build_then u held mid told later a.plan b.plan same offers plan of) (listed u are) (before u of are begun)
      (map enc_task (drop (i + 1) roots)))
