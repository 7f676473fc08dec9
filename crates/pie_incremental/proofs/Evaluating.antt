-- An evaluation of the roots, as the model of building knows it.
use Rattle.std.proofs.Common.{◌≡◌, ◌⊎◌, inl, inr, ℕ, ◌-◌, List, map, Option, sym, ap, subst, ◌∙◌}
use Rattle.pie_bottomup.specs.declared.plan.Plan.{Plan}
use Rattle.pie_bottomup.specs.declared.state.Core.{Core}
use Rattle.pie_bottomup.specs.declared.state.First.TheVariants.{Done}
use Rattle.pie_bottomup.specs.declared.state.Turn.{Turn}
use Rattle.pie_bottomup.specs.declared.state.Turn.TheVariants.{Went, Settled, StartAfresh}
use Rattle.pie_bottomup.specs.inner.Causes.{HadTooMany, HasAllTasks, IsCauseOf, count_old}
use Rattle.pie_bottomup.specs.inner.Exact.{IsExactCore, IsSiteNow}
use Rattle.pie_bottomup.specs.inner.Going.{IsBuildNow, IsWhole, StandsWhole, StepsWhole, TurnIsWhole}
use Rattle.pie_bottomup.specs.inner.Loaded.{BeginsExact, BeginsMany}
use Rattle.pie_bottomup.specs.inner.Made.{MadeExact, MakesClean}
use Rattle.pie_bottomup.specs.inner.States.{HasSettled, IsPlanOf}
use Rattle.pie_builder_laws.specs.Events.{AreCompiled}
use Rattle.pie_checks.specs.declared.built.Built.{Built as Result}
use Rattle.pie_code.specs.declared.code.Code.{Code}
use Rattle.pie_core_laws.specs.Keeping.{Separates}
use Rattle.pie_core_laws.specs.Update.{Update, present}
use Rattle.pie_files.specs.Directory.{Directory}
use Rattle.pie_left_laws.specs.Accepted.{OutIsMet, KeptAreThere}
use Rattle.pie_left_laws.proofs.Resting.{kept_are_there}
use Rattle.pie_left_laws.proofs.Settling.{is_accepted}
use Rattle.pie_model.specs.Verdict.{verdict}
use Rattle.pie_model_pipeline.specs.Clean.{with_output}
use Rattle.pie_model_pipeline.specs.Rows.{verdict_of}
use Rattle.pie_model_pipeline.specs.World.{world}
use Rattle.pie_parser.specs.FunctionTrees.{FunctionTree}
use Rattle.pie_record.specs.declared.task_record.TaskRecord.{TaskRecord}
use Rattle.pie_store.specs.declared.cause.Cause.{Cause}
use Rattle.pie_store.specs.declared.cause.Cause.TheVariants as causes
use Rattle.pie_store.specs.declared.image.StoreImage.{StoreImage}
use Rattle.pie_value.specs.Canonical.{enc_task}
use Rattle.pie_value.specs.declared.task.Task.{Task}
use Rattle.pie_incremental.specs.inner.Causes.{IsCauseNow}
use Rattle.pie_incremental.specs.inner.Evaluated.{BeginsNow, EndsStanding, IsResultOf, MakesExact, ResultsExact, StaysStanding, StopsFor, StopsWhere}

-- ---- how it begins

pub begins_now : (fs : List FunctionTree) (codes : List Code) (funcs digests : List (List ℕ × List ℕ)) (rows : List TaskRecord) (names : List (List ℕ))
    (roots : List Task) (c : Core) → IsPlanOf fs digests roots c.plan → (c.first ≡ Done → ⊥) → c.plan.code.now ≡ codes → BeginsExact funcs digests rows names c
    → BeginsMany funcs digests rows names c → BeginsNow fs codes roots funcs digests rows names c
begins_now fs codes funcs digests rows names roots c plan fresh code begins past = record {
  each = λ u held here compiled stored. (
    record {
      plan = record {
        update = here.update;
        functions = plan.typed ∙ here.functions;
        compiled = subst (AreCompiled u.functions) (sym code) (subst (λ (gs : List FunctionTree). AreCompiled gs codes) here.functions compiled);
      };
      roots = sym here.roots_are ∙ ap (λ (ts : List Task). map enc_task ts) (sym plan.roots);
      apart = here.separates;
    },
    inl (fresh, (λ tests. begins u stored tests), λ task many. past u stored task many),
  );
}

-- ---- its steps

-- a cause to start afresh holds, whatever became of the core
cause_now : (u : Update) (c : Core) (cause : Cause) → IsCauseOf u c cause → IsCauseNow u cause
cause_now u c causes.Interrupted is = is
cause_now u c causes.NoStore is = is
cause_now u c (causes.Damaged fault) is = is
cause_now u c causes.BadPending is = is
cause_now u c (causes.UnionCycle tasks) ring = record { ring = ring.ring; reached = ring.reached }
cause_now u c (causes.UnionMany old new task) is = (by is.0, record { olds = is.1.olds; news = is.1.news; these = is.1.these })
  where
    by : HasAllTasks u c old new task ⊎ HadTooMany c old new task → ((old ≡ count_old u) × (new ≡ 50000 - count_old u)) ⊎ ((old ≡ 50000) × (new ≡ 0))
    by (inl all) = inl (all.left, all.came)
    by (inr many) = inr (many.all, many.none)

pub stands_first : (held : Option Directory) (c : Core) → StaysStanding held c c
stands_first held c u site now stands = stands

module _ (held mid : Option Directory) (a b c : Core) (turn : Turn) (same : mid ≡ held) (plan : b.plan ≡ a.plan) (before : StaysStanding held a b)
    (step : StepsWhole mid b c turn) where
  turned : (u : Update) → IsSiteNow u held → IsBuildNow u a.plan → StandsWhole u a → TurnIsWhole u c turn
  turned u site now stands =
      subst (λ m. StepsWhole m b c turn) same step u (subst (λ (p : Plan). IsBuildNow u p) (sym plan) now) site (before u site now stands)

  pub stands_on : turn ≡ Went → StaysStanding held a c
  stands_on went u site now stands = inr (subst (TurnIsWhole u c) went (turned u site now stands))

  pub stands_end : turn ≡ Settled → EndsStanding held a c
  stands_end settled u site now stands =
      let whole : IsWhole u c = subst (TurnIsWhole u c) settled (turned u site now stands) in
      whole.exact

  pub stops_for : (cause : Cause) → turn ≡ StartAfresh cause → StopsFor held a cause
  stops_for cause stops u site now stands = cause_now u c cause (subst (TurnIsWhole u c) stops (turned u site now stands))

-- ---- what it makes

module _ (c : Core) (roots : List Task) (b : Result) (settled : HasSettled c) (are : c.plan.roots.items ≡ roots) (makes : MadeExact c b) (u : Update)
    (e : IsExactCore u c) (apart : Separates u) (met : OutIsMet u) (same : map enc_task roots ≡ u.roots) where
  made_clean : MakesClean u c b
  made_clean = makes u e apart

  all_roots : map enc_task c.plan.roots.items ≡ u.roots
  all_roots = ap (λ (ts : List Task). map enc_task ts) are ∙ same

  now_verdict : verdict_of b.verdict ≡ verdict world (present u) u.roots
  now_verdict = made_clean.verdict ∙ ap (verdict world (present u)) all_roots

  there : KeptAreThere u c.tables c.frames.walk
  there = kept_are_there u c.tables c.frames.walk settled.rests.stands e.are.written.there

  results : IsResultOf u b
  results = record {
    verdict = now_verdict;
    made = λ accepted.
        is_accepted u c.tables c.frames.walk e.are.tables settled.rests.stands apart met there c.plan.roots.items b all_roots
        (sym now_verdict ∙ ap verdict_of accepted) (made_clean.clean accepted) (made_clean.files accepted);
    outputs = λ accepted. (made_clean.clean accepted).outputs ∙ ap (map (with_output u.functions u.directory)) all_roots;
  }

pub results_exact : (c : Core) (roots : List Task) (b : Result) → HasSettled c → c.plan.roots.items ≡ roots → MadeExact c b → ResultsExact c roots b
results_exact c roots b settled are makes = record { each = λ u e apart met same. results c roots b settled are makes u e apart met same }

-- ---- all of it

pub evaluated : (held : Option Directory) (fs : List FunctionTree) (codes : List Code) (digests : List (List ℕ × List ℕ)) (roots : List Task) (s : StoreImage)
    (names : List (List ℕ)) (old new : Core) (b : Result) → AreCompiled fs codes → BeginsNow fs codes roots s.funcs digests s.rows names old
    → EndsStanding held old new → ResultsExact new roots b → MakesExact held fs digests roots s names b
evaluated held fs codes digests roots s names old new b compiled begins settles makes = record {
  each = λ u here stored.
      let begun = begins.each u held here compiled stored in
      let site : IsSiteNow u held = record { holds = here.holds; apart = here.separates; besides = here.met } in
      makes.each u (settles u site begun.0 begun.1) here.separates here.met here.roots_are;
}

-- where it has to start afresh
pub evaluated_stops : (held : Option Directory) (fs : List FunctionTree) (codes : List Code) (digests : List (List ℕ × List ℕ)) (roots : List Task)
    (s : StoreImage) (names : List (List ℕ)) (c : Core) (cause : Cause) → AreCompiled fs codes → BeginsNow fs codes roots s.funcs digests s.rows names c
    → StopsFor held c cause → StopsWhere held fs digests roots s names cause
evaluated_stops held fs codes digests roots s names c cause compiled begins stops = record {
  each = λ u here stored.
      let begun = begins.each u held here compiled stored in
      let site : IsSiteNow u held = record { holds = here.holds; apart = here.separates; besides = here.met } in
      stops u site begun.0 begun.1;
}
