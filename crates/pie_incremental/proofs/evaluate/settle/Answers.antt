use Rattle.std.proofs.Common.{subst, ◌∙◌}
use Rattle.pie_bottomup.specs.inner.States.{Nearer, TurnsTo, mass}
use Rattle.pie_files.proofs.Reading.{both_before}
use Rattle.pie_incremental.proofs.Asking.{settles_more}
use Rattle.pie_incremental.proofs.Evaluating.{stands_end, stands_on, stops_for}
use Rattle.pie_incremental.proofs.Joining.{few_more, spends_more, started_more}
use Rattle.pie_incremental.proofs.Running.{many_on, none_on, runs_on, settles_runs, stops_runs}
use Rattle.pie_incremental.proofs.evaluate.settle.Goals as goal

pub steps-preserved : goal.steps-preserved
steps-preserved g c =
    let i = c.steps.invariant in
    let s = c.in_ok-step.ensures in (
      subst (TurnsTo c.step.new.self) c.in-Went.is s.steps.turns,
      started_more c.args.runs.now c.steps.runs c.step.new.runs i.1 s.few.starts,
      spends_more c.args.core.now c.steps.core c.step.new.self c.args.runs.now c.steps.runs c.step.new.runs i.2 s.starts.spends,
      s.reads.same ∙ i.3,
      s.reads.counted.steady ∙ i.4,
      stands_on (g.F.Files.holds c.args.files.now) (g.F.Files.holds c.steps.files) c.args.core.now c.steps.core c.step.new.self c.in_ok-step.field-0 i.3
          i.2.plan i.5 s.whole.whole c.in-Went.is,
      both_before g.F.Files.holds g.F.Files.moment g.F.Files.left_since g.F.Files.images c.args.files.now c.steps.files c.step.new.files i.3 i.6 s.reads.crash,
      runs_on (g.F.Files.holds c.args.files.now) (g.F.Files.holds c.steps.files) c.args.core.now c.steps.core c.step.new.self c.in_ok-step.field-0
          c.args.runs.now c.steps.runs c.step.new.runs i.3 i.2.plan s.starts.spends.plan s.starts.spends.tasks i.5 i.7 s.whole.whole s.starts.reasons
          c.in-Went.is,
      many_on c.args.core.now c.steps.core c.step.new.self c.in_ok-step.field-0 i.8 s.whole.many c.in-Went.is,
      none_on c.args.core.now c.steps.core c.in_ok-step.field-0 c.args.runs.now c.step.new.runs i.8 s.whole.many c.in-Went.is,
      settles_more (g.F.Files.holds c.args.files.now) c.args.core.now c.steps.core c.args.runs.now c.steps.runs c.step.new.runs
          (g.F.Files.asked c.args.files.now) (g.F.Files.asked c.steps.files) (g.F.Files.asked c.step.new.files) i.2.plan i.5 i.7 s.few.starts s.asks i.10,
    )

pub steps-smaller : goal.steps-smaller
steps-smaller g c = subst (Nearer (mass c.steps.core) c.step.new.self) c.in-Went.is c.in_ok-step.ensures.steps.nearer

pub returns-in-Settled-clause-settled : goal.returns-in-Settled-clause-settled
returns-in-Settled-clause-settled g c = subst (TurnsTo c.step.new.self) c.in-Settled.is c.in_ok-step.ensures.steps.turns

pub returns-in-Settled-clause-plan : goal.returns-in-Settled-clause-plan
returns-in-Settled-clause-plan g c = c.in_ok-step.ensures.starts.spends.plan ∙ c.steps.invariant.2.plan

pub returns-in-StartAfresh-clause-plan : goal.returns-in-StartAfresh-clause-plan
returns-in-StartAfresh-clause-plan g c = c.in_ok-step.ensures.starts.spends.plan ∙ c.steps.invariant.2.plan

pub returns-in-Settled-clause-exact : goal.returns-in-Settled-clause-exact
returns-in-Settled-clause-exact g c =
    stands_end (g.F.Files.holds c.args.files.now) (g.F.Files.holds c.steps.files) c.args.core.now c.steps.core c.step.new.self c.in_ok-step.field-0
    c.steps.invariant.3 c.steps.invariant.2.plan c.steps.invariant.5 c.in_ok-step.ensures.whole.whole c.in-Settled.is

pub returns-in-StartAfresh-clause-exact : goal.returns-in-StartAfresh-clause-exact
returns-in-StartAfresh-clause-exact g c =
    stops_for (g.F.Files.holds c.args.files.now) (g.F.Files.holds c.steps.files) c.args.core.now c.steps.core c.step.new.self c.in_ok-step.field-0
    c.steps.invariant.3 c.steps.invariant.2.plan c.steps.invariant.5 c.in_ok-step.ensures.whole.whole c.in-StartAfresh.cause c.in-StartAfresh.is

pub returns-in-Settled-clause-ran : goal.returns-in-Settled-clause-ran
returns-in-Settled-clause-ran g c =
    let i = c.steps.invariant in
    let s = c.in_ok-step.ensures in
    settles_runs (g.F.Files.holds c.args.files.now) (g.F.Files.holds c.steps.files) c.args.core.now c.steps.core c.step.new.self c.in_ok-step.field-0
    c.args.runs.now c.steps.runs c.step.new.runs i.3 i.2.plan s.starts.spends.plan s.starts.spends.tasks i.5 i.7 s.whole.whole s.starts.reasons
    c.in-Settled.is i.8 s.whole.many s.steps.all (subst (TurnsTo c.step.new.self) c.in-Settled.is s.steps.turns)

pub returns-in-StartAfresh-clause-ran : goal.returns-in-StartAfresh-clause-ran
returns-in-StartAfresh-clause-ran g c =
    let i = c.steps.invariant in
    let s = c.in_ok-step.ensures in
    stops_runs (g.F.Files.holds c.args.files.now) (g.F.Files.holds c.steps.files) c.args.core.now c.steps.core c.step.new.self c.in_ok-step.field-0
    c.args.runs.now c.steps.runs c.step.new.runs i.3 i.2.plan s.starts.spends.plan s.starts.spends.tasks i.5 i.7 s.whole.whole s.starts.reasons
    c.in-StartAfresh.cause c.in-StartAfresh.is i.8 s.whole.many i.9 s.starts.none

pub returns-in_err-step-clause-runs : goal.returns-in_err-step-clause-runs
returns-in_err-step-clause-runs g c =
    let i = c.steps.invariant in
    record {
      started = started_more c.args.runs.now c.steps.runs c.step.new.runs i.1 c.in_err-step.ensures.few.starts;
      few = few_more c.args.core.now c.steps.core c.args.runs.now c.steps.runs c.step.new.runs i.2 c.in_err-step.ensures.few.few;
    }

pub returns-in-Settled-clause-runs : goal.returns-in-Settled-clause-runs
returns-in-Settled-clause-runs g c =
    let i = c.steps.invariant in
    record {
      started = started_more c.args.runs.now c.steps.runs c.step.new.runs i.1 c.in_ok-step.ensures.few.starts;
      few = few_more c.args.core.now c.steps.core c.args.runs.now c.steps.runs c.step.new.runs i.2 c.in_ok-step.ensures.few.few;
    }

pub returns-in-StartAfresh-clause-runs : goal.returns-in-StartAfresh-clause-runs
returns-in-StartAfresh-clause-runs g c =
    let i = c.steps.invariant in
    record {
      started = started_more c.args.runs.now c.steps.runs c.step.new.runs i.1 c.in_ok-step.ensures.few.starts;
      few = few_more c.args.core.now c.steps.core c.args.runs.now c.steps.runs c.step.new.runs i.2 c.in_ok-step.ensures.few.few;
    }

pub returns-in-Settled-clause-asks : goal.returns-in-Settled-clause-asks
returns-in-Settled-clause-asks g c =
    let i = c.steps.invariant in
    let s = c.in_ok-step.ensures in
    settles_more (g.F.Files.holds c.args.files.now) c.args.core.now c.steps.core c.args.runs.now c.steps.runs c.step.new.runs
    (g.F.Files.asked c.args.files.now) (g.F.Files.asked c.steps.files) (g.F.Files.asked c.step.new.files) i.2.plan i.5 i.7 s.few.starts s.asks i.10
