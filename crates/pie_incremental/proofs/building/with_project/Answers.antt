use Rattle.std.proofs.Common.{◌≡◌, true, List, ◌++◌, refl, subst}
use Rattle.std.specs.List.{All}
use Rattle.std.specs.Prelude.{IsOk}
use Rattle.pie_project.specs.Refusals.{IsVerdict}
use Rattle.pie_store.specs.Pending.{in_order}
use Rattle.pie_value.specs.Limits.{is_small_task}
use Rattle.pie_value.specs.declared.task.Task.{Task}
use Rattle.pie_incremental.proofs.Asked.{afresh_asking, large_asking, reported_asking}
use Rattle.pie_incremental.proofs.Joining.{few_once, few_twice}
use Rattle.pie_incremental.proofs.Parts.{again_once, endures_large, endures_run, endures_stopped, reported_once}
use Rattle.pie_incremental.proofs.Refusing.{rebuilt}
use Rattle.pie_incremental.proofs.Treating.{large_treats, treats_again, treats_reported}
use Rattle.pie_incremental.proofs.Updating.{again_runs, as_before, large_runs, reported_runs}
use Rattle.pie_incremental.proofs.building.with_project.Goals as goal

pub returns-then-not-are_small-clause-names : goal.returns-then-not-are_small-clause-names
returns-then-not-are_small-clause-names g c =
    let p = c.args.project.now in
    large_treats c.args.base.value.own (in_order (c.args.changes.now ++ c.args.base.value.names.items)) p.typed p.roots.items
    (g.F.Files.holds c.args.files.now) (g.F.Files.holds c.rebuild.new.files) c.rebuild.result c.requires.project.ready
    (subst (λ (roots : List Task). ¬ (All (λ (t : Task). is_small_task t ≡ true) roots)) c.as_slice.ensures.value
    (c.are_small.ensures.large c.if-not-are_small.true))

pub returns-in-Ok-Reported-clause-names : goal.returns-in-Ok-Reported-clause-names
returns-in-Ok-Reported-clause-names g c =
    let e = c.in-Ok-Reported in
    treats_reported c.args.base.value.own (in_order (c.args.changes.now ++ c.args.base.value.names.items)) (g.F.Files.holds c.args.files.now)
    (g.F.Files.holds c.run.new.files) e.field-0 e.report c.into_inner.result e.field-0-is c.into_inner.ensures e.ensures.names

pub returns-in-Ok-Stopped-clause-names : goal.returns-in-Ok-Stopped-clause-names
returns-in-Ok-Stopped-clause-names g c =
    let e = c.in-Ok-Stopped in
    treats_again c.args.base.value.own (in_order (c.args.changes.now ++ c.args.base.value.names.items)) (g.F.Files.holds c.args.files.now)
    (g.F.Files.holds c.run.new.files) (g.F.Files.holds c.again.new.files) e.field-0 e.stop c.again.result e.field-0-is e.ensures.names e.ensures.stops.stopped
    c.again.ensures.names

pub returns-then-not-are_small-clause-files : goal.returns-then-not-are_small-clause-files
returns-then-not-are_small-clause-files g c =
    let r = c.rebuild.ensures in
    endures_large g.F.Files.holds g.F.Files.moment g.F.Files.left_since g.F.Files.images c.args.base.value c.args.project.now c.args.changes.now
    (IsVerdict c.rebuild.result) c.args.files.now c.rebuild.new.files r.files.rest r.crash r.durable

pub returns-in-Ok-Reported-clause-files : goal.returns-in-Ok-Reported-clause-files
returns-in-Ok-Reported-clause-files g c =
    endures_run g.F.Files.holds g.F.Files.moment g.F.Files.left_since g.F.Files.images c.args.base.value c.args.project.now c.args.changes.now (true ≡ true) _
    c.args.files.now c.run.new.files (λ says. refl) c.in-Ok-Reported.ensures.files

pub returns-in-Ok-Stopped-clause-files : goal.returns-in-Ok-Stopped-clause-files
returns-in-Ok-Stopped-clause-files g c =
    let e = c.in-Ok-Stopped in
    endures_stopped g.F.Files.holds g.F.Files.moment g.F.Files.left_since g.F.Files.images c.args.base.value c.args.project.now c.args.changes.now
    (true ≡ true) (IsVerdict c.again.result) c.args.files.now c.run.new.files c.again.new.files e.field-0 e.stop refl e.field-0-is e.ensures.names
    e.ensures.stops.stopped e.ensures.stops.still e.ensures.files c.again.ensures.files

pub returns-in-Err-Failed-clause-files : goal.returns-in-Err-Failed-clause-files
returns-in-Err-Failed-clause-files g c =
    endures_run g.F.Files.holds g.F.Files.moment g.F.Files.left_since g.F.Files.images c.args.base.value c.args.project.now c.args.changes.now
    (IsOk c.run.result) ⊥ c.args.files.now c.run.new.files (λ says. absurd says) c.run.ensures.files

pub returns-in-Err-OutOfMemory-clause-files : goal.returns-in-Err-OutOfMemory-clause-files
returns-in-Err-OutOfMemory-clause-files g c =
    endures_run g.F.Files.holds g.F.Files.moment g.F.Files.left_since g.F.Files.images c.args.base.value c.args.project.now c.args.changes.now
    (IsOk c.run.result) ⊥ c.args.files.now c.run.new.files (λ says. absurd says) c.run.ensures.files

pub returns-then-not-are_small-clause-updates : goal.returns-then-not-are_small-clause-updates
returns-then-not-are_small-clause-updates g c =
    let b = c.args.base.value in
    let p = c.args.project.now in
    let list = c.args.changes.now in
    let before = g.F.Files.holds c.args.files.now in
    let large : ¬ (All (λ (t : Task). is_small_task t ≡ true) p.roots.items) =
    subst (λ (roots : List Task). ¬ (All (λ (t : Task). is_small_task t ≡ true) roots)) c.as_slice.ensures.value
    (c.are_small.ensures.large c.if-not-are_small.true) in
    record {
      clean = large_runs b p list before (g.F.Files.holds c.rebuild.new.files) c.rebuild.result c.requires.project.ready large;
      asks = large_asking b p list before (g.F.Files.asked c.args.files.now) (g.F.Files.asked c.rebuild.new.files) c.rebuild.result c.requires.project.ready
          large;
    }

pub returns-in-Ok-Reported-clause-updates : goal.returns-in-Ok-Reported-clause-updates
returns-in-Ok-Reported-clause-updates g c =
    let b = c.args.base.value in
    let p = c.args.project.now in
    let list = c.args.changes.now in
    let before = g.F.Files.holds c.args.files.now in
    let e = c.in-Ok-Reported in
    record {
      clean = reported_runs b p list before (g.F.Files.holds c.run.new.files) e.field-0 e.report c.into_inner.result e.field-0-is c.into_inner.ensures
          e.ensures.updates.clean;
      asks = reported_asking b p list before (g.F.Files.asked c.args.files.now) (g.F.Files.asked c.run.new.files) e.field-0 e.report c.into_inner.result
          e.field-0-is c.into_inner.ensures e.ensures.updates.asks;
    }

pub returns-in-Ok-Stopped-clause-updates : goal.returns-in-Ok-Stopped-clause-updates
returns-in-Ok-Stopped-clause-updates g c =
    let b = c.args.base.value in
    let p = c.args.project.now in
    let list = c.args.changes.now in
    let before = g.F.Files.holds c.args.files.now in
    let mid = g.F.Files.holds c.run.new.files in
    let e = c.in-Ok-Stopped in
    record {
      clean = again_runs b p list before mid (g.F.Files.holds c.again.new.files) e.field-0 e.stop c.again.result c.count-before.result c.args.runs.now
          c.run.new.runs (as_before before mid e.field-0 e.stop e.field-0-is e.ensures.stops.stopped) e.field-0-is e.ensures.updates.clean
          c.again.ensures.runs.fresh c.count-before.ensures e.ensures.updates.before c.again.ensures.afresh;
      asks = afresh_asking b p list before (g.F.Files.asked c.args.files.now) (g.F.Files.asked c.again.new.files) c.again.result e.stop.value.cause
          c.again.ensures.runs.fresh;
    }

pub returns-then-not-are_small-clause-runs : goal.returns-then-not-are_small-clause-runs
returns-then-not-are_small-clause-runs g c =
    let r = c.rebuild.ensures.started in
    record {
      ran = r.ran;
      few = few_twice c.args.runs.now c.rebuild.new.runs r.few;
      once = few_once c.args.runs.now c.rebuild.new.runs c.rebuild.result r.few;
      encodable = r.encodable;
    }

pub returns-in-Ok-Reported-clause-runs : goal.returns-in-Ok-Reported-clause-runs
returns-in-Ok-Reported-clause-runs g c =
    let e = c.in-Ok-Reported in
    reported_once c.args.runs.now c.run.new.runs e.field-0 e.report c.into_inner.result e.field-0-is c.into_inner.ensures e.ensures.runs.ran
    e.ensures.runs.few

pub returns-in-Ok-Stopped-clause-runs : goal.returns-in-Ok-Stopped-clause-runs
returns-in-Ok-Stopped-clause-runs g c =
    let e = c.in-Ok-Stopped in
    again_once c.count-before.result c.args.runs.now c.run.new.runs c.again.new.runs e.field-0 e.stop c.again.result c.count-before.ensures e.field-0-is
    e.ensures.runs.ran e.ensures.runs.few c.again.ensures.runs

pub returns-then-not-are_small-clause-refuses : goal.returns-then-not-are_small-clause-refuses
returns-then-not-are_small-clause-refuses g c = record {
  refused = c.rebuild.ensures.refuses.refused;
  says = rebuilt (g.F.Files.holds c.args.files.now) c.rebuild.result c.rebuild.ensures.says.says;
}
