use Rattle.std.proofs.Common.{[], Ok, subst, sym}
use Rattle.std.specs.Prelude.{IfSome}
use Rattle.pie_project.specs.declared.fault.BuildError.{BuildError}
use Rattle.pie_report.specs.declared.report.Report.{Report}
use Rattle.pie_topdown_build.specs.declared.offered.Offered.{Offered}
use Rattle.pie_topdown_build.specs.Refusals.{KeepsRefused}
use Rattle.pie_topdown_build.specs.inner.Ran.{FromRuns}
use Rattle.pie_topdown_build.specs.inner.Said.{TellsRuns}
use Rattle.pie_topdown_build.proofs.Crashing.{endures_settled, error_verdict}
use Rattle.pie_topdown_build.proofs.Saying.{refuses_again, refuses_none}
use Rattle.pie_topdown_build.proofs.building.from_store.Goals as goal

pub returns-in-Ok-clause-stays : goal.returns-in-Ok-clause-stays
returns-in-Ok-clause-stays g c = record { rest = c.in-Ok.ensures.stays.rest; crash = c.in-Ok.ensures.stays.crash }

pub returns-in-Err-clause-stays : goal.returns-in-Err-clause-stays
returns-in-Err-clause-stays g c = record {
  rest = c.in-Err.ensures.stays.rest;
  crash = endures_settled g.F.Files.holds g.F.Files.moment g.F.Files.left_since g.F.Files.images _ _ _ c.args.files.now c.from.new.files
      (error_verdict Report Offered c.in-Err.error) c.in-Err.ensures.stays.crash;
}

pub returns-in-Ok-clause-refuses : goal.returns-in-Ok-clause-refuses
returns-in-Ok-clause-refuses g c =
    refuses_none (λ (r : Report). r) (g.F.Files.holds c.args.files.now) (g.F.Files.holds c.from.new.files) c.into_inner.result
    (subst (λ (r : Report). IfSome (g.F.Files.holds c.args.files.now) (λ d. KeepsRefused r.verdict d (g.F.Files.holds c.from.new.files)))
    (sym c.into_inner.ensures) c.in-Ok.ensures.refuses.kept)

pub returns-in-Err-clause-refuses : goal.returns-in-Err-clause-refuses
returns-in-Err-clause-refuses g c =
    refuses_again (λ (o : Offered). o.report.value) (λ (r : Report). r) (g.F.Files.holds c.args.files.now) (g.F.Files.holds c.from.new.files) c.in-Err.error
    c.in-Err.ensures.refuses

pub returns-in-Ok-clause-ran : goal.returns-in-Ok-clause-ran
returns-in-Ok-clause-ran g c =
    let ran = c.in-Ok.ensures.ran in
    subst (λ (r : Report). TellsRuns {E = BuildError} c.args.runs.now c.from.new.runs (Ok r) (λ (x : Report). x)) (sym c.into_inner.ensures)
    (record { ran = ran.ran; few = ran.few; encodable = ran.encodable })

pub returns-in-Err-clause-ran : goal.returns-in-Err-clause-ran
returns-in-Err-clause-ran g c = record { ran = tt; few = c.from.ensures.ran.few; encodable = tt }

pub returns-in-Ok-clause-runs : goal.returns-in-Ok-clause-runs
returns-in-Ok-clause-runs g c = (
  c.in-Ok.offered.reused.items,
  subst (λ (r : Report). FromRuns c.args.base.value (λ d t digest. []) (g.F.Files.holds c.args.files.now) r c.in-Ok.offered.reused.items)
      (sym c.into_inner.ensures) c.in-Ok.ensures.runs,
)
