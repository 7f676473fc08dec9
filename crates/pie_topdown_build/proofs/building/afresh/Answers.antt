use Rattle.std.proofs.Common.{Some, refl}
use Rattle.pie_incremental.proofs.Cleanly.{afresh_is}
use Rattle.pie_report.specs.declared.report.Report.{Report}
use Rattle.pie_topdown_build.proofs.Crashing.{endures_afresh}
use Rattle.pie_topdown_build.proofs.Saying.{kept_left, refuses_none, refuses_rebuilt}
use Rattle.pie_topdown_build.proofs.building.afresh.Goals as goal

pub returns-in-Ok-clause-clean : goal.returns-in-Ok-clause-clean
returns-in-Ok-clause-clean g c =
    afresh_is (g.F.Files.holds c.args.files.now) (g.F.Files.holds c.rebuild.new.files) c.in-Ok.report _ (Some c.args.cause) refl c.in-Ok.ensures.files.left

pub returns-in-Ok-clause-stays : goal.returns-in-Ok-clause-stays
returns-in-Ok-clause-stays g c = record {
  rest = c.rebuild.ensures.files.rest;
  crash = endures_afresh g.F.Files.holds g.F.Files.moment g.F.Files.left_since g.F.Files.images _ c.args.files.now c.rebuild.new.files c.rebuild.ensures.crash
      c.in-Ok.ensures.durable;
}

pub returns-in-Err-clause-stays : goal.returns-in-Err-clause-stays
returns-in-Err-clause-stays g c = record {
  rest = c.rebuild.ensures.files.rest;
  crash = endures_afresh g.F.Files.holds g.F.Files.moment g.F.Files.left_since g.F.Files.images _ c.args.files.now c.rebuild.new.files c.rebuild.ensures.crash
      c.in-Err.ensures.durable;
}

pub returns-in-Ok-clause-refuses : goal.returns-in-Ok-clause-refuses
returns-in-Ok-clause-refuses g c =
    let before = g.F.Files.holds c.args.files.now in
    let after = g.F.Files.holds c.rebuild.new.files in
    refuses_none (λ (r : Report). r) before after _ (kept_left before after c.in-Ok.report c.in-Ok.ensures.files.left)

pub returns-in-Err-clause-refuses : goal.returns-in-Err-clause-refuses
returns-in-Err-clause-refuses g c =
    refuses_rebuilt (λ (r : Report). r) (g.F.Files.holds c.args.files.now) (g.F.Files.holds c.rebuild.new.files) c.in-Err.error
    c.in-Err.ensures.refuses.refused c.in-Err.ensures.says.says

pub returns-in-Ok-clause-ran : goal.returns-in-Ok-clause-ran
returns-in-Ok-clause-ran g c =
    let started = c.in-Ok.ensures.started in
    record { fresh = refl; ran = started.ran; few = started.few; encodable = started.encodable }

pub returns-in-Err-clause-ran : goal.returns-in-Err-clause-ran
returns-in-Err-clause-ran g c = record { fresh = tt; ran = tt; few = c.rebuild.ensures.started.few; encodable = tt }
