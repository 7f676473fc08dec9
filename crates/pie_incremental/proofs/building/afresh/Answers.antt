use Rattle.std.proofs.Common.{Err, Some}
use Rattle.pie_files.proofs.Reading.{if_always}
use Rattle.pie_incremental.proofs.Cleanly.{afresh_is}
use Rattle.pie_incremental.proofs.Parts.{endures_afresh, tells_afresh}
use Rattle.pie_incremental.proofs.Refusing.{rebuilt}
use Rattle.pie_incremental.proofs.Treating.{afresh_leaves}
use Rattle.pie_incremental.proofs.building.afresh.Goals as goal

pub returns-in-Ok-clause-names : goal.returns-in-Ok-clause-names
returns-in-Ok-clause-names g c =
    afresh_leaves (g.F.Files.holds c.args.files.now) (g.F.Files.holds c.rebuild.new.files) c.in-Ok.report c.put_cause.new.report (Some c.args.cause)
    c.put_cause.ensures c.in-Ok.ensures.files.left

pub returns-in-Ok-clause-afresh : goal.returns-in-Ok-clause-afresh
returns-in-Ok-clause-afresh g c =
    afresh_is (g.F.Files.holds c.args.files.now) (g.F.Files.holds c.rebuild.new.files) c.in-Ok.report c.put_cause.new.report (Some c.args.cause)
    c.put_cause.ensures c.in-Ok.ensures.files.left

pub returns-in-Ok-clause-files : goal.returns-in-Ok-clause-files
returns-in-Ok-clause-files g c =
    endures_afresh g.F.Files.holds g.F.Files.moment g.F.Files.left_since g.F.Files.images _ c.args.files.now c.rebuild.new.files c.in-Ok.ensures.files.rest
    c.in-Ok.ensures.crash (λ says. c.in-Ok.ensures.durable tt)

pub returns-in-Err-clause-files : goal.returns-in-Err-clause-files
returns-in-Err-clause-files g c =
    endures_afresh g.F.Files.holds g.F.Files.moment g.F.Files.left_since g.F.Files.images _ c.args.files.now c.rebuild.new.files c.in-Err.ensures.files.rest
    c.in-Err.ensures.crash c.in-Err.ensures.durable

pub returns-in-Ok-clause-project : goal.returns-in-Ok-clause-project
returns-in-Ok-clause-project g c =
    record { idle = if_always (g.F.Files.holds c.args.files.now) (λ h. absurd h); project = c.in-Ok.ensures.says.says }

pub returns-in-Err-clause-project : goal.returns-in-Err-clause-project
returns-in-Err-clause-project g c =
    record {
      idle = if_always (g.F.Files.holds c.args.files.now) c.in-Err.ensures.refuses.idle;
      project = if_always (g.F.Files.holds c.args.files.now) tt;
    }

pub returns-in-Ok-clause-refuses : goal.returns-in-Ok-clause-refuses
returns-in-Ok-clause-refuses g c = record { refused = λ h. absurd h; says = if_always (g.F.Files.holds c.args.files.now) tt }

pub returns-in-Err-clause-refuses : goal.returns-in-Err-clause-refuses
returns-in-Err-clause-refuses g c = record {
  refused = c.in-Err.ensures.refuses.refused;
  says = rebuilt (g.F.Files.holds c.args.files.now) (Err c.in-Err.error) c.in-Err.ensures.says.says;
}

pub returns-in-Ok-clause-runs : goal.returns-in-Ok-clause-runs
returns-in-Ok-clause-runs g c =
    tells_afresh c.args.runs.now c.rebuild.new.runs c.in-Ok.report c.put_cause.new.report (Some c.args.cause) c.put_cause.ensures c.in-Ok.ensures.started

pub returns-in-Err-clause-runs : goal.returns-in-Err-clause-runs
returns-in-Err-clause-runs g c = record { ran = tt; few = c.in-Err.ensures.started.few; encodable = tt }
