use Rattle.std.proofs.Common.{◌≡◌, ◌+◌, length, Err, ap, ◌∙◌, arith}
use Rattle.std.proofs.lemmas.List.{length-append}
use Rattle.pie_project.specs.Refusals.{IsVerdict}
use Rattle.pie_incremental.proofs.Cleanly.{again_afresh}
use Rattle.pie_incremental.proofs.Joining.{retold_encodable}
use Rattle.pie_incremental.proofs.Parts.{endures_again, endures_failed, grows_by}
use Rattle.pie_incremental.proofs.Refusing.{rebuilt}
use Rattle.pie_incremental.proofs.Treating.{again_done}
use Rattle.pie_incremental.proofs.again.again.Goals as goal

pub retell-requires : goal.retell-requires
retell-requires g c =
    let l : length c.rebuild.new.runs ≡ length c.args.runs.now + length c.in-Ok.report.ran.items =
    ap length c.in-Ok.ensures.started.ran ∙ length-append c.args.runs.now c.in-Ok.report.ran.items in
    omega (arith, c.requires.before, l)

pub returns-in-Ok-clause-names : goal.returns-in-Ok-clause-names
returns-in-Ok-clause-names g c = again_done c.args.stop.value.ending.value.own c.args.stop.value.ending.value.names.items c.in-Ok.report
    (g.F.Files.holds c.args.files.now) (g.F.Files.holds c.rebuild.new.files) (g.F.Files.holds c.retell.new.files) c.retell.result c.in-Ok.ensures.files.left
    c.retell.ensures.names c.retell.ensures.verdict

pub returns-in-Ok-clause-afresh : goal.returns-in-Ok-clause-afresh
returns-in-Ok-clause-afresh g c = again_afresh c.args.stop.value.ending.value.own c.args.stop.value.ending.value.names.items (g.F.Files.holds c.args.files.now)
    (g.F.Files.holds c.rebuild.new.files) (g.F.Files.holds c.retell.new.files) c.in-Ok.report c.retell.result c.args.before c.args.runs.now c.rebuild.new.runs
    c.requires.before c.in-Ok.ensures.started.ran c.in-Ok.ensures.files.left c.retell.ensures.retold.retold c.retell.ensures.retold.ran c.retell.ensures.names
    c.retell.ensures.verdict

pub returns-in-Ok-clause-files : goal.returns-in-Ok-clause-files
returns-in-Ok-clause-files g c =
    let e = c.args.stop.value.ending.value in
    let built = c.in-Ok.ensures in
    endures_again g.F.Files.holds g.F.Files.moment g.F.Files.left_since g.F.Files.images e.own e.names.items c.args.files.now c.rebuild.new.files
    c.retell.new.files c.in-Ok.report (IsVerdict c.retell.result) built.files.rest built.crash (built.durable tt) built.files.left c.retell.ensures.quiet
    c.retell.ensures.files

pub returns-in-Err-clause-files : goal.returns-in-Err-clause-files
returns-in-Err-clause-files g c =
    let e = c.args.stop.value.ending.value in
    endures_failed g.F.Files.holds g.F.Files.moment g.F.Files.left_since g.F.Files.images e.own e.names.items _ c.args.files.now c.rebuild.new.files
    c.in-Err.ensures.files.rest c.in-Err.ensures.crash c.in-Err.ensures.durable

pub returns-in-Ok-clause-runs : goal.returns-in-Ok-clause-runs
returns-in-Ok-clause-runs g c =
    let told = c.retell.ensures.retold in
    record {
      fresh = told.fresh;
      ran = told.ran;
      grows = grows_by c.args.runs.now c.rebuild.new.runs c.in-Ok.report.ran.items c.retell.result c.in-Ok.ensures.started.ran;
      few = c.in-Ok.ensures.started.few;
      encodable = retold_encodable c.args.before c.args.runs.now c.rebuild.new.runs c.in-Ok.report.ran.items c.retell.result c.requires.before
          c.in-Ok.ensures.started.ran c.requires.encodable c.in-Ok.ensures.started.encodable told.ran;
    }

pub returns-in-Err-clause-runs : goal.returns-in-Err-clause-runs
returns-in-Err-clause-runs g c = record { fresh = tt; ran = tt; grows = tt; few = c.in-Err.ensures.started.few; encodable = tt }

pub returns-in-Err-clause-refuses : goal.returns-in-Err-clause-refuses
returns-in-Err-clause-refuses g c = record {
  refused = c.in-Err.ensures.refuses.refused;
  says = rebuilt (g.F.Files.holds c.args.files.now) (Err c.in-Err.error) c.in-Err.ensures.says.says;
}
