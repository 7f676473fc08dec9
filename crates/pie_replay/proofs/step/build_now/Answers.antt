use Rattle.std.proofs.Common.{OnOk, List, refl, subst}
use Rattle.pie_build.proofs.OwnPaths.{same_keeps}
use Rattle.pie_report.specs.declared.report.Report.{Report}
use Rattle.pie_script.specs.Steps.{BuildNow}
use Rattle.pie_replay.specs.inner.Goes.{Goes}
use Rattle.pie_replay.proofs.Leaving.{none_begun}
use Rattle.pie_replay.proofs.step.build_now.Goals as goal

pub returns-in-Ok-clause-goes : goal.returns-in-Ok-clause-goes
returns-in-Ok-clause-goes g c =
    subst (λ (before : List Report). OnOk c.build_from_rest.result (Goes g.F.Files.holds g.F.Files.asked BuildNow c.args.files.now
    c.build_from_rest.new.files c.args.names.now.items
    c.build_from_rest.new.names.items before c.build_from_rest.new.done.items c.args.runs.now c.build_from_rest.new.runs))
    c.in-Ok.ensures.items c.build_from_rest.ensures.goes

pub returns-in-Err-clause-fails : goal.returns-in-Err-clause-fails
returns-in-Err-clause-fails g c = (same_keeps (g.F.Files.holds c.args.files.now) (g.F.Files.holds c.args.files.now) refl, λ never. refl)

pub returns-in-Err-clause-crash : goal.returns-in-Err-clause-crash
returns-in-Err-clause-crash g c =
    none_begun g.F.Files.holds g.F.Files.moment g.F.Files.left_since g.F.Files.images c.args.names.now.items c.args.files.now
