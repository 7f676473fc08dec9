use Rattle.std.proofs.Common.{sym, subst}
use Rattle.pie_files.specs.inner.SureFiles.{held_by}
use Rattle.pie_demo.specs.inner.Steps.{BuildsNamed}
use Rattle.pie_demo.proofs.Building.{build_told}
use Rattle.pie_demo.proofs.rounds.build_named.Goals as goal

pub returns : goal.returns
returns c = subst (BuildsNamed c.args.names.now (held_by c.args.files.now) (held_by c.build.new.files) c.args.runs.now c.build.new.runs)
    (sym c.is_some.ensures)
    (build_told c.args.names.now (held_by c.args.files.now) (held_by c.build.new.files) c.args.runs.now c.build.new.runs c.build.result c.in_ok-live.live
    c.in_ok-live.ensures c.build.ensures.files.rest c.build.ensures.refuses.refused c.build.ensures.project.idle c.build.ensures.project.project
    c.build.ensures.clean c.build.ensures.runs.ran c.build.ensures.refuses.says)
