use Rattle.std.proofs.Common.{subst}
use Rattle.pie_files.specs.inner.SureFiles.{held_by}
use Rattle.pie_demo.specs.inner.Steps.{TellsLive}
use Rattle.pie_demo.proofs.Building.{rebuild_live, rebuild_none}
use Rattle.pie_demo.proofs.rounds.rebuilt.Goals as goal

pub returns-in-Some : goal.returns-in-Some
returns-in-Some c = rebuild_live (held_by c.args.files.now) (held_by c.rebuild.new.files) c.args.runs.now c.rebuild.new.runs c.rebuild.result c.in-Some.live
    (subst (TellsLive c.rebuild.result) c.in-Some.is c.in_ok-live.ensures) c.rebuild.ensures.says.says c.rebuild.ensures.says.only
    c.rebuild.ensures.files.left c.rebuild.ensures.files.rest c.rebuild.ensures.started.ran

pub returns-in-None : goal.returns-in-None
returns-in-None c = rebuild_none (held_by c.args.files.now) (held_by c.rebuild.new.files) c.args.runs.now c.rebuild.new.runs c.rebuild.result
    (subst (TellsLive c.rebuild.result) c.in-None.is c.in_ok-live.ensures) c.rebuild.ensures.says.says c.rebuild.ensures.says.only
    c.rebuild.ensures.refuses.refused c.rebuild.ensures.refuses.idle
