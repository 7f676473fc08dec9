use Rattle.std.proofs.Common.{◌+◌, ◌*◌}
use Rattle.pie_model.specs.Evaluation.{start, follow, evaluation_with}
use Rattle.pie_model_program.specs.Runs.{row_of}
use Rattle.pie_model_program.specs.Steps.{IsStage}
use Rattle.pie_model_program.proofs.evaluation.+evaluating.Given as goal

abbrev pub decreases-advance : goal.decreases-advance
decreases-advance g l = 4 * l.room + 2

abbrev pub decreases-evaluate : goal.decreases-evaluate
decreases-evaluate g l = 4 * l.room

abbrev pub decreases-events : goal.decreases-events
decreases-events g l = 4 * l.room + 3

abbrev pub decreases-require : goal.decreases-require
decreases-require g l = 4 * l.room + 1

abbrev pub invariant-events-events : goal.invariant-events-events
invariant-events-events g l =
    IsStage (g.S.Setting.world l.setting) (g.S.Setting.project l.setting)
    (evaluation_with l.room (g.S.Setting.world l.setting) (g.S.Setting.project l.setting) l.below) l.task l.fn.entered
    (follow (g.S.Setting.world l.setting) (g.S.Setting.project l.setting)
    (evaluation_with l.room (g.S.Setting.world l.setting) (g.S.Setting.project l.setting) l.below) l.task
    (g.S.Setting.world l.setting).most_events start) l.left (row_of l.run)

abbrev pub decreases-events-events : goal.decreases-events-events
decreases-events-events g l = l.left
