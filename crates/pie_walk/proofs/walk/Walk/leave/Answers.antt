use Rattle.std.proofs.Common.{◌≡◌}
use Rattle.pie_walk.proofs.TurnSteps.{leaves, is_taken}
use Rattle.pie_walk.proofs.walk.Walk.leave.Goals as goal

pub returns-in_ok-take : goal.returns-in_ok-take
returns-in_ok-take c =
    is_taken c.args.self.now c.take.new.self c.args.no c.requires.holds c.requires.ready (c.is_scheduled.ensures.0 c.if-is_scheduled.true)
    c.in_ok-take.ensures

pub returns-else-is_scheduled : goal.returns-else-is_scheduled
returns-else-is_scheduled c =
    leaves c.args.self.now c.settle.new.self c.args.no c.requires.holds c.requires.ready
    (λ flag. let is = c.is_scheduled.ensures.1 flag in let isnt = c.if-is_scheduled.false in cc) c.settle.ensures
