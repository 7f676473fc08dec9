use Rattle.std.proofs.Common.{◌≡◌}
use Rattle.pie_walk.specs.inner.Steps.{StepsTo, Nears}
use Rattle.pie_walk.specs.Standing.{HoldsIn, Stands}
use Rattle.pie_walk.specs.Turns.{Turns}
use Rattle.pie_walk.proofs.TurnSteps.{turns_on, walks_on, walks_still}
use Rattle.pie_walk.proofs.StandSteps.{turned_stands}
use Rattle.pie_walk.proofs.walk.Walk.walk.Goals as goal

pub loop-step-init : goal.loop-step-init
loop-step-init c = (c.requires.holds, walks_still c.args.self.now)

pub loop-step-preserved : goal.loop-step-preserved
loop-step-preserved c =
    let near : Nears c.loop-step.self c.step.new.self = rw c.in-None.is at c.in_ok-step.ensures in
    (near.holds, walks_on c.args.self.now c.loop-step.self c.step.new.self c.loop-step.invariant.1 near.walks)

pub loop-step-smaller : goal.loop-step-smaller
loop-step-smaller c = let near : Nears c.loop-step.self c.step.new.self = rw c.in-None.is at c.in_ok-step.ensures in near.falls

pub returns-in-Some : goal.returns-in-Some
returns-in-Some c =
    let at : HoldsIn c.step.new.self × Turns c.loop-step.self c.step.new.self c.in-Some.turn = rw c.in-Some.is at c.in_ok-step.ensures in
    let turns : Turns c.args.self.now c.step.new.self c.in-Some.turn = turns_on c.args.self.now c.loop-step.self c.step.new.self c.in-Some.turn
    c.requires.holds c.loop-step.invariant.1 at.0 at.1 in
    record { turn = turns; stands = turned_stands c.args.self.now c.step.new.self c.in-Some.turn c.requires at.0 turns }
