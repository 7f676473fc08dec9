use Rattle.std.proofs.Common.{rules}
use Rattle.pie_bottomup.proofs.FirstStep.{scheduled_after}
use Rattle.pie_bottomup.proofs.Holding.{held_idle}
use Rattle.pie_bottomup.proofs.state.Core.test.Goals.{else-due-via-then-due+else-eq, else-due-via-else-due}
use Rattle.pie_bottomup.proofs.state.Core.test.Goals as goal

pub returns-then-eq-clause-tested : goal.returns-then-eq-clause-tested
returns-then-eq-clause-tested g c =
    scheduled_after c.args.self.now c.is_due.new.self c.schedule.new.self c.args.no.0 c.requires.untested c.is_due.ensures.same c.requires.number
    c.schedule.ensures.rests c.schedule.ensures.scheduled c.schedule.ensures.parked c.schedule.ensures.weight c.schedule.ensures.room

pub returns-else-due-clause-held : goal.returns-else-due-clause-held
returns-else-due-clause-held g c = elim c.else-due.branch [
  | else-due-via-then-due+else-eq w ↦ absurd (let fresh = c.requires.untested.start.fresh c.args.no.0 in search rules)
  | else-due-via-else-due w ↦
      held_idle (g.F.Files.holds c.args.files.now) c.args.self.now c.is_due.new.self c.args.no.0 c.in_ok-due.due w.if-due.false c.in_ok-due.ensures.held
]
