use Rattle.pie_bottomup.proofs.Reasoning.{started_for}
use Rattle.pie_bottomup.proofs.state.Core.take_known.Goals as goal

pub returns-clause-reasons : goal.returns-clause-reasons
returns-clause-reasons c =
    started_for c.args.self.now c.start.new.self c.args.no c.args.runs.now c.start.new.runs c.start.result c.requires.taken.taken.site
    c.requires.taken.taken.holds
    (c.in_ok-stands.ensures.falls c.if-branch.false) c.start.ensures.started
