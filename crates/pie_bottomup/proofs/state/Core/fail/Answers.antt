use Rattle.std.proofs.Common.{◌∙◌, Some, ap, sym}
use Rattle.pie_bottomup.proofs.GoingEvents.{fails_goes}
use Rattle.pie_bottomup.proofs.state.Core.fail.Goals as goal

pub returns-clause-whole : goal.returns-clause-whole
returns-clause-whole c =
    fails_goes c.args.self.now c.end_as.new.self c.args.no c.args.from c.args.notes c.in_ok-copy.field-0 c.args.kind c.end_as.result
    (c.task.ensures ∙ ap Some (sym c.in_ok-copy.ensures)) c.end_as.ensures.whole
