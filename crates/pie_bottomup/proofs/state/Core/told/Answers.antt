use Rattle.std.proofs.Common.{sym, subst}
use Rattle.std.specs.Prelude.{IfOk}
use Rattle.pie_running.specs.declared.frame.Told.{Told}
use Rattle.pie_bottomup.specs.inner.Going.{GoesOn, ToldWhole}
use Rattle.pie_bottomup.proofs.GoingEvents.{told_whole, told_fails}
use Rattle.pie_bottomup.proofs.state.Core.told.Goals as goal

pub returns-in-Fails-clause-whole : goal.returns-in-Fails-clause-whole
returns-in-Fails-clause-whole c =
    subst (λ (t : Told). IfOk c.fail.result (ToldWhole c.args.self.now c.args.no c.args.from t c.fail.new.self)) (sym c.in-Fails.is)
    (told_fails c.args.self.now c.fail.new.self c.args.no c.args.from c.in-Fails.notes c.in-Fails.kind c.fail.result c.fail.ensures.whole)

pub returns-in-Goes-clause-whole : goal.returns-in-Goes-clause-whole
returns-in-Goes-clause-whole c = λ u now e begins own on.
    told_whole u c.args.self.now c.args.no c.args.from c.in-Goes.task e begins (subst (GoesOn u c.args.self.now c.args.no.0) c.in-Goes.is on)
