use Rattle.std.proofs.Common.{sym, subst}
use Rattle.std.specs.Prelude.{IfOk}
use Rattle.pie_running.specs.declared.frame.Told.{Told}
use Rattle.pie_topdown.specs.declared.hand.Turn.TheVariants.{Goes}
use Rattle.pie_topdown.specs.declared.hand.Hand.TheVariants as hands
use Rattle.pie_topdown.specs.inner.Asking.{ToldSo}
use Rattle.pie_topdown.proofs.Happening.{told_goes, told_fails}
use Rattle.pie_topdown.proofs.builder.Builder.told.Goals as goal

pub returns-in-Goes-clause-right : goal.returns-in-Goes-clause-right
returns-in-Goes-clause-right c =
    subst (λ (t : Told). ToldSo c.args.self.now c.args.no.0 t c.args.self.now (Goes (hands.Runs c.in-Goes.task))) (sym c.in-Goes.is)
    (told_goes c.args.self.now c.args.no.0 c.in-Goes.task)

pub returns-clause-right : goal.returns-clause-right
returns-clause-right c =
    subst (λ (t : Told). IfOk c.fail.result (ToldSo c.args.self.now c.args.no.0 t c.fail.new.self)) (sym c.in-Fails.is)
    (told_fails c.args.self.now c.fail.new.self c.args.no.0 _ c.in-Fails.kind c.fail.result c.fail.ensures.right)
