use Rattle.std.proofs.Common.{None, sym, subst}
use Rattle.std.specs.Prelude.{IfSome}
use Rattle.pie_value.specs.declared.task.Task.{Task}
use Rattle.pie_running.specs.inner.Coded.{IsCodeFor}
use Rattle.pie_bottomup.proofs.GoingSteps.{known_goes}
use Rattle.std.proofs.Common.{inl, refl}
use Rattle.pie_bottomup.specs.inner.Ran.{TakesFor}
use Rattle.pie_bottomup.proofs.Keeping.{none_starts}
use Rattle.pie_bottomup.proofs.state.Core.take.Goals as goal

pub lose-requires-clause-none : goal.lose-requires-clause-none
lose-requires-clause-none c =
    subst (λ o. IfSome o (λ (t : Task). IsCodeFor c.args.self.now.plan.typed.now c.args.self.now.plan.code.now t None)) (sym c.task.ensures)
    (rw c.in-None.is at c.code_of.ensures.found)

pub returns-in-Some-clause-whole : goal.returns-in-Some-clause-whole
returns-in-Some-clause-whole c =
    known_goes c.args.self.now c.take_known.new.self c.args.no.0 c.in-Some.code.now c.task.result.now c.take_known.result c.task.ensures
    (rw c.in-Some.is at c.code_of.ensures.found) c.take_known.ensures.whole

pub returns-in-None-clause-reasons : goal.returns-in-None-clause-reasons
returns-in-None-clause-reasons c =
    none_starts (TakesFor c.args.self.now c.args.no.0 c.lose.new.self c.args.runs.now c.args.runs.now) c.args.self.now c.lose.new.self c.lose.result
    c.lose.ensures.kept (λ none u funcs digests now taken reached knows. inl (refl, none))
