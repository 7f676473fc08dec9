use Rattle.std.proofs.Common.{sym, ◌∙◌, subst, arith}
use Rattle.std.specs.Prelude.{IfOk}
use Rattle.pie_base.specs.declared.fault.FaultKind.TheVariants.{Big}
use Rattle.pie_task_laws.specs.Coming.{failed_by}
use Rattle.pie_bottomup.specs.inner.Going.{NotesWhole}
use Rattle.pie_bottomup.specs.inner.States.{Awaits}
use Rattle.pie_bottomup.proofs.ExactSteps.{numbered_inside}
use Rattle.pie_running.specs.inner.Noted.{Noted}
use Rattle.pie_bottomup.proofs.GoingEvents.{big_goes, parks_goes}
use Rattle.pie_bottomup.proofs.state.Core.require.Goals as goal

pub park-requires-clause-awaits : goal.park-requires-clause-awaits
park-requires-clause-awaits c = subst (Awaits c.args.self.now c.args.no c.args.from) (sym c.caller_of.ensures.waiting) c.requires

pub park-requires-clause-number : goal.park-requires-clause-number
park-requires-clause-number c =
    omega (
      arith,
      numbered_inside c.args.self.now.tables.names c.args.required c.in_ok-callee.field-0 c.in-Some.callee c.in-Some.is c.in_ok-callee.ensures,
      c.requires.taken.site.sized,
    )

pub returns-then-not-is_small-clause-whole : goal.returns-then-not-is_small-clause-whole
returns-then-not-is_small-clause-whole c =
    big_goes c.args.self.now c.fail.new.self c.args.no c.args.from c.args.waiting c.args.required c.args.how c.fail.result c.requires.taken.holds
    c.requires.waits.left (sym c.is_small.ensures.limits ∙ c.if-not-is_small.true) c.requires.own
    (subst (λ (n : Noted). IfOk c.fail.result (NotesWhole c.args.self.now c.args.no c.args.from n (failed_by n Big) c.fail.new.self)) c.into_notes.ensures
    c.fail.ensures.whole)

pub returns-in-Some-clause-whole : goal.returns-in-Some-clause-whole
returns-in-Some-clause-whole c =
    parks_goes c.args.self.now c.park.new.self c.args.no c.args.from c.args.waiting c.args.required c.args.how c.caller_of.result c.in-Some.callee.0
    c.park.result c.caller_of.ensures.is c.requires.waits.left (sym c.is_small.ensures.limits ∙ c.if-not-is_small.false)
    (rw c.in-Some.is at c.in_ok-callee.ensures) c.park.ensures.whole
