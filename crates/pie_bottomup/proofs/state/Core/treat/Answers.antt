use Rattle.std.proofs.Common.{Ok, refl, sym, subst}
use Rattle.pie_named.specs.Asking.{AsksFor, LooksAt}
use Rattle.pie_named.proofs.Calls.{no_calls}
use Rattle.pie_bottomup.specs.inner.Asked.{IsAskedBy}
use Rattle.pie_value.specs.declared.event.Event.{Event}
use Rattle.pie_bottomup.specs.inner.Going.{AsksWhole}
use Rattle.pie_bottomup.proofs.Owning.{may_go}
use Rattle.pie_bottomup.proofs.Stepping.{taken_staged}
use Rattle.pie_bottomup.proofs.GoingEvents.{write_goes}
use Rattle.pie_bottomup.proofs.state.Core.treat.Goals as goal

pub told-requires-clause-taken : goal.told-requires-clause-taken
told-requires-clause-taken g c = taken_staged c.args.self.now c.write.new.stage c.args.no c.requires.taken

pub told-requires-clause-goes : goal.told-requires-clause-goes
told-requires-clause-goes g c =
    let own = c.requires.own in
    may_go (record c.args.self.now { stage = c.write.new.stage }) c.args.no c.args.from c.args.waiting.notes c.in_ok-told-in-Write.told
    c.in_ok-told-in-Write.ensures.answered (record { number = own.number; row = own.row; noted = own.noted })

pub returns-in-Read-clause-asks : goal.returns-in-Read-clause-asks
returns-in-Read-clause-asks g c =
    subst (λ (e : Event). AsksFor (IsAskedBy e) (g.F.Files.asked c.args.files.now) (g.F.Files.asked c.read.new.files)) (sym c.in-Read.is) c.read.ensures.asks

pub returns-in-Write-clause-whole : goal.returns-in-Write-clause-whole
returns-in-Write-clause-whole g c =
    subst (λ (e : Event). AsksWhole (g.F.Files.holds c.args.files.now) c.args.self.now c.args.no c.args.from c.args.waiting e c.told.new.self
    c.in_ok-told-in-Write-2.field-0) (sym c.in-Write.is)
    (write_goes {E = Unit {0}} (g.F.Files.holds c.args.files.now) c.args.self.now c.told.new.self c.args.no c.args.from c.args.waiting c.in-Write.path
    c.in-Write.bytes c.write.new.stage c.in_ok-told-in-Write.told (Ok c.in_ok-told-in-Write-2.field-0) c.requires.taken.holds c.requires.waits.left
    c.requires.own
    c.in_ok-told-in-Write.ensures.told c.in_ok-told-in-Write-2.ensures.whole)

pub returns-in_err-told-in-Write-clause-asks : goal.returns-in_err-told-in-Write-clause-asks
returns-in_err-told-in-Write-clause-asks g c = no_calls (LooksAt (IsAskedBy c.args.event)) (g.F.Files.asked c.args.files.now) (g.F.Files.asked c.args.files.now) refl

pub returns-in_err-told-in-Write-2-clause-asks : goal.returns-in_err-told-in-Write-2-clause-asks
returns-in_err-told-in-Write-2-clause-asks g c = no_calls (LooksAt (IsAskedBy c.args.event)) (g.F.Files.asked c.args.files.now) (g.F.Files.asked c.args.files.now) refl

pub returns-in-Write-clause-asks : goal.returns-in-Write-clause-asks
returns-in-Write-clause-asks g c = no_calls (LooksAt (IsAskedBy c.args.event)) (g.F.Files.asked c.args.files.now) (g.F.Files.asked c.args.files.now) refl

pub returns-in-Require-clause-asks : goal.returns-in-Require-clause-asks
returns-in-Require-clause-asks g c = no_calls (LooksAt (IsAskedBy c.args.event)) (g.F.Files.asked c.args.files.now) (g.F.Files.asked c.args.files.now) refl

pub returns-in_err-fail-in-Done-clause-asks : goal.returns-in_err-fail-in-Done-clause-asks
returns-in_err-fail-in-Done-clause-asks g c = no_calls (LooksAt (IsAskedBy c.args.event)) (g.F.Files.asked c.args.files.now) (g.F.Files.asked c.args.files.now) refl

pub returns-clause-asks : goal.returns-clause-asks
returns-clause-asks g c = no_calls (LooksAt (IsAskedBy c.args.event)) (g.F.Files.asked c.args.files.now) (g.F.Files.asked c.args.files.now) refl
