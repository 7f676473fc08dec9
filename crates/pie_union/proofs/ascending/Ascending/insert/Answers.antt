use Rattle.std.proofs.Common.{◌||◌, ap, ◌∙◌, eqb, sym}
use Rattle.std.specs.Prelude.{Ok, Err}
use Rattle.pie_union.specs.inner.Among.{among}
use Rattle.pie_union.proofs.Ascends.{shown, inserted_up, inserted_among, there_already}
use Rattle.pie_union.proofs.ascending.Ascending.insert.Goals as goal

pub invariant_of-self-in-Err : goal.invariant_of-self-in-Err
invariant_of-self-in-Err c =
    let ts = c.self.inside.nos.items in
    let i = c.in-Err.place in
    inserted_up ts c.insert.new.self.items i c.args.no c.self.invariant
    (shown c.args.no.0 c.deref.result.now ts (Err i) c.deref.ensures.value c.in-Err.ensures.position)
    c.in_ok-insert-in-Err.ensures.items

pub returns-in-Ok-clause-inserted : goal.returns-in-Ok-clause-inserted
returns-in-Ok-clause-inserted c = λ k.
    let ts = c.self.inside.nos.items in
    let i = c.in-Ok.field-0 in
    let x = c.args.no.0 in
    ap (λ ns. among ns k) (sym c.self.view_is)
    ∙ there_already ts i x k c.self.invariant (shown x c.deref.result.now ts (Ok i) c.deref.ensures.value c.in-Ok.ensures.position)
    ∙ ap (λ ns. among ns k || eqb k x) c.self.view_is

pub returns-in_ok-insert-in-Err-clause-inserted : goal.returns-in_ok-insert-in-Err-clause-inserted
returns-in_ok-insert-in-Err-clause-inserted c = λ k.
    inserted_among c.self.inside.nos.items c.insert.new.self.items c.in-Err.place c.args.no k c.in_ok-insert-in-Err.ensures.items
    ∙ ap (λ ns. among ns k || eqb k c.args.no.0) c.self.view_is
