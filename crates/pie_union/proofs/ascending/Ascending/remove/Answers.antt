use Rattle.std.proofs.Common.{◌&&◌, not, ap, ◌∙◌, eqb, sym}
use Rattle.std.specs.Prelude.{Ok, Err}
use Rattle.pie_union.specs.inner.Among.{among}
use Rattle.pie_union.proofs.Ascends.{shown, removed_up, removed_among, never_there}
use Rattle.pie_union.proofs.ascending.Ascending.remove.Goals as goal

pub invariant_of-self : goal.invariant_of-self
invariant_of-self c =
    let ts = c.self.inside.nos.items in
    let i = c.in-Ok.place in
    let x = c.args.no.0 in
    removed_up ts c.remove.new.self.items i x c.self.invariant (shown x c.deref.result.now ts (Ok i) c.deref.ensures.value c.in-Ok.ensures.position)
    c.remove.ensures.items

pub returns-in-Ok : goal.returns-in-Ok
returns-in-Ok c = λ k.
    let ts = c.self.inside.nos.items in
    let i = c.in-Ok.place in
    let x = c.args.no.0 in
    removed_among ts c.remove.new.self.items i x k c.self.invariant (shown x c.deref.result.now ts (Ok i) c.deref.ensures.value c.in-Ok.ensures.position)
    c.remove.ensures.items
    ∙ ap (λ ns. among ns k && not (eqb k x)) c.self.view_is

pub returns-in_default : goal.returns-in_default
returns-in_default c = λ k.
    let ts = c.self.inside.nos.items in
    let i = c.in_default.field-0 in
    let x = c.args.no.0 in
    ap (λ ns. among ns k) (sym c.self.view_is)
    ∙ never_there ts i x k c.self.invariant (shown x c.deref.result.now ts (Err i) c.deref.ensures.value c.in_default.ensures.position)
    ∙ ap (λ ns. among ns k && not (eqb k x)) c.self.view_is
