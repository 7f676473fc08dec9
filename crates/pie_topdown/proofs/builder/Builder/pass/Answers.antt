use Rattle.std.proofs.Common.{rules, ◌≡◌, ◌+◌, ap, sym, subst, ◌∙◌}
use Rattle.pie_topdown.specs.declared.hand.Check.{Check}
use Rattle.pie_topdown.specs.inner.Unoffered.{HasNoOffers}
use Rattle.pie_topdown.proofs.Checked.{passes_turn}
use Rattle.pie_topdown.proofs.Trying.{check_passed}
use Rattle.pie_topdown.proofs.builder.Builder.pass.Goals as goal

pub returns-clause-right : goal.returns-clause-right
returns-clause-right c =
    let same : c.deref_mut.result.now ≡ c.args.check.value = search rules in
    passes_turn c.args.self.now c.args.check.value _ (ap (λ (x : Check). record x { at = x.at + 1 }) same) c.requires.place.next.storable

pub returns-clause-own : goal.returns-clause-own
returns-clause-own c = λ this.
    let same : c.deref_mut.result.now ≡ c.args.check.value = search rules in
    record { own = ap (λ (x : Check). x.contents) same ∙ this.own; rest = subst HasNoOffers (ap (λ (x : Check). x.rest) (sym same)) this.rest }

pub returns-clause-tried : goal.returns-clause-tried
returns-clause-tried c =
    let same : c.deref_mut.result.now ≡ c.args.check.value = search rules in
    check_passed c.args.self.now c.args.check.value _ (ap (λ (x : Check). x.rec) same) (ap (λ (x : Check). x.contents) same) (ap (λ (x : Check). x.rest) same)
