use Rattle.std.proofs.Common.{◌≡◌, ◌∷◌, ◌∙◌, subst, arith}
use Rattle.std.specs.List.{All}
use Rattle.std.proofs.lemmas.List.Elements.{All-tail}
use Rattle.pie_store.specs.declared.offers.Offer.{Offer}
use Rattle.pie_store.specs.inner.Offers.{IsOffer}
use Rattle.pie_topdown.specs.inner.Offering.{FitsSo}
use Rattle.pie_topdown.proofs.Tried.{first_out, over_more}
use Rattle.pie_topdown.proofs.builder.Builder.next_fitting.Goals as goal

pub offers-preserved : goal.offers-preserved
offers-preserved c =
    let before = c.offers.invariant in
    let size = c.remove.ensures.len in
    let out : c.offers.rest.items ≡ c.remove.result ∷ c.remove.new.self.items =
    first_out c.offers.rest.items c.remove.new.self.items c.remove.result (omega (arith, size)) c.remove.ensures.value c.remove.ensures.items in (
      All-tail IsOffer c.remove.result c.remove.new.self.items (subst (All IsOffer) out before.0),
      omega (arith, size, before.1),
      over_more c.args.self.now c.args.no.0 c.args.rest.now.items c.offers.rest.items c.remove.new.self.items c.remove.result before.2 out
          (subst (FitsSo c.args.self.now c.args.no.0 c.remove.result) c.if-branch.false
          (subst (λ (o : Offer). FitsSo c.args.self.now c.args.no.0 o c.in_ok-fits.field-0) (c.deref.ensures ∙ c.in_ok-offer.ensures.ok) c.in_ok-fits.ensures)),
    )
