use Rattle.std.proofs.Common.{sym, subst}
use Rattle.std.specs.List.{All}
use Rattle.std.proofs.lemmas.List.Elements.{All-push}
use Rattle.pie_store.specs.inner.Offers.{IsOffer}
use Rattle.test_topdown.proofs.Swapping.{swapped_more}
use Rattle.test_topdown.proofs.offers.all_swapped.Goals as goal

pub loop-entry-preserved : goal.loop-entry-preserved
loop-entry-preserved c =
    let before = c.loop-entry.invariant in (
      swapped_more c.args.content.now c.args.entries.now c.loop-entry.swapped.items c.push.new.self.items c.loop-entry.entry-index c.entry-item.result
          c.in_ok-with_content.field-0 c.loop-entry-test.true c.entry-item.is before.0 c.in_ok-with_content.ensures.offer c.in_ok-push.ensures.items,
      subst (All IsOffer) (sym c.in_ok-push.ensures.items)
          (All-push IsOffer c.loop-entry.swapped.items c.in_ok-with_content.field-0 before.1 c.in_ok-with_content.ensures.row),
    )
