use Rattle.std.proofs.Common.{Vec, Global, [], sym, ◌∙◌, arith}
use Rattle.std.specs.Prelude.{map}
use Rattle.pie_store.specs.declared.offers.Offer.{Offer}
use Rattle.pie_store.specs.inner.Offers.{offered}
use Rattle.pie_cache.specs.inner.Reading.{part_at, entry_part, some_at}
use Rattle.pie_cache.proofs.Steps.{fault_goes}
use Rattle.pie_cache.proofs.Turns.{one_more, one_fails}
use Rattle.pie_cache.proofs.reading.entries.Goals as goal

pub returns-in-Err : goal.returns-in-Err
returns-in-Err c =
    fault_goes offered (λ (es : Vec Offer Global). map offered es.items) c.in-Err.fault _ _ (part_at c.args.end entry_part c.loop.reader)
    (some_at c.args.end c.args.count [] c.args.reader.now)
    (λ e. sym c.loop.invariant ∙ one_fails c.args.end c.args.count c.loop.counter (map offered c.loop.entries.items) c.loop.reader c.in-Err.fault
    c.loop-test.true e) c.in-Err.ensures

pub loop-preserved : goal.loop-preserved
loop-preserved c = grind (arith, one_more)
