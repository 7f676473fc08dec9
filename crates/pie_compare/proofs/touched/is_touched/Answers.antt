use Rattle.pie_compare.proofs.Asks.{asks_sights, asks_writes}
use Rattle.pie_compare.proofs.touched.is_touched.Goals as goal

pub returns-in_err-touched-clause-asks : goal.returns-in_err-touched-clause-asks
returns-in_err-touched-clause-asks g c =
    let named = c.args.named.now in
    let rec = c.args.rec.now in
    let before = g.F.Files.asked c.args.files.now in
    let mid = g.F.Files.asked c.is_any_sight_touched.new.files in
    asks_writes named c.is_any_sight_touched.new.named rec c.as_slice-2.result.now before mid (g.F.Files.asked c.is_any_write_touched.new.files)
    c.as_slice-2.ensures c.is_any_sight_touched.ensures.names
    (asks_sights named rec c.as_slice.result.now before mid c.as_slice.ensures c.is_any_sight_touched.ensures.asks) c.is_any_write_touched.ensures.asks

pub returns-clause-asks : goal.returns-clause-asks
returns-clause-asks g c =
    let named = c.args.named.now in
    let rec = c.args.rec.now in
    let before = g.F.Files.asked c.args.files.now in
    let mid = g.F.Files.asked c.is_any_sight_touched.new.files in
    asks_writes named c.is_any_sight_touched.new.named rec c.as_slice-2.result.now before mid (g.F.Files.asked c.is_any_write_touched.new.files)
    c.as_slice-2.ensures c.is_any_sight_touched.ensures.names
    (asks_sights named rec c.as_slice.result.now before mid c.as_slice.ensures c.is_any_sight_touched.ensures.asks) c.is_any_write_touched.ensures.asks
