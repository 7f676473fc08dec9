use Rattle.std.proofs.Common.{◌≡◌, List, Vec, Global, sym, ap, ◌∙◌}
use Rattle.pie_record.specs.Reading.{mark_at}
use Rattle.pie_scan.specs.declared.entry.Entry.{Entry}
use Rattle.pie_scan.specs.Reading.{next_at, list_at, entry_key, entry_part}
use Rattle.pie_scan.proofs.Turns.{list_fails, fault_goes}
use Rattle.std.proofs.Common.{arith}
use Rattle.pie_scan.proofs.Turns.{one_more}
use Rattle.pie_scan.proofs.reading.entries.Goals as goal

pub returns-in-Err : goal.returns-in-Err
returns-in-Err c =
    let next = next_at c.args.end entry_key entry_part in
    let same : next c.loop.entries.items c.loop.reader ≡ next c.as_slice.result.now c.loop.reader =
    ap (λ (l : List Entry). next l c.loop.reader) (sym c.as_slice.ensures.value) in
    fault_goes (λ x. x) (λ (xs : Vec Entry Global). xs.items) c.in-Err.fault _ _ (next c.as_slice.result.now c.loop.reader)
    (list_at c.args.end mark_at entry_key entry_part c.args.reader.now)
    (λ e. list_fails c.args.end mark_at entry_key entry_part _ _ _ _ _ _ _ c.loop-test.true c.in_ok-count.ensures c.loop.invariant (same ∙ e)) c.in-Err.ensures

pub loop-preserved : goal.loop-preserved
loop-preserved c = grind (arith, one_more)
