use Rattle.std.proofs.Common.{◌≡◌, ℕ, List, Vec, Global, sym, ap, ◌∙◌}
use Rattle.pie_record.specs.Reading.{path_at, number_at}
use Rattle.pie_scan.specs.Reading.{next_at, list_at, path_key}
use Rattle.pie_scan.proofs.Turns.{list_fails, fault_goes}
use Rattle.std.proofs.Common.{arith}
use Rattle.pie_scan.proofs.Turns.{one_more}
use Rattle.pie_scan.proofs.reading.tops.Goals as goal

pub returns-in-Err : goal.returns-in-Err
returns-in-Err c =
    let next = next_at c.args.end path_key path_at in
    let same : next c.loop.tops.items c.loop.reader ≡ next c.as_slice.result.now c.loop.reader =
    ap (λ (l : List (List ℕ)). next l c.loop.reader) (sym c.as_slice.ensures.value) in
    fault_goes (λ x. x) (λ (xs : Vec (List ℕ) Global). xs.items) c.in-Err.fault _ _ (next c.as_slice.result.now c.loop.reader)
    (list_at c.args.end number_at path_key path_at c.args.reader.now)
    (λ e. list_fails c.args.end number_at path_key path_at _ _ _ _ _ _ _ c.loop-test.true c.in_ok-count.ensures c.loop.invariant (same ∙ e)) c.in-Err.ensures

pub loop-preserved : goal.loop-preserved
loop-preserved c = grind (arith, one_more)
