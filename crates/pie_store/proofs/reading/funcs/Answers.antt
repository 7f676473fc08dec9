use Rattle.std.proofs.Common.{◌≡◌, ℕ, List, Vec, Global, sym, ap, ◌∙◌}
use Rattle.pie_store.specs.inner.Reading.{next_func, list_at}
use Rattle.pie_store.proofs.Turns.{list_fails, fault_goes}
use Rattle.std.proofs.Common.{arith}
use Rattle.pie_store.proofs.Turns.{one_more}
use Rattle.pie_store.proofs.reading.funcs.Goals as goal

pub returns-in-Err : goal.returns-in-Err
returns-in-Err c =
    let next = next_func c.args.end in
    let same : next c.loop.funcs.items c.loop.reader ≡ next c.as_slice.result.now c.loop.reader =
    ap (λ (l : List (List ℕ × List ℕ)). next l c.loop.reader) (sym c.as_slice.ensures.value) in
    fault_goes (λ x. x) (λ (xs : Vec (List ℕ × List ℕ) Global). xs.items) c.in-Err.fault _ _ (next c.as_slice.result.now c.loop.reader)
    (list_at c.args.end next c.args.reader.now)
    (λ e. list_fails c.args.end next _ _ _ _ _ _ _ c.loop-test.true c.in_ok-count.ensures.read c.loop.invariant (same ∙ e)) c.in-Err.ensures

pub loop-preserved : goal.loop-preserved
loop-preserved c = grind (arith, one_more)
