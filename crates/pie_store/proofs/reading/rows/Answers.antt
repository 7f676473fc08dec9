use Rattle.std.proofs.Common.{arith, sym, ◌∙◌}
use Rattle.pie_store.specs.inner.Reading.{next_row, list_at, grown}
use Rattle.pie_store.specs.inner.Known.{known_in}
use Rattle.pie_store.proofs.Turns.{one_grown, grown_fails, grown_long, fault_goes}
use Rattle.pie_store.proofs.reading.rows.Goals as goal

pub returns-in-Err : goal.returns-in-Err
returns-in-Err c =
    fault_goes (λ x. x) (λ xs. xs) c.in-Err.fault _ _ (grown (next_row (known_in c.args.funcs.now) c.args.end) c.loop.rows c.loop.reader)
    (list_at c.args.end (next_row (known_in c.args.funcs.now) c.args.end) c.args.reader.now)
    (λ e. grown_fails c.args.end
    (next_row (known_in c.args.funcs.now) c.args.end) _ _ _ _ _ _ _ c.loop-test.true c.in_ok-count.ensures.read c.loop.invariant.0 e)
    c.in-Err.ensures

pub loop-preserved : goal.loop-preserved
loop-preserved c = (
  sym (one_grown (next_row (known_in c.args.funcs.now) c.args.end) _ _ _ _ _ _ c.loop-test.true c.in-Ok.ensures) ∙ c.loop.invariant.0,
  omega (arith, c.loop.invariant.1, grown_long (next_row (known_in c.args.funcs.now) c.args.end) _ _ _ _ c.in-Ok.ensures),
)
