use Rattle.pie_record.specs.Reading.{write_at, list_at}
use Rattle.pie_record.proofs.Turns.{list_fails, fault_goes}
use Rattle.std.proofs.Common.{arith}
use Rattle.pie_record.proofs.Turns.{one_more}
use Rattle.pie_record.proofs.reader.Reader.writes.Goals as goal

pub returns-in-Err : goal.returns-in-Err
returns-in-Err c =
    fault_goes (λ x. x) (λ xs. xs) c.in-Err.fault _ _ (write_at c.loop.self) (list_at write_at c.args.self.now)
    (λ e. list_fails write_at _ _ _ _ _ _ _ c.loop-test.true c.in_ok-count.ensures.read c.loop.invariant e) c.in-Err.ensures

pub loop-preserved : goal.loop-preserved
loop-preserved c = grind (arith, one_more)
