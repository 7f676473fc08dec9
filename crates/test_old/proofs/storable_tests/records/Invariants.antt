use Rattle.std.specs.Prelude.{All}
use Rattle.pie_record.specs.Canonical.{IsStorable}
use Rattle.test_old.proofs.storable_tests.records.Given as goal

abbrev pub invariant-loop-name : goal.invariant-loop-name
invariant-loop-name l = All IsStorable l.rows.items
