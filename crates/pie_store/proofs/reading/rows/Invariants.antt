use Rattle.std.proofs.Common.{◌≡◌, ◌-◌, length, []}
use Rattle.pie_store.specs.inner.Reading.{some_at, next_row}
use Rattle.pie_store.specs.inner.Known.{known_in}
use Rattle.pie_store.proofs.reading.rows.Given as goal

abbrev pub invariant-loop : goal.invariant-loop
invariant-loop l =
    (some_at (next_row (known_in l.funcs) l.end) (l.count - l.counter) l.rows l.reader
    ≡ some_at (next_row (known_in l.funcs) l.end) l.count [] l.initial.reader)
    × (length l.rows ≡ l.counter)
