use Rattle.std.proofs.Common.{◌≡◌, ◌-◌, []}
use Rattle.pie_store.specs.inner.Reading.{some_at, next_func}
use Rattle.pie_store.proofs.reading.funcs.Given as goal

abbrev pub invariant-loop : goal.invariant-loop
invariant-loop l = some_at (next_func l.end) (l.count - l.counter) l.funcs.items l.reader ≡ some_at (next_func l.end) l.count [] l.initial.reader
