use Rattle.std.proofs.Common.{◌≡◌, ◌-◌, []}
use Rattle.std.specs.Prelude.{map}
use Rattle.pie_store.specs.inner.Offers.{offered}
use Rattle.pie_cache.specs.inner.Reading.{some_at}
use Rattle.pie_cache.proofs.reading.entries.Given as goal

abbrev pub invariant-loop : goal.invariant-loop
invariant-loop l = some_at l.end (l.count - l.counter) (map offered l.entries.items) l.reader ≡ some_at l.end l.count [] l.initial.reader
