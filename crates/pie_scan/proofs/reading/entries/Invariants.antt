use Rattle.std.proofs.Common.{◌≡◌, ◌-◌, []}
use Rattle.pie_scan.specs.Reading.{some_at, next_at, entry_key, entry_part}
use Rattle.pie_scan.proofs.reading.entries.Given as goal

abbrev pub invariant-loop : goal.invariant-loop
invariant-loop l = some_at (next_at l.end entry_key entry_part) (l.count - l.counter) l.entries.items l.reader ≡ some_at (next_at l.end entry_key entry_part) l.count [] l.initial.reader
