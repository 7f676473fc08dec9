use Rattle.std.proofs.Common.{◌≡◌, ◌-◌, []}
use Rattle.pie_record.specs.Reading.{path_at}
use Rattle.pie_scan.specs.Reading.{some_at, next_at, path_key}
use Rattle.pie_scan.proofs.reading.tops.Given as goal

abbrev pub invariant-loop : goal.invariant-loop
invariant-loop l = some_at (next_at l.end path_key path_at) (l.count - l.counter) l.tops.items l.reader ≡ some_at (next_at l.end path_key path_at) l.count [] l.initial.reader
