use Rattle.std.proofs.Common.{◌≡◌, ◌-◌, []}
use Rattle.pie_record.specs.Reading.{many_at, write_at}
use Rattle.pie_record.proofs.reader.Reader.writes.Given as goal

abbrev pub invariant-loop : goal.invariant-loop
invariant-loop l = many_at write_at (l.count - l.counter) l.writes.items l.self ≡ many_at write_at l.count [] l.initial.self
