use Rattle.std.proofs.Common.{◌≡◌, ◌-◌, []}
use Rattle.pie_record.specs.Reading.{many_at, dep_at}
use Rattle.pie_record.proofs.reader.Reader.deps.Given as goal

abbrev pub invariant-loop : goal.invariant-loop
invariant-loop l = many_at dep_at (l.count - l.counter) l.deps.items l.self ≡ many_at dep_at l.count [] l.initial.self
