use Rattle.std.proofs.Common.{◌≡◌, ◌-◌}
use Rattle.pie_parser.specs.inner.Turns.{many, onto}
use Rattle.pie_parser.specs.ExprReading.{another_index, indices}
use Rattle.pie_parser.proofs.reader.Reader.indices.Given as goal

abbrev pub invariant-loop : goal.invariant-loop
invariant-loop l = onto l.indices.items (many another_index (l.end - l.counter) l.self) ≡ indices l.fn.self
