use Rattle.std.proofs.Common.{◌≡◌, ◌-◌}
use Rattle.pie_parser.specs.inner.Turns.{many, onto}
use Rattle.pie_parser.specs.FunctionReading.{another_function, functions}
use Rattle.pie_parser.proofs.reader.Reader.functions.Given as goal

abbrev pub invariant-loop : goal.invariant-loop
invariant-loop l = onto l.functions.items (many (another_function l.room) (l.end - l.counter) l.self) ≡ functions l.room l.fn.self
