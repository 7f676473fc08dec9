use Rattle.std.proofs.Common.{◌≡◌, ◌-◌}
use Rattle.pie_parser.specs.inner.Turns.{many, onto}
use Rattle.pie_parser.specs.FunctionReading.{another_param, more_params}
use Rattle.pie_parser.proofs.reader.Reader.more_params.Given as goal

abbrev pub invariant-loop : goal.invariant-loop
invariant-loop l = onto l.params.items (many (another_param l.room) (l.end - l.counter) l.self) ≡ more_params l.room l.fn.first l.fn.self
