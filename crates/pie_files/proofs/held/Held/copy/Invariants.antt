use Rattle.std.proofs.Common.{◌≡◌}
use Rattle.std.specs.FinMap as fin
use Rattle.pie_files.specs.inner.Held.{with_all}
use Rattle.pie_files.proofs.held.Held.copy.Given as goal

abbrev pub invariant-loop-path : goal.invariant-loop-path
invariant-loop-path l = with_all l.self l.copy l.path-iterator ≡ with_all l.self fin.empty l.initial.path-iterator
