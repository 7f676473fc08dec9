use Rattle.std.proofs.Common.{[]}
use Rattle.pie_union.specs.inner.Index.{Tells}
use Rattle.pie_union.proofs.index.Index.sized.Given as goal

abbrev pub invariant-loop : goal.invariant-loop
invariant-loop l = Tells l.index l.counter []
