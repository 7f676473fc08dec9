use Rattle.std.proofs.Common.{◌≡◌, ◌++◌, drop, map}
use Rattle.pie_old.specs.inner.Looking.{looks_out}
use Rattle.pie_old.proofs.looking.looks_of.Given as goal

abbrev pub invariant-loop-rec : goal.invariant-loop-rec
invariant-loop-rec l = l.flags.items ++ map looks_out (drop l.rec-index l.rows) ≡ map looks_out l.rows
