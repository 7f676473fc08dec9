use Rattle.std.proofs.Common.{◌≡◌, drop}
use Rattle.pie_compare.specs.inner.Standing.{write_at}
use Rattle.pie_compare.proofs.outs.write_at.Given as goal

-- no write so far is of the path
abbrev pub invariant-loop-at : goal.invariant-loop-at
invariant-loop-at l = write_at (drop l.at-index l.writes) l.path ≡ write_at l.writes l.path
