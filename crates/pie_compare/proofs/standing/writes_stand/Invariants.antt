use Rattle.std.proofs.Common.{take}
use Rattle.std.specs.Prelude.{All}
use Rattle.pie_compare.specs.inner.Standing.{WriteStands}
use Rattle.pie_compare.proofs.standing.writes_stand.Given as goal

-- the writes so far stand
abbrev pub invariant-loop-path : goal.invariant-loop-path
invariant-loop-path l = All (WriteStands l.named) (take l.path-index l.writes)
