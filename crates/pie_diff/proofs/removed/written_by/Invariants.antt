use Rattle.std.proofs.Common.{◌≡◌, ◌++◌, drop}
use Rattle.pie_diff.specs.Removals.{written_by}
use Rattle.pie_diff.proofs.removed.written_by.Given as goal

abbrev pub invariant-loop-row : goal.invariant-loop-row
invariant-loop-row l = l.paths.items ++ written_by (drop l.row-index l.rows) ≡ written_by l.rows
