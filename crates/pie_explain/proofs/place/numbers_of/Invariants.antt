use Rattle.std.proofs.Common.{◌≡◌, ◌≤◌, length, ◌+◌}
use Rattle.pie_explain.specs.Places.{column_behind, line_behind}
use Rattle.pie_explain.proofs.place.numbers_of.Given as goal

abbrev pub invariant-bytes : goal.invariant-bytes
invariant-bytes l = (l.line + length l.left ≤ length l.front + 1) × (l.column + length l.left ≤ length l.front + 1)
    × (length l.front ≤ 1048576 → (line_behind l.left l.line ≡ line_behind l.front 1) × (column_behind l.left l.column ≡ column_behind l.front 1))

abbrev pub decreases-bytes : goal.decreases-bytes
decreases-bytes l = length l.left
