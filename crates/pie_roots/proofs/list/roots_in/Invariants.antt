use Rattle.std.proofs.Common.{◌+◌, ◌≤◌, length}
use Rattle.pie_types.specs.Whole.{number_from}
use Rattle.pie_roots.specs.RootLists.{most}
use Rattle.pie_roots.proofs.RootLines.{Left}
use Rattle.pie_roots.proofs.list.roots_in.Given as goal

abbrev pub invariant-loop-text : goal.invariant-loop-text
invariant-loop-text l = Left (number_from 0 l.typed) l.fn.text l.lines l.roots.items l.line × (l.line + length l.lines ≤ most + 2)

abbrev pub decreases-loop-text : goal.decreases-loop-text
decreases-loop-text l = length l.lines
