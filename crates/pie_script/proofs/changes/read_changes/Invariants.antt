use Rattle.std.proofs.Common.{◌≡◌, ◌++◌, ◌+◌, ◌≤◌, map, length}
use Rattle.pie_script.specs.Line.{change_line}
use Rattle.pie_script.specs.Steps.{names, first_wrong}
use Rattle.pie_script.specs.Reading.{change_lines, most}
use Rattle.pie_script.proofs.changes.read_changes.Given as goal

abbrev pub invariant-loop-text : goal.invariant-loop-text
invariant-loop-text l =
    (l.paths.items ++ names (map change_line l.lines) ≡ names (change_lines l.bytes))
    × (first_wrong l.line (map change_line l.lines) ≡ first_wrong 1 (change_lines l.bytes))
    × (l.line + length l.lines ≤ most + 2)
    × (length l.bytes ≤ most)

abbrev pub decreases-loop-text : goal.decreases-loop-text
decreases-loop-text l = length l.lines
