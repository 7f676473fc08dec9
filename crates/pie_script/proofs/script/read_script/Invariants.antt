use Rattle.std.proofs.Common.{◌≡◌, ◌+◌, ◌≤◌, map, length}
use Rattle.std.specs.Prelude.{is_some}
use Rattle.pie_script.specs.Line.{script_line, texts}
use Rattle.pie_script.specs.Steps.{first_wrong, placed}
use Rattle.pie_script.specs.Reading.{script_lines, most}
use Rattle.pie_script.specs.inner.Taking.{nothing, taken_all}
use Rattle.pie_script.proofs.script.read_script.Given as goal

abbrev pub invariant-loop-text : goal.invariant-loop-text
invariant-loop-text l =
    (taken_all (map script_line l.lines) l.script ≡ taken_all (map script_line (texts l.bytes)) nothing)
    × (first_wrong l.line (placed (is_some l.script.under) (map script_line l.lines)) ≡ first_wrong 1 (script_lines l.bytes))
    × (l.line + length l.lines ≤ most + 2)
    × (length l.bytes ≤ most)

abbrev pub decreases-loop-text : goal.decreases-loop-text
decreases-loop-text l = length l.lines
