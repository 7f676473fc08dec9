-- The text of a report.
use Rattle.std.specs.Prelude.{◌≡◌, ℕ, List, [], ◌∷◌, ◌++◌, map, Option, None, Some, codes}
use Rattle.std.specs.Fmt.{decimal}
use Rattle.pie_store.specs.declared.cause.Cause.{Cause}
use Rattle.pie_value.specs.declared.task.Task.{Task}
use Rattle.pie_value.specs.declared.value.Value.{Value}
use Rattle.pie_value.specs.declared.verdict.Verdict.{Verdict}
use Rattle.pie_value.specs.declared.verdict.Verdict.TheVariants as verdicts
use Rattle.pie_value.specs.Shown.{shown, shown_task}
use Rattle.pie_value.specs.Values.{tree_of}
use Rattle.pie_report.specs.declared.report.Report.{Report}
use Rattle.pie_report.specs.Causes.{cause_text}
use Rattle.pie_report.specs.Order.{InTaskOrder}
use Rattle.pie_report.specs.Verdicts.{verdict_text}

-- a line for each text, which begins with a word
abbrev pub lines : List ℕ → List (List ℕ) → List ℕ
lines word [] = []
lines word (text ∷ texts) = word ++ (text ++ (codes "\n" ++ lines word texts))

-- a line for each task that was run
abbrev pub run_lines : List Task → List ℕ
run_lines tasks = lines (codes "ran ") (map shown_task tasks)

-- the line of a build that started afresh
abbrev pub fresh_line : Option Cause → List ℕ
fresh_line None = []
fresh_line (Some cause) = codes "fresh " ++ (cause_text cause ++ codes "\n")

-- a root and what it gave
abbrev pub output_text : Task × Value → List ℕ
output_text output = shown_task output.0 ++ (codes " = " ++ shown (tree_of output.1))

-- a line for each root
abbrev pub output_lines : List (Task × Value) → List ℕ
output_lines outputs = lines (codes "output ") (map output_text outputs)

-- how many tasks are live, and what the roots gave; no line where the build is refused
abbrev pub accepted_lines : Verdict → ℕ → List (Task × Value) → List ℕ
accepted_lines verdicts.Accepted live outputs = codes "live " ++ (decimal live ++ (codes "\n" ++ output_lines outputs))
accepted_lines (verdicts.Refused refusal) live outputs = []

-- the lines of a report after those of its runs
abbrev pub lines_after_runs : Report → List ℕ
lines_after_runs report =
    lines (codes "wrote ") report.wrote.items
    ++ (lines (codes "removed ") report.removed.items ++ accepted_lines report.verdict report.live report.outputs.items)

-- the lines of a report whose runs stand in this order
abbrev pub text_with_runs : Report → List Task → List ℕ
text_with_runs report runs =
    verdict_text report.verdict ++ (codes "\n" ++ (fresh_line report.fresh ++ (run_lines runs ++ lines_after_runs report)))

-- the text of a report: its runs stand in task order
abbrev pub IsText : Report → List ℕ → Type 0
IsText report text = (runs : List Task) × InTaskOrder report.ran.items runs × (text ≡ text_with_runs report runs)
