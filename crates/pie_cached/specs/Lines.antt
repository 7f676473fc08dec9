-- The text of a build with the record cache.
use Rattle.std.specs.Prelude.{◌≡◌, ℕ, List, ◌++◌, map, codes}
use Rattle.pie_report.specs.Order.{InTaskOrder}
use Rattle.pie_report.specs.Texts.{lines, IsText}
use Rattle.pie_report.specs.declared.report.Report.{Report}
use Rattle.pie_value.specs.Shown.{shown_task}
use Rattle.pie_value.specs.declared.task.Task.{Task}

-- a line for each task whose record came from the cache
abbrev pub reused_lines : List Task → List ℕ
reused_lines tasks = lines (codes "reused ") (map shown_task tasks)

-- the text of these tasks: their lines, in task order
abbrev pub IsReusedText : List Task → List ℕ → Type 0
IsReusedText tasks text = (sorted : List Task) × InTaskOrder tasks sorted × (text ≡ reused_lines sorted)

-- a text is that of a report, and of these tasks behind it
abbrev pub IsCachedText : Report → List Task → List ℕ → Type 0
IsCachedText report reused text = (first : List ℕ) × (more : List ℕ) × IsText report first × IsReusedText reused more × (text ≡ first ++ more)
