-- The report as a JSON object.
use Rattle.std.specs.Prelude.{◌≡◌, ℕ, List, ◌++◌, map, Option, None, Some, codes}
use Rattle.serde_json.specs.Data.{Data, null, string, number, unsigned, array, object, item, no_items, member, no_members}
use Rattle.serde_json.specs.View.{items_of}
use Rattle.serde_json.specs.Written.{compact_text}
use Rattle.pie_store.specs.declared.cause.Cause.{Cause}
use Rattle.pie_value.specs.declared.task.Task.{Task}
use Rattle.pie_value.specs.declared.value.Value.{Value}
use Rattle.pie_value.specs.Shown.{shown, shown_task}
use Rattle.pie_value.specs.Values.{tree_of}
use Rattle.pie_report.specs.declared.report.Report.{Report}
use Rattle.pie_report.specs.Causes.{cause_text}
use Rattle.pie_report.specs.Order.{InTaskOrder}
use Rattle.pie_report.specs.Verdicts.{verdict_text}

-- texts as an array
abbrev pub texts_data : List (List ℕ) → Data
texts_data texts = array (items_of (map string texts))

-- the cause as a text, or null
abbrev pub fresh_data : Option Cause → Data
fresh_data None = null
fresh_data (Some cause) = string (cause_text cause)

-- a root and what it gave, as a pair of texts
abbrev pub output_data : Task × Value → Data
output_data output = array (item (string (shown_task output.0)) (item (string (shown (tree_of output.1))) no_items))

-- the roots in order, each with what it gave
abbrev pub outputs_data : List (Task × Value) → Data
outputs_data outputs = array (items_of (map output_data outputs))

-- the report with its runs in this order, the keys in byte order
abbrev pub report_data : Report → List Task → Data
report_data report runs =
    object (member (codes "fresh") (fresh_data report.fresh) (member (codes "live") (number (unsigned report.live))
    (member (codes "outputs") (outputs_data report.outputs.items) (member (codes "ran") (texts_data (map shown_task runs))
    (member (codes "removed") (texts_data report.removed.items) (member (codes "verdict") (string (verdict_text report.verdict))
    (member (codes "wrote") (texts_data report.wrote.items) no_members)))))))

-- the line of a report: the object without spaces, its runs in task order, and a newline
abbrev pub IsJson : Report → List ℕ → Type 0
IsJson report text =
    (runs : List Task) × InTaskOrder report.ran.items runs × (text ≡ compact_text (report_data report runs) ++ codes "\n")
