-- No report has a number with a fraction.
use Rattle.std.proofs.Common.{◌≡◌, ℕ, false, List, [], ◌∷◌, map, Option, None, Some, refl}
use Rattle.serde_json.specs.Data.{string}
use Rattle.serde_json.specs.View.{items_of}
use Rattle.serde_json.specs.Written.{has_float, items_have_float}
use Rattle.pie_store.specs.declared.cause.Cause.{Cause}
use Rattle.pie_value.specs.declared.task.Task.{Task}
use Rattle.pie_value.specs.declared.value.Value.{Value}
use Rattle.pie_value.specs.Shown.{shown_task}
use Rattle.pie_report.specs.declared.report.Report.{Report}
use Rattle.pie_report.specs.Objects.{fresh_data, output_data, report_data}

texts : (ts : List (List ℕ)) → items_have_float (items_of (map string ts)) ≡ false
texts [] = refl
texts (t ∷ ts) = texts ts

outputs : (os : List (Task × Value)) → items_have_float (items_of (map output_data os)) ≡ false
outputs [] = refl
outputs (o ∷ os) = outputs os

cause : (c : Option Cause) → has_float (fresh_data c) ≡ false
cause None = refl
cause (Some c) = refl

pub no_float : (report : Report) (runs : List Task) → has_float (report_data report runs) ≡ false
no_float report runs =
    rw (cause report.fresh, outputs report.outputs.items, texts (map shown_task runs), texts report.removed.items, texts report.wrote.items) refl
