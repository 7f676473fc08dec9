use Rattle.std.proofs.Common.{◌≡◌, ◌++◌, drop, map}
use Rattle.serde_json.specs.Data.{string}
use Rattle.serde_json.specs.View.{view}
use Rattle.pie_value.specs.Shown.{shown_task}
use Rattle.pie_report.proofs.object.tasks_of.Given as goal

abbrev pub invariant-loop-task : goal.invariant-loop-task
invariant-loop-task l = map view l.items.items ++ map string (map shown_task (drop l.task-index l.tasks)) ≡ map string (map shown_task l.tasks)
