use Rattle.std.proofs.Common.{◌≡◌, ◌++◌, drop, string_bytes}
use Rattle.pie_report.specs.Verdicts.{cycle_on}
use Rattle.pie_report.proofs.verdict.put_cycle_on.Given as goal

abbrev pub invariant-loop-task : goal.invariant-loop-task
invariant-loop-task l = string_bytes l.out ++ cycle_on (drop l.task-index l.tasks) ≡ string_bytes l.fn.out ++ cycle_on l.tasks
