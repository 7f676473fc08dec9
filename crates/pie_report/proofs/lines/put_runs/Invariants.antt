use Rattle.std.proofs.Common.{◌≡◌, ◌++◌, drop, string_bytes}
use Rattle.pie_report.specs.Texts.{run_lines}
use Rattle.pie_report.proofs.lines.put_runs.Given as goal

abbrev pub invariant-loop-task : goal.invariant-loop-task
invariant-loop-task l = string_bytes l.out ++ run_lines (drop l.task-index l.tasks) ≡ string_bytes l.fn.out ++ run_lines l.tasks
