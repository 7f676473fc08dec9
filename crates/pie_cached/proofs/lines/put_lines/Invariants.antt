use Rattle.std.proofs.Common.{◌≡◌, ◌++◌, drop, string_bytes}
use Rattle.pie_cached.specs.Lines.{reused_lines}
use Rattle.pie_cached.proofs.lines.put_lines.Given as goal

abbrev pub invariant-loop-task : goal.invariant-loop-task
invariant-loop-task l = string_bytes l.text ++ reused_lines (drop l.task-index l.tasks) ≡ string_bytes l.fn.text ++ reused_lines l.tasks
