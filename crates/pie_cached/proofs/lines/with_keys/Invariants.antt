use Rattle.std.proofs.Common.{◌≡◌, ◌++◌, drop, map}
use Rattle.pie_report.specs.inner.Keys.{key_of, plain_key}
use Rattle.pie_cached.proofs.lines.with_keys.Given as goal

abbrev pub invariant-loop-task : goal.invariant-loop-task
invariant-loop-task l = map plain_key l.keyed.items ++ map key_of (drop l.task-index l.tasks) ≡ map key_of l.tasks
