use Rattle.std.proofs.Common.{◌≡◌, ◌++◌, drop, map}
use Rattle.pie_cached.proofs.lines.without_keys.Given as goal

abbrev pub invariant-loop-task : goal.invariant-loop-task
invariant-loop-task l = l.tasks.items ++ map (λ k. k.1) (drop l.task-index l.keyed) ≡ map (λ k. k.1) l.keyed
