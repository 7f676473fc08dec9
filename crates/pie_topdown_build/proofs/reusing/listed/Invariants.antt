use Rattle.std.proofs.Common.{◌≡◌, ◌++◌, map}
use Rattle.pie_topdown_build.proofs.reusing.listed.Given as goal

-- the tasks so far, and those that are left
abbrev pub invariant-loop-task : goal.invariant-loop-task
invariant-loop-task l = l.found.items ++ map (λ e. e.1) l.task-iterator ≡ map (λ e. e.1) l.keyed.entries
