use Rattle.std.proofs.Common.{◌≡◌, ◌++◌, drop}
use Rattle.pie_fresh.specs.inner.Cycles.{tasks_from}
use Rattle.pie_fresh.proofs.builder.Builder.cycle.Given as goal

-- the tasks so far and those of the callers that are left are those of all callers
abbrev pub invariant-loop-caller : goal.invariant-loop-caller
invariant-loop-caller l = l.tasks.items ++ tasks_from l.no.0 (drop l.caller-index l.self.stack.items) ≡ tasks_from l.no.0 l.self.stack.items
