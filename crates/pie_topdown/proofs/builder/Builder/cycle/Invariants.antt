use Rattle.std.proofs.Common.{◌≡◌, drop}
use Rattle.pie_topdown.specs.inner.Calling.{tasks_from}
use Rattle.pie_topdown.proofs.Rounds.{going}
use Rattle.pie_topdown.proofs.builder.Builder.cycle.Given as goal

-- the tasks so far and the frames that are left make the cycle
abbrev pub invariant-loop-frame : goal.invariant-loop-frame
invariant-loop-frame l = going l.from.0 l.tasks.items (drop l.frame-index l.self.stack.items) ≡ tasks_from l.from.0 l.self.stack.items
