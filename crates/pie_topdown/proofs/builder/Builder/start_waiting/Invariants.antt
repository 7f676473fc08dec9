use Rattle.std.proofs.Common.{◌≡◌, ◌+◌, ◌≤◌, length}
use Rattle.pie_topdown.specs.inner.Frames.{IsSite}
use Rattle.pie_topdown.specs.inner.Ran.{FallsOn}
use Rattle.pie_topdown.specs.inner.Roots.{Started}
use Rattle.pie_topdown.specs.inner.Turns.{stack_room}
use Rattle.pie_topdown.proofs.builder.Builder.start_waiting.Given as goal

-- the tasks of the checks that don't wait any more were started, and nothing else changed
abbrev pub invariant-waiting : goal.invariant-waiting
invariant-waiting l =
    IsSite l.self × (l.self ≡ record l.fn.self { ledger = l.self.ledger; stack = l.self.stack }) × (l.self.ledger.tables.names ≡ l.fn.self.ledger.tables.names)
    × Started l.fn.runs l.runs × (length l.runs + stack_room l.self.stack.items ≤ length l.fn.runs + stack_room l.fn.self.stack.items)
    × FallsOn l.fn.self l.self l.fn.runs l.runs

abbrev pub decreases-waiting : goal.decreases-waiting
decreases-waiting l = length l.self.stack.items
