use Rattle.std.proofs.Common.{◌≡◌, ◌+◌, ◌-◌, ℕ, length}
use Rattle.pie_record.specs.inner.Records.{record_of}
use Rattle.pie_record.proofs.records.Records.make_slot.Given as goal

-- the records read as at the beginning
abbrev pub invariant-loop-no : goal.invariant-loop-no
invariant-loop-no l = (n : ℕ) → record_of l.self n ≡ record_of l.initial.self n

-- the slots that are still to be made
abbrev pub decreases-loop-no : goal.decreases-loop-no
decreases-loop-no l = l.no.0 + 1 - length l.self.slots.items
