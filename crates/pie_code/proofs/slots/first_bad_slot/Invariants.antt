use Rattle.std.proofs.Common.{ℕ, ◌<◌, ◌≤◌}
use Rattle.pie_code.specs.Checked.{SlotsFit}
use Rattle.pie_code.proofs.slots.first_bad_slot.Given as goal

abbrev pub invariant-loop-at : goal.invariant-loop-at
invariant-loop-at l = (l.code.params ≤ l.code.slots) × ((place : ℕ) → place < l.at → SlotsFit l.code place)
