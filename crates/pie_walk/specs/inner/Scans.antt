-- A scan for the next required task that isn't settled.
use Rattle.std.specs.Prelude.{ℕ, ◌<◌, ◌≤◌, List, Option, None, Some, length, slice_index}
use Rattle.pie_walk.specs.declared.marks.Mark.{Mark}
use Rattle.pie_walk.specs.Marks.{IsSettled}

-- what is required from one place up to before another is settled
abbrev pub AreSettled : List ℕ → List Mark → ℕ → ℕ → Type 0
AreSettled needs marks from to = (i : ℕ) → from ≤ i → i < to → IsSettled marks (slice_index needs i)

-- the first place, from one on, of a task that isn't settled; none where all are
abbrev pub IsNext : List ℕ → List Mark → ℕ → Option ℕ → Type 0
IsNext needs marks from None = AreSettled needs marks from (length needs)
IsNext needs marks from (Some at) =
    (from ≤ at) × (at < length needs) × AreSettled needs marks from at × (IsSettled marks (slice_index needs at) → ⊥)
