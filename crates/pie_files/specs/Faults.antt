-- How a count of faults tells that a call failed.
use Rattle.std.specs.Prelude.{◌⊎◌, ◌<◌, ◌≤◌, ◌-◌, ◌^◌, ℕ}

-- the count rose, or stands at its end, where it can't rise any more
abbrev pub Rose : ℕ → ℕ → Type 0
Rose before after = (before < after) ⊎ (2 ^ 64 - 1 ≤ after)

-- the count didn't rise, and would have shown it
abbrev pub Stayed : ℕ → ℕ → Type 0
Stayed before after = (after ≤ before) × (after < 2 ^ 64 - 1)
