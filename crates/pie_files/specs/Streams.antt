-- What a call on an input or an output says.
use Rattle.std.specs.Prelude.{◌≡◌, ◌≤◌, ◌<◌, ℕ, List, [], ◌++◌, length, take, drop, Option, Some, Result, OnOk, IsErrOf}
use Rattle.pie_files.specs.Faults.{Rose}

-- the count of faults tells exactly whether the call failed
pub record Counted {S T E : Type 0} (faults : S → ℕ) (failed : E) (old new : S) (result : Result T E) : Type 0 where
  pub later : faults old ≤ faults new
  pub steady : OnOk result (faults new ≡ faults old)
  pub cause : IsErrOf result failed → Rose (faults old) (faults new)

-- n bytes were taken off the front of what was left and put at the front of the slice; none of a slice with room only where nothing was left
pub record Takes (bytes into : List ℕ) (n : ℕ) (after : List ℕ) (rest : Option (List ℕ)) : Type 0 where
  pub filled : after ≡ take n bytes ++ drop n into
  pub left : rest ≡ Some (drop n bytes)
  pub inside : n ≤ length bytes
  pub end : n ≡ 0 → 0 < length into → bytes ≡ []

-- a call on an object that is sure leaves it sure and raises no count
abbrev pub StaysInfallible : {S : Type 0} → (S → Type 0) → (S → ℕ) → S → S → Type 0
StaysInfallible infallible faults old new = infallible old → infallible new × (faults new ≡ faults old)
