-- What is read of an input.
use Rattle.std.specs.Prelude.{◌≡◌, ℕ, ◌<◌, ◌≤◌, Bool, true, false, List, [], ◌++◌, length, Option, Some}
use Rattle.pie_script.specs.Reading.{most}
use Rattle.pie_input.specs.declared.input.Input.{Input}
use Rattle.pie_input.specs.declared.input.Input.TheVariants.{Whole, TooLong}

-- all bytes that were left were read, or there are too many
abbrev pub HasRead : List ℕ → Option (List ℕ) → Input → Type 0
HasRead bytes after (Whole found) = (found.items ≡ bytes) × (length bytes ≤ most) × (after ≡ Some [])
HasRead bytes after TooLong = most < length bytes

-- a piece of what was left was taken, and the rest is left; none only where nothing was left
abbrev pub Gathers : List ℕ → List ℕ → List ℕ → Option (List ℕ) → Bool → Type 0
Gathers left old new after true = (rest : List ℕ) × (after ≡ Some rest) × (new ++ rest ≡ old ++ left)
Gathers left old new after false = (left ≡ []) × (new ≡ old) × (after ≡ Some [])
