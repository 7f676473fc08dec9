-- The names of a change list, and why it is refused.
use Rattle.std.specs.Prelude.{◌≡◌, ◌⊎◌, ℕ, ◌<◌, ◌≤◌, List, length, None, Some}
use Rattle.pie_script.specs.Reading.{change_lines, most}
use Rattle.pie_script.specs.Steps.{first_wrong, names}
use Rattle.pie_script.specs.declared.fault.InputFault.{InputFault}
use Rattle.pie_script.specs.declared.fault.InputFault.TheVariants as faults

-- a change list with these bytes is refused with this: it is too long, else its first bad line
abbrev pub IsBad : List ℕ → InputFault → Type 0
IsBad bytes fault = ((most < length bytes) × (fault ≡ faults.TooLong)) ⊎ ((length bytes ≤ most) × (first_wrong 1 (change_lines bytes) ≡ Some fault))

-- a change list with these bytes has these names: it isn't too long, and no line is bad
abbrev pub AreNames : List ℕ → List (List ℕ) → Type 0
AreNames bytes found = (length bytes ≤ most) × (first_wrong 1 (change_lines bytes) ≡ None) × (found ≡ names (change_lines bytes))
