-- The steps of a script, and why it is refused.
use Rattle.std.specs.Prelude.{◌≡◌, ◌⊎◌, ℕ, ◌<◌, ◌≤◌, List, length, None, Some}
use Rattle.pie_script.specs.Reading.{script_lines, most}
use Rattle.pie_script.specs.Steps.{first_wrong, steps, Plain}
use Rattle.pie_script.specs.declared.fault.InputFault.{InputFault}
use Rattle.pie_script.specs.declared.fault.InputFault.TheVariants as faults

-- a script with these bytes is refused with this: it is too long, else its first bad line
abbrev pub IsBadScript : List ℕ → InputFault → Type 0
IsBadScript bytes fault =
    ((most < length bytes) × (fault ≡ faults.TooLong)) ⊎ ((length bytes ≤ most) × (first_wrong 1 (script_lines bytes) ≡ Some fault))

-- a script with these bytes has these steps: it isn't too long, and no line is bad
abbrev pub AreSteps : List ℕ → List Plain → Type 0
AreSteps bytes found = (length bytes ≤ most) × (first_wrong 1 (script_lines bytes) ≡ None) × (found ≡ steps (script_lines bytes))
