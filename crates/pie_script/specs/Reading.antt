-- What reading an input answers.
use Rattle.std.specs.Prelude.{◌≡◌, ℕ, ◌≤◌, ◌<◌, false, List, [], ◌∷◌, map, None, Some, Result, Ok, Err}
use Rattle.pie_script.specs.declared.fault.InputFault.{InputFault}
use Rattle.pie_script.specs.declared.fault.InputFault.TheVariants.{NotText, BadPath, BadWord, TooLong, OutOfMemory}
use Rattle.pie_script.specs.Line.{Line, texts, change_line, script_line}
use Rattle.pie_script.specs.Steps.{first_wrong, placed}

-- the most bytes of an input
abbrev pub most : ℕ
most = 16777216

-- what reading lines answers: too many bytes, the first wrong line, or what the lines give
abbrev pub Reads : {A B : Type 0} → (A → B) → (List Line → B) → Result A InputFault → List Line → ℕ → Type 0
Reads value meaning (Ok found) lines size = (size ≤ most) × (first_wrong 1 lines ≡ None) × (value found ≡ meaning lines)
Reads value meaning (Err OutOfMemory) lines size = Unit {0}
Reads value meaning (Err TooLong) lines size = most < size
Reads value meaning (Err (NotText line)) lines size = (size ≤ most) × (first_wrong 1 lines ≡ Some (NotText line))
Reads value meaning (Err (BadPath line)) lines size = (size ≤ most) × (first_wrong 1 lines ≡ Some (BadPath line))
Reads value meaning (Err (BadWord line)) lines size = (size ≤ most) × (first_wrong 1 lines ≡ Some (BadWord line))

-- the lines of a change list
abbrev pub change_lines : List ℕ → List Line
change_lines bytes = map change_line (texts bytes)

-- the lines of a script
abbrev pub script_lines : List ℕ → List Line
script_lines bytes = placed false (map script_line (texts bytes))

-- what reading one line answers: what is wrong with it, or what it leaves
abbrev pub ReadsOne : {A : Type 0} → Result A InputFault → Line → ℕ → Type 0 → Type 0
ReadsOne (Ok done) line n leaves = (first_wrong n (line ∷ []) ≡ None) × leaves
ReadsOne (Err OutOfMemory) line n leaves = Unit {0}
ReadsOne (Err TooLong) line n leaves = ⊥
ReadsOne (Err (NotText at)) line n leaves = first_wrong n (line ∷ []) ≡ Some (NotText at)
ReadsOne (Err (BadPath at)) line n leaves = first_wrong n (line ∷ []) ≡ Some (BadPath at)
ReadsOne (Err (BadWord at)) line n leaves = first_wrong n (line ∷ []) ≡ Some (BadWord at)
