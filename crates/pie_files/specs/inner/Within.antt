-- What is found at a path where at most so many bytes are wanted.
use Rattle.std.specs.Prelude.{◌≡◌, ◌<◌, ◌≤◌, ℕ, List, length, Option, None, Some}
use Rattle.pie_files.specs.declared.files.Within.{Within}
use Rattle.pie_files.specs.declared.files.Within.TheVariants.{Absent, Long, Whole}

-- no file, a file of more bytes than are wanted, or a file of no more
abbrev pub IsWithin : ℕ → Within → Option (List ℕ × ℕ) → Type 0
IsWithin most Absent file = file ≡ None
IsWithin most Long file = (f : List ℕ × ℕ) × (file ≡ Some f) × (most < length f.0)
IsWithin most (Whole found) file = (file ≡ Some (found.bytes.items, found.mark)) × (length found.bytes.items ≤ most)
