-- The lines of a text.
use Rattle.std.specs.Prelude.{ℕ, ◌==◌, Bool, List, [], Option, Some, None}
use denote.Ref.{Bor}
use Rattle.std.specs.List.{slice_split}

-- lines are parted by byte 10
abbrev pub is_newline : ℕ → Bool
is_newline b = b == 10

-- the texts of all lines
abbrev pub texts : List ℕ → List (List ℕ)
texts text = slice_split is_newline text

-- the texts of the lines that are left
abbrev pub texts_left : Option (Bor (List ℕ)) → List (List ℕ)
texts_left None = []
texts_left (Some rest) = texts rest.now
