-- What shared contents mean.
use Rattle.std.specs.Prelude.{List, [], Option, Some, None}

-- the list behind a pointer, or the empty list without one
abbrev pub behind : {R A : Type 0} → (R → List A) → Option R → List A
behind list None = []
behind list (Some pointer) = list pointer
