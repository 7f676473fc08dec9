-- The names of the built-in functions. `path` is a keyword, and so no name.
use Rattle.std.specs.Prelude.{ℕ, cond, ◌==◌, List, [], ◌∷◌, Option, Some, None, codes}
use lib.Pointwise.{pointwise}
use Rattle.pie_value.specs.declared.builtin.Builtin.{Builtin}
use Rattle.pie_value.specs.declared.builtin.Builtin.TheVariants as builtins

-- the functions of paths and texts
abbrev pub text_names : List (List ℕ × Builtin)
text_names =
    (codes "join", builtins.Join) ∷
    (codes "name", builtins.Name) ∷
    (codes "parent", builtins.Parent) ∷
    (codes "to_text", builtins.ToText) ∷
    (codes "parse_int", builtins.ParseInt) ∷
    (codes "trim", builtins.Trim) ∷
    (codes "replace", builtins.Replace) ∷
    (codes "split", builtins.Split) ∷
    (codes "lines", builtins.Lines) ∷
    (codes "join_text", builtins.JoinText) ∷
    (codes "slice", builtins.Slice) ∷
    (codes "sha256", builtins.Sha256) ∷
    []

-- the functions that look into a value
abbrev pub search_names : List (List ℕ × Builtin)
search_names =
    (codes "len", builtins.Len) ∷
    (codes "find", builtins.Find) ∷
    (codes "contains", builtins.Contains) ∷
    (codes "starts", builtins.Starts) ∷
    (codes "ends", builtins.Ends) ∷
    (codes "is_null", builtins.IsNull) ∷
    []

-- the functions of lists, of what can be null, and of bytes
abbrev pub list_names : List (List ℕ × Builtin)
list_names =
    (codes "at", builtins.At) ∷
    (codes "range", builtins.Range) ∷
    (codes "reverse", builtins.Reverse) ∷
    (codes "sort", builtins.Sort) ∷
    (codes "flatten", builtins.Flatten) ∷
    (codes "some", builtins.Some) ∷
    (codes "get", builtins.Get) ∷
    (codes "to_bytes", builtins.ToBytes) ∷
    (codes "from_bytes", builtins.FromBytes) ∷
    (codes "slice_bytes", builtins.SliceBytes) ∷
    []

-- what a table has at a name
abbrev pub look_up : List ℕ → List (List ℕ × Builtin) → Option Builtin
look_up s [] = None
look_up s (row ∷ rows) = cond (pointwise ◌==◌ s row.0) (Some row.1) (look_up s rows)

-- the first of two that is there
abbrev pub or_else : Option Builtin → Option Builtin → Option Builtin
or_else (Some which) other = Some which
or_else None other = other

-- the built-in function of a name
abbrev pub builtin_of : List ℕ → Option Builtin
builtin_of s = or_else (look_up s text_names) (or_else (look_up s search_names) (look_up s list_names))
