-- Lists of entries, each with its path.
use Rattle.std.specs.Prelude.{ℕ, ◌==◌, ◌&&◌, Bool, true, false, cond, List, [], ◌∷◌, map, Option, Some, None}
use Rattle.std.specs.List.Sorted.{IsStrictlySortedBy}
use Rattle.std.specs.declared.cmp.Ordering.{Ordering}
use Rattle.std.specs.Ordering.{nat_cmp}
use Rattle.std.specs.Cmp.Lexicographic.{slice_cmp}
use Rattle.pie_base.specs.Path.{same_text}
use Rattle.pie_scan.specs.declared.entry.Entry.{Entry}

-- the order of paths: by bytes
abbrev pub path_cmp : List ℕ → List ℕ → Ordering
path_cmp = slice_cmp nat_cmp

-- the paths of entries
abbrev pub paths_in : List Entry → List (List ℕ)
paths_in entries = map (λ (e : Entry). e.path) entries

-- entries in path order, each path once
abbrev pub AreInOrder : List Entry → Type 0
AreInOrder entries = IsStrictlySortedBy path_cmp (paths_in entries)

-- the entry of a path, if there is one
abbrev pub entry_at : List Entry → List ℕ → Option Entry
entry_at [] path = None
entry_at (e ∷ entries) path = cond (same_text e.path path) (Some e) (entry_at entries path)

-- two entries of one path tell of the same file: they have one mark and one hash
abbrev pub same_entry : Entry → Entry → Bool
same_entry a b = (a.mark == b.mark) && same_text a.hash b.hash

-- neither is there, or both are and tell of the same file
abbrev pub alike : Option Entry → Option Entry → Bool
alike None None = true
alike None (Some b) = false
alike (Some a) None = false
alike (Some a) (Some b) = same_entry a b
