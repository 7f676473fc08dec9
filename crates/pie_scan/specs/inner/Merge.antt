-- One pass over two lists of entries: what each entry of the first meets in the second.
use Rattle.std.specs.Prelude.{ℕ, Bool, cond, List, [], ◌∷◌, ◌++◌}
use Rattle.std.specs.Ordering.{is_lt}
use Rattle.pie_base.specs.Path.{same_text}
use Rattle.pie_scan.specs.declared.entry.Entry.{Entry}
use Rattle.pie_scan.specs.Entries.{path_cmp, paths_in, same_entry}

-- one entry stands before another
abbrev pub comes_first : Entry → Entry → Bool
comes_first a b = is_lt (path_cmp a.path b.path)

-- the paths of those in front that stand before an entry
abbrev pub ahead : Entry → List Entry → List (List ℕ)
ahead x [] = []
ahead x (y ∷ ys) = cond (comes_first y x) (y.path ∷ ahead x ys) []

-- the others
abbrev pub others : Entry → List Entry → List Entry
others x [] = []
others x (y ∷ ys) = cond (comes_first y x) (others x ys) (y ∷ ys)

-- the path of an entry, where the first of these isn't alike
abbrev pub met : Entry → List Entry → List (List ℕ)
met x [] = x.path ∷ []
met x (y ∷ ys) = cond (same_text x.path y.path) (cond (same_entry x y) [] (x.path ∷ [])) (x.path ∷ [])

-- those after the path of an entry
abbrev pub past : Entry → List Entry → List Entry
past x [] = []
past x (y ∷ ys) = cond (same_text x.path y.path) ys (y ∷ ys)

-- the paths at which the two lists differ
abbrev pub merged : List Entry → List Entry → List (List ℕ)
merged [] ys = paths_in ys
merged (x ∷ xs) ys = ahead x ys ++ (met x (others x ys) ++ merged xs (past x (others x ys)))
