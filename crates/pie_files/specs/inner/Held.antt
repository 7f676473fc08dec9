-- The directory that a map in memory stands for.
use Rattle.std.specs.Prelude.{◌≡◌, ◌||◌, ℕ, Bool, List, [], ◌∷◌, map, Option}
use Rattle.std.specs.Option.{option_to_list, option_map_or}
use Rattle.std.specs.List.{list_any}
use Rattle.std.specs.Ordering.{nat_cmp, eq_by_cmp}
use Rattle.std.specs.Cmp.Lexicographic.{slice_cmp}
use Rattle.std.specs.Coded.{Coded, coded_list, coded_ℕ, coded×}
use Rattle.std.specs.FinMap as fin
use Rattle.pie_files.specs.declared.files.Found.{Found}
use Rattle.pie_files.specs.Directory.{Directory}

-- what contracts see of a file: its bytes and its mark
abbrev pub content_of : Found → List ℕ × ℕ
content_of found = (found.bytes.items, found.mark)

-- an entry with its file as contracts see it
abbrev pub entry_of : List ℕ × Found → List ℕ × (List ℕ × ℕ)
entry_of e = (e.0, content_of e.1)

-- the directory of these entries
abbrev pub directory_of : List (List ℕ × Found) → Directory
directory_of entries = fin.from_entries (map entry_of entries)

-- how the logic stores a directory
abbrev pub directory_code : Coded Directory
directory_code = fin.code (coded_list coded_ℕ) (coded× (coded_list coded_ℕ) coded_ℕ)

-- a directory whose file at a path is that of another one, or none where the other has none
abbrev pub with_same : Directory → Directory → List ℕ → Directory
with_same from d path = option_map_or (λ file. fin.insert d path file) (fin.get from path) (fin.remove d path)

-- the same of several paths, one after another
abbrev pub with_all : Directory → Directory → List (List ℕ) → Directory
with_all from d [] = d
with_all from d (path ∷ paths) = with_all from (with_same from d path) paths

-- a path is among these, as far as the order of paths tells
abbrev pub is_among : List ℕ → List (List ℕ) → Bool
is_among path paths = list_any (eq_by_cmp (slice_cmp nat_cmp) path) paths

-- the new paths are the old ones and this one, if there is one
abbrev pub Gains : List (List ℕ) → Option (List ℕ) → List (List ℕ) → Type 0
Gains old gained new = (path : List ℕ) → is_among path new ≡ (is_among path (option_to_list gained) || is_among path old)
