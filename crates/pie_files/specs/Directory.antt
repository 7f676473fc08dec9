-- A directory as a value: a map from the paths of its files to their bytes and marks.
use Rattle.std.specs.Prelude.{ℕ, List, map, Option}
use Rattle.std.specs.List.{filter, filter_map}
use Rattle.std.specs.Ordering.{nat_cmp}
use Rattle.std.specs.Cmp.Lexicographic.{slice_cmp}
use Rattle.std.specs.FinMap as fin
use Rattle.pie_base.specs.Path.{is_below, entry_on_way}

-- a directory: at each path of a file, its bytes and its mark
abbrev pub Directory : Type 0
Directory = fin.FinMap (slice_cmp nat_cmp) (List ℕ × ℕ)

-- the file at a path, if there is one
abbrev pub file_at : Directory → List ℕ → Option (List ℕ × ℕ)
file_at d path = fin.get d path

-- the directory after a file is set
abbrev pub with_file : Directory → List ℕ → List ℕ → ℕ → Directory
with_file d path bytes mark = fin.insert d path (bytes, mark)

-- the directory after a file is gone
abbrev pub without_file : Directory → List ℕ → Directory
without_file d path = fin.remove d path

-- the paths of all files, in path order
abbrev pub paths_of : Directory → List (List ℕ)
paths_of d = fin.keys d

-- the files below a directory, in path order
abbrev pub files_under : Directory → List ℕ → List (List ℕ)
files_under d dir = filter (is_below dir) (paths_of d)

-- a path as a key without a value
abbrev pub unmarked : List ℕ → List ℕ × Unit {0}
unmarked path = (path, tt)

-- the distinct paths of a list, in path order
abbrev pub in_path_order : List (List ℕ) → List (List ℕ)
in_path_order paths = fin.keys (fin.from_entries {R = slice_cmp nat_cmp} (map unmarked paths))

-- the entries of a directory, in path order: the paths `dir/s` at which or below which a file is
abbrev pub entries_of : Directory → List ℕ → List (List ℕ)
entries_of d dir = in_path_order (filter_map (entry_on_way dir) (paths_of d))
