-- What is scanned of a directory, and what a scan asks.
use Rattle.std.specs.Prelude.{◌≡◌, ℕ, ◌&&◌, ◌||◌, Bool, cond, List, [], ◌∷◌, ◌++◌, map, codes, Option, Some, None, IfSome}
use Rattle.std.specs.Option.{option_map}
use Rattle.std.specs.List.{list_any, filter, flat_map}
use Rattle.sha2.specs.Sha256.{sha256}
use Rattle.pie_base.specs.Path.{same_text, is_below, is_out, is_source}
use Rattle.pie_files.specs.declared.files.Call.{Call}
use Rattle.pie_files.specs.declared.files.Call.TheVariants.{AllUnder, Read}
use Rattle.pie_files.specs.Directory.{Directory, file_at, files_under, in_path_order}
use Rattle.pie_scan.specs.declared.entry.Entry.{Entry}
use Rattle.pie_scan.specs.Entries.{AreInOrder, entry_at}

-- a path lies at or below one of these
abbrev pub is_within : List (List ℕ) → List ℕ → Bool
is_within tops path = list_any (λ top. same_text top path || is_below top path) tops

-- a path is scanned: it lies under `out/`, or it is one of a source at or below a top
abbrev pub is_scanned : List (List ℕ) → List ℕ → Bool
is_scanned tops path = is_out path || (is_source path && is_within tops path)

-- the entry of a file: its mark, which is 0 under `out/`, and the SHA-256 of its bytes
abbrev pub entry_of : List ℕ → List ℕ × ℕ → Entry
entry_of path file = record { path = path; mark = cond (is_out path) 0 file.1; hash = sha256 file.0 }

-- the entry of what a directory has at a path
abbrev pub entry_in : Directory → List ℕ → Option Entry
entry_in d path = option_map (entry_of path) (file_at d path)

-- the entries of the scanned files, in path order
pub record AreScanned (d : Directory) (tops : List (List ℕ)) (entries : List Entry) : Type 0 where
  pub ordered : AreInOrder entries
  pub each : (path : List ℕ) → entry_at entries path ≡ cond (is_scanned tops path) (entry_in d path) None

-- the directory whose files are all scanned
abbrev pub out_dir : List ℕ
out_dir = codes "out"

-- a top and the files below it, as far as these are paths of sources
abbrev pub found_below : Directory → List ℕ → List (List ℕ)
found_below d top = filter is_source (top ∷ files_under d top)

-- what is found at and below the tops, and under `out/`
abbrev pub found_paths : Directory → List (List ℕ) → List (List ℕ)
found_paths d tops = flat_map (found_below d) tops ++ files_under d out_dir

-- the paths that are looked at: each once, in path order
abbrev pub candidates : Directory → List (List ℕ) → List (List ℕ)
candidates d tops = in_path_order (found_paths d tops)

-- the listings that are asked for: of each top in turn, and of `out`
abbrev pub listings : List (List ℕ) → List Call
listings tops = map (λ top. AllUnder top) tops ++ AllUnder out_dir ∷ []

-- all that a scan asks: the listings, and then each path once
abbrev pub scan_calls : Directory → List (List ℕ) → List Call
scan_calls d tops = listings tops ++ map (λ path. Read path) (candidates d tops)

-- where the list of calls is observable, it has gained these
abbrev pub AsksAll : List Call → Option (List Call) → Option (List Call) → Type 0
AsksAll calls before after = IfSome before (λ asked. after ≡ Some (asked ++ calls))
