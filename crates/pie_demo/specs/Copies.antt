-- A copy of the sources of a project, and when two projects are equal.
use Rattle.std.specs.Prelude.{◌≡◌, ℕ, Bool, true, false, ◌||◌, cond, List, codes, Option, None, Some, Result, OnOk}
use Rattle.pie_base.specs.Path.{same_text, is_below}
use Rattle.pie_files.specs.Directory.{Directory, file_at}
use Rattle.pie_incremental.specs.Own.{bytes_at}

-- a path that a copy takes over: one of the project's own two files, or one below `src`
abbrev pub is_copied : List ℕ → Bool
is_copied path = is_below (codes "src") path || (same_text path (codes "pie.roots") || same_text path (codes "pie.pipeline"))

-- a directory has the files that another one has at the paths that pass a test, with their marks, and no others
abbrev pub HasPart : Directory → Directory → (List ℕ → Bool) → Type 0
HasPart d part test = (path : List ℕ) → file_at part path ≡ cond (test path) (file_at d path) None

-- a copy gains what a directory has at the paths that pass a test
abbrev pub GainsPart : {T E : Type 0} → Result T E → (List ℕ → Bool) → Directory → Directory → Directory → Type 0
GainsPart result gained d before after = (test : List ℕ → Bool) → HasPart d before test → OnOk result (HasPart d after (λ q. gained q || test q))

-- two files are the same bytes, or neither is there
abbrev pub same_file : Option (List ℕ) → Option (List ℕ) → Bool
same_file None None = true
same_file (Some bytes) None = false
same_file None (Some others) = false
same_file (Some bytes) (Some others) = same_text bytes others

-- two directories have the same file at a path, or none
abbrev pub same_at : Directory → Directory → List ℕ → Bool
same_at d e path = same_file (bytes_at d path) (bytes_at e path)

-- at each path that passes a test two directories have the same bytes, or neither has a file
abbrev pub AreSameAt : (List ℕ → Bool) → Directory → Directory → Type 0
AreSameAt test d e = (path : List ℕ) → test path ≡ true → bytes_at d path ≡ bytes_at e path

-- a path that is compared: one of the project's own two files, or one below `src`, `out` or `.pie`
abbrev pub is_compared : List ℕ → Bool
is_compared path = same_text path (codes "pie.pipeline") || (same_text path (codes "pie.roots")
    || (is_below (codes "src") path || (is_below (codes "out") path || is_below (codes ".pie") path)))
