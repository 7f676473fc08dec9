-- When the paths at which two scans differ are all that a build has to be told.
use Rattle.std.specs.Prelude.{◌≡◌, ℕ, true, false, List, Some}
use Rattle.std.specs.Option.{option_map}
use Rattle.std.specs.List.{list_any}
use Rattle.sha2.specs.Sha256.{sha256}
use Rattle.pie_base.specs.Path.{same_text, is_out, is_source}
use Rattle.pie_files.specs.Directory.{Directory, file_at}
use Rattle.pie_scan.specs.Scanned.{is_within}

-- no path has two different contents with one SHA-256, one before and one now
abbrev pub IsSeparate : Directory → Directory → Type 0
IsSeparate before now =
    (path : List ℕ) (old new : List ℕ × ℕ) → file_at before path ≡ Some old → file_at now path ≡ Some new → sha256 old.0 ≡ sha256 new.0 → old.0 ≡ new.0

-- each source that differs lies at or below a top
abbrev pub DiffersBelow : List (List ℕ) → Directory → Directory → Type 0
DiffersBelow tops before now = (path : List ℕ) → is_source path ≡ true → is_within tops path ≡ false → file_at before path ≡ file_at now path

-- these paths name each source whose bytes, mark or presence differ, and each path under `out/` whose bytes or presence do
pub record Covers (before now : Directory) (found : List (List ℕ)) : Type 0 where
  pub sources : (path : List ℕ) → is_source path ≡ true → list_any (same_text path) found ≡ false → file_at before path ≡ file_at now path
  pub outputs : (path : List ℕ) → is_out path ≡ true → list_any (same_text path) found ≡ false
      → option_map (λ (f : List ℕ × ℕ). f.0) (file_at before path) ≡ option_map (λ (f : List ℕ × ℕ). f.0) (file_at now path)
