-- What is held at paths, by its SHA-256.
use Rattle.std.specs.Prelude.{ℕ, ◌==◌, Bool, false, not, List, map, Option, Some, None}
use Rattle.std.specs.Option.{option_map}
use Rattle.std.specs.Ordering.{nat_cmp}
use Rattle.std.specs.Cmp.Lexicographic.{slice_cmp}
use Rattle.std.specs.BTreeMap.{is_at}
use Rattle.std.specs.Map.{lookup}
use Rattle.std.proofs.Common.{Vec}
use Rattle.sha2.specs.Sha256.{sha256}
use lib.Pointwise.{pointwise}
use Rattle.pie_files.specs.Directory.{Directory, file_at}

-- the hash that is held at a path
abbrev pub held_at : List (List ℕ × List ℕ) → List ℕ → Option (List ℕ)
held_at held path = lookup (is_at (slice_cmp nat_cmp path)) held

-- the hash of what a directory has at a path
abbrev pub hash_in : Directory → List ℕ → Option (List ℕ)
hash_in d path = option_map (λ f. sha256 f.0) (file_at d path)

-- a hash is the one that is there
abbrev pub is_hash : Option (List ℕ) → List ℕ → Bool
is_hash None hash = false
is_hash (Some there) hash = pointwise ◌==◌ there hash

-- a file whose content isn't held at its path
abbrev pub is_new : {Z : Type 0} → List (List ℕ × List ℕ) → List ℕ × Vec ℕ Z → Bool
is_new held f = not (is_hash (held_at held f.0) (sha256 f.1.items))

-- the paths of files
abbrev pub files_paths : {Z : Type 0} → List (List ℕ × Vec ℕ Z) → List (List ℕ)
files_paths {Z} files = map (λ (f : List ℕ × Vec ℕ Z). f.0) files
