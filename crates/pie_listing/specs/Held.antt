-- What a directory holds for the listing of changes.
use Rattle.std.specs.Prelude.{ℕ, ◌==◌, Bool, false, List, codes, Option, Some, None}
use Rattle.std.specs.Option.{option_map}
use Rattle.sha2.specs.Sha256.{sha256}
use lib.Pointwise.{pointwise}
use Rattle.pie_base.specs.Path.{same_text}
use Rattle.pie_files.specs.Directory.{Directory, file_at}

-- the manifest, and the store
abbrev pub manifest_path : List ℕ
manifest_path = codes ".pie/manifest"

abbrev pub store_path : List ℕ
store_path = codes ".pie/store"

-- the bytes of the file at a path, if there is one
abbrev pub bytes_at : Directory → List ℕ → Option (List ℕ)
bytes_at d path = option_map (λ (f : List ℕ × ℕ). f.0) (file_at d path)

-- their SHA-256
abbrev pub hash_in : Directory → List ℕ → Option (List ℕ)
hash_in d path = option_map (λ (f : List ℕ × ℕ). sha256 f.0) (file_at d path)

-- a hash is the one that is there
abbrev pub is_hash : Option (List ℕ) → List ℕ → Bool
is_hash None hash = false
is_hash (Some there) hash = pointwise ◌==◌ there hash

-- two lists have the same paths
abbrev pub same_paths : List (List ℕ) → List (List ℕ) → Bool
same_paths = pointwise same_text
