-- Where a task's cache file is.
use Rattle.std.specs.Prelude.{◌≡◌, ℕ, Bool, List, ◌++◌, codes, length}
use Rattle.sha2.specs.Sha256.{sha256}
use Rattle.hex.specs.Hex.{encode_lower}
use Rattle.pie_base.specs.Path.{is_below}
use Rattle.pie_value.specs.declared.task.Task.{Task}
use Rattle.pie_value.specs.Canonical.{enc_task}

-- the path of the cache file with this name: its lower-case hexadecimal digits in `.pie/cache`
abbrev pub path_of_hash : List ℕ → List ℕ
path_of_hash hash = codes ".pie/cache/" ++ encode_lower hash

-- the path of a task's cache file: its name is the SHA-256 of the digest of its function and its canonical bytes
abbrev pub cache_path : Task → List ℕ → List ℕ
cache_path task digest = path_of_hash (sha256 (digest ++ enc_task task))

-- a path below `.pie/cache`
abbrev pub is_in_cache : List ℕ → Bool
is_in_cache path = is_below (codes ".pie/cache") path

-- the gate: it stands while files of the cache are written
abbrev pub gate : List ℕ
gate = codes ".pie/cache/open"

-- the path of a cache file: that of some name of 32 bytes
abbrev pub IsCachePath : List ℕ → Type 0
IsCachePath path = (hash : List ℕ) × (length hash ≡ 32) × (path ≡ path_of_hash hash)

-- these paths are those of the gate and of the directory of the cache
pub record AreItsPaths (at dir : List ℕ) : Type 0 where
  pub is_gate : at ≡ gate
  pub is_dir : dir ≡ codes ".pie/cache"
