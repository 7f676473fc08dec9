-- The directory that an accepted build by what changed leaves is that of a clean build.
use Rattle.std.specs.Prelude.{◌≡◌, ◌⊎◌, ◌||◌, ℕ, Bool, true, false, List, Some, None}
use Rattle.std.specs.List.{Contains}
use Rattle.sha2.specs.Sha256.{sha256}
use Rattle.pie_base.specs.Path.{is_out, same_text}
use Rattle.pie_files.specs.Directory.{Directory, file_at}
use Rattle.pie_record.specs.declared.task_record.TaskRecord.{TaskRecord}
use Rattle.pie_diff.specs.Hashes.{hash_in}
use Rattle.pie_diff.specs.Removals.{written_by}
use Rattle.pie_model.specs.Paths.{Path}
use Rattle.pie_model.specs.Built.{bytes_at, open_path, store_path, pending_path, IsBuilt}
use Rattle.pie_core_laws.specs.Update.{Update}
use Rattle.pie_core_laws.specs.Keeping.{Separates}
use Rattle.pie_left_laws.specs.Accepted.{OutIsMet, IsAccepted, live_now}

-- a path of one of the builder's own files
abbrev pub is_builders : List ℕ → Bool
is_builders q = same_text q open_path || same_text q store_path || same_text q pending_path

-- a file stays as it was, and has contents of the hash of these bytes
abbrev pub StaysAs : Directory → Directory → Path → List ℕ → Type 0
StaysAs d left path bytes = (hash_in d path ≡ Some (sha256 bytes)) × (file_at left path ≡ file_at d path)

-- each of the files has its bytes, or stayed with contents of their hash; under `out` each other path that a record writes has the file that it had, and
-- nothing else is there; the store has this text, no names are pending, no marker stands, and every other path has the file that it had
pub record IsPlaced (kept : List TaskRecord) (files : List (Path × List ℕ)) (text : List ℕ) (d left : Directory) : Type 0 where
  pub put : (path bytes : List ℕ) → Contains files (path, bytes) → (bytes_at left path ≡ Some bytes) ⊎ StaysAs d left path bytes
  pub same : (path : List ℕ) → is_out path ≡ true → Contains (written_by kept) path → ((bytes : List ℕ) → Contains files (path, bytes) → ⊥)
      → file_at left path ≡ file_at d path
  pub gone : (path : List ℕ) → is_out path ≡ true → (Contains (written_by kept) path → ⊥) → file_at left path ≡ None
  pub rest : (path : List ℕ) → (is_out path || is_builders path) ≡ false → file_at left path ≡ file_at d path
  pub store : bytes_at left store_path ≡ Some text
  pub no_names : bytes_at left pending_path ≡ None
  pub closed : bytes_at left open_path ≡ None

-- it is the directory that a clean build leaves with a store of this text
abbrev pub PlacedBuildsAreBuilt : Type 0
PlacedBuildsAreBuilt =
    (u : Update) (kept : List TaskRecord) (files : List (Path × List ℕ)) (text : List ℕ) (left : Directory) → Separates u → OutIsMet u
    → IsAccepted u kept files → IsPlaced kept files text u.directory left → IsBuilt text u.directory left (live_now u)
