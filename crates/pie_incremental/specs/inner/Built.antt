-- What an accepted build that didn't start afresh leaves of a directory.
use Rattle.std.specs.Prelude.{◌≡◌, ◌⊎◌, ◌||◌, ℕ, true, false, List, Option, Some, None}
use Rattle.std.specs.List.{Contains}
use Rattle.std.specs.List.Sorted.{IsStrictlySortedBy}
use Rattle.std.specs.declared.alloc.Global.{Global}
use Rattle.std.proofs.Common.{Vec}
use Rattle.sha2.specs.Sha256.{sha256}
use Rattle.pie_base.specs.Path.{is_out}
use Rattle.pie_files.specs.Directory.{Directory, file_at, without_file}
use Rattle.pie_commit.specs.Outcomes.{HasFile}
use Rattle.pie_reach.specs.Plan.{path_cmp}
use Rattle.pie_record.specs.declared.task_record.TaskRecord.{TaskRecord}
use Rattle.pie_diff.specs.Hashes.{files_paths, hash_in, held_at}
use Rattle.pie_diff.specs.Removals.{written_by}
use Rattle.pie_incremental.specs.declared.base.OwnFiles.{OwnFiles}
use Rattle.pie_incremental.specs.Crashes.{IsBegun}
use Rattle.pie_incremental.specs.Kept.{is_builders}
use Rattle.pie_incremental.specs.Own.{bytes_at, open_path, store_path, pending_path, IsClosed}
use Rattle.pie_incremental.specs.inner.Changes.{bytes_of}

-- the builder's own files, and what is held under `out/`, are those of a directory
pub record IsKnown (own : OwnFiles) (held : List (List ℕ × List ℕ)) (d : Directory) : Type 0 where
  pub closed : IsClosed d
  pub store : bytes_at d store_path ≡ Some own.store.items
  pub pending : bytes_at d pending_path ≡ bytes_of own.pending
  pub files : (q : List ℕ) → is_out q ≡ true → held_at held q ≡ hash_in d q

-- files of tasks with these records, in path order, each path once
pub record AreFilesOf (rows : List TaskRecord) (contents : List (List ℕ × Vec ℕ Global)) : Type 0 where
  pub ordered : IsStrictlySortedBy path_cmp (files_paths contents)
  pub written : (f : List ℕ × Vec ℕ Global) → Contains contents f → Contains (written_by rows) f.0
  pub out : (f : List ℕ × Vec ℕ Global) → Contains contents f → is_out f.0 ≡ true

-- under `out/` each of the files has a content with its hash, each other path that a record writes has what it had, and nothing else is there;
-- the store has this text, no names are pending, no marker stands, and every other path has the file that it had
pub record IsPut (rows : List TaskRecord) (contents : List (List ℕ × Vec ℕ Global)) (text : List ℕ) (d : Directory) (after : Option Directory) : Type 0 where
  pub left : Directory
  pub told : after ≡ Some left
  pub new : (f : List ℕ × Vec ℕ Global) → Contains contents f → hash_in left f.0 ≡ Some (sha256 f.1.items)
  pub kept : (q : List ℕ) → is_out q ≡ true → ¬ (Contains (files_paths contents) q) → Contains (written_by rows) q → file_at left q ≡ file_at d q
  pub gone : (q : List ℕ) → is_out q ≡ true → ¬ (Contains (written_by rows) q) → file_at left q ≡ None
  pub rest : (q : List ℕ) → (is_out q || is_builders q) ≡ false → file_at left q ≡ file_at d q
  pub store : bytes_at left store_path ≡ Some text
  pub no_names : bytes_at left pending_path ≡ None
  pub closed : IsClosed left

-- what a crash leaves of the commit of an accepted build: it has begun, it changed nothing yet, or it is done, with or without the marker
abbrev pub IsOfBuild : List TaskRecord → List (List ℕ × Vec ℕ Global) → List ℕ → Directory → Directory → Type 0
IsOfBuild rows contents text d c = IsBegun d c ⊎ ((c ≡ d) ⊎ IsPut rows contents text d (Some (without_file c open_path)))

-- the marker stands in every image unless nothing changed, or the build is done in every image
abbrev pub IsMarked : List TaskRecord → List (List ℕ × Vec ℕ Global) → List ℕ → Directory → (Directory → Type 0) → Type 0
IsMarked rows contents text d images = ((c : Directory) → images c → HasFile c open_path ⊎ (c ≡ d))
    ⊎ ((c : Directory) → images c → IsPut rows contents text d (Some (without_file c open_path)))
