-- Which files an accepted build by what changed writes and removes.
use Rattle.std.specs.Prelude.{◌≡◌, ◌↔◌, ℕ, true, List, Some, None, IsSome}
use Rattle.std.specs.List.{Contains, filter}
use Rattle.std.proofs.Common.{Vec}
use Rattle.std.specs.declared.alloc.Global.{Global}
use Rattle.pie_base.specs.Path.{is_out}
use Rattle.pie_record.specs.declared.task_record.TaskRecord.{TaskRecord}
use Rattle.pie_diff.specs.Hashes.{files_paths, is_new}
use Rattle.pie_diff.specs.Removals.{AreRemovals}
use Rattle.pie_results.specs.inner.Files.{contents_in}
use Rattle.pie_model.specs.Paths.{Path}
use Rattle.pie_model.specs.Built.{bytes_at, provided_at}
use Rattle.pie_core_laws.specs.Update.{Update}
use Rattle.pie_core_laws.specs.Keeping.{Separates}
use Rattle.pie_left_laws.specs.Accepted.{OutIsMet, IsAccepted, live_now}
use Rattle.pie_left_laws.specs.Held.{HoldsRightly}

-- a path where a clean build provides bytes that the directory hasn't there
pub record IsOther (u : Update) (path : List ℕ) : Type 0 where
  pub bytes : List ℕ
  pub provided : provided_at (live_now u) path ≡ Some bytes
  pub other : bytes_at u.directory path ≡ Some bytes → ⊥

-- a path under `out` where the directory has a file and a clean build provides none
pub record IsStray (u : Update) (path : List ℕ) : Type 0 where
  pub out : is_out path ≡ true
  pub there : IsSome (bytes_at u.directory path)
  pub absent : provided_at (live_now u) path ≡ None

-- the files that are new by what is held are those where the directory has other bytes, or none
abbrev pub NewFilesAreOther : Type 0
NewFilesAreOther =
    (u : Update) (kept : List TaskRecord) (files : List (List ℕ × Vec ℕ Global)) (held : List (List ℕ × List ℕ)) (path : List ℕ) → Separates u → OutIsMet u
    → IsAccepted u kept (contents_in files) → HoldsRightly held u.directory → Contains (files_paths (filter (is_new held) files)) path ↔ IsOther u path

-- the files that go are those that the directory has under `out` and a clean build hasn't
abbrev pub RemovalsAreStray : Type 0
RemovalsAreStray =
    (u : Update) (kept : List TaskRecord) (files : List (Path × List ℕ)) (held : List (List ℕ × List ℕ)) (found : List (List ℕ)) (path : List ℕ)
    → IsAccepted u kept files → HoldsRightly held u.directory → AreRemovals held kept found → (Contains found path → is_out path ≡ true)
    → Contains found path ↔ IsStray u path
