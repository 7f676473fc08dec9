-- What an accepted build without a list leaves, where what it made is that of a clean build.
use Rattle.std.specs.Prelude.{◌≡◌, ℕ, List, Option, None, Some, IfSome, is_some}
use Rattle.std.specs.declared.alloc.Global.{Global}
use Rattle.std.proofs.Common.{Vec}
use Rattle.pie_checks.specs.declared.built.Built.{Built}
use Rattle.pie_core_laws.specs.Keeping.{Separates}
use Rattle.pie_core_laws.specs.Update.{Update}
use Rattle.pie_files.specs.Directory.{Directory}
use Rattle.pie_incremental.specs.declared.base.OwnFiles.{OwnFiles}
use Rattle.pie_incremental.specs.Own.{bytes_at, pending_path}
use Rattle.pie_incremental.specs.Starts.{HasStore}
use Rattle.pie_incremental.specs.inner.Cleaned.{LeavesCleanOf}
use Rattle.pie_left_laws.specs.Accepted.{OutIsMet, IsAccepted}
use Rattle.pie_left_laws.specs.Held.{HoldsRightly}
use Rattle.pie_record.specs.declared.task_record.TaskRecord.{TaskRecord}
use Rattle.pie_report.specs.declared.report.Report.{Report}
use Rattle.pie_results.specs.inner.Files.{contents_in}
use Rattle.pie_value.specs.declared.task.Task.{Task}
use Rattle.pie_value.specs.declared.value.Value.{Value}
use Rattle.pie_value.specs.declared.verdict.Verdict.{Verdict}
use Rattle.pie_value.specs.declared.verdict.Verdict.TheVariants.{Accepted, Refused}
use Rattle.pie_topdown_build.specs.inner.Anew.{HoldsBeside, IsKnownBeside, LeavesAnewOf}
use Rattle.pie_topdown_build.specs.inner.Filed.{ProvidesAll}

-- an update of this directory whose hashes separate what it meets, in which a build accepts and makes these records and files
pub record IsExactBuild (u : Update) (rows : List TaskRecord) (contents : List (List ℕ × Vec ℕ Global)) (d : Directory) : Type 0 where
  pub directory : u.directory ≡ d
  pub separates : Separates u
  pub met : OutIsMet u
  pub made : IsAccepted u rows (contents_in contents)

-- there was no store to build from, or it is that of the directory, and no marker stands
abbrev pub IsStoreIfAny : Option (Vec ℕ Global) → Directory → Type 0
IsStoreIfAny None d = Unit {0}
IsStoreIfAny (Some text) d = HasStore d text.items

-- the directory after is that of the clean build, for each such update: where there was no store to build from, whatever was there, if all that is provided has
-- its files, and else where no marker stands and the store is that of the directory
abbrev pub LeavesWhere : Option (Vec ℕ Global) → List (List ℕ × List ℕ) → List Task → List TaskRecord → List (List ℕ × Vec ℕ Global) → List (Task × Value)
    → Directory → Report → Option Directory → Type 0
LeavesWhere None funcs roots rows contents outputs d r after =
    (u : Update) → IsExactBuild u rows contents d → ProvidesAll u contents → LeavesAnewOf u funcs roots rows outputs d r after
LeavesWhere (Some text) funcs roots rows contents outputs d r after =
    (u : Update) → IsExactBuild u rows contents d → HasStore d text.items → LeavesCleanOf u funcs roots rows outputs d r after

-- the same of what was made, by its verdict
abbrev pub LeavesBy : Verdict → Option (Vec ℕ Global) → List (List ℕ × List ℕ) → List Task → Built → Directory → Report → Option Directory → Type 0
LeavesBy Accepted store funcs roots b d r after = LeavesWhere store funcs roots b.rows.items b.files.items b.outputs.items d r after
LeavesBy (Refused x) store funcs roots b d r after = Unit {0}

-- ---- what the parts say to each other

-- what is held is what the directory has; beside these files where there was no store to build from
abbrev pub HoldsBy : Option (Vec ℕ Global) → List (List ℕ × Vec ℕ Global) → List (List ℕ × List ℕ) → Directory → Type 0
HoldsBy None contents held d = HoldsBeside contents held d
HoldsBy (Some text) contents held d = HoldsRightly held d

-- the bytes of the store that there was to build from, and whether names are pending in a directory
pub record IsOwnOf (store : Option (Vec ℕ Global)) (d : Directory) (own : OwnFiles) : Type 0 where
  pub store_is : IfSome store (λ text. own.store ≡ text)
  pub pending : is_some own.pending ≡ is_some (bytes_at d pending_path)

-- the store, and what is held, are those of a directory; it tells whether names are pending
pub record IsKnownOf (own : OwnFiles) (held : List (List ℕ × List ℕ)) (d : Directory) : Type 0 where
  pub stored : HasStore d own.store.items
  pub pending : is_some own.pending ≡ is_some (bytes_at d pending_path)
  pub files : HoldsRightly held d

-- where that is known, the directory after is that of the clean build
abbrev pub PutsWhere : OwnFiles → List (List ℕ × List ℕ) → List (List ℕ × List ℕ) → List Task → List TaskRecord → List (List ℕ × Vec ℕ Global)
    → List (Task × Value) → Directory → Report → Option Directory → Type 0
PutsWhere own held funcs roots rows contents outputs d r after =
    IsKnownOf own held d → (u : Update) → IsExactBuild u rows contents d → LeavesCleanOf u funcs roots rows outputs d r after

-- so it is where there was no store, with what is known then
abbrev pub PutsAnew : OwnFiles → List (List ℕ × List ℕ) → List (List ℕ × List ℕ) → List Task → List TaskRecord → List (List ℕ × Vec ℕ Global)
    → List (Task × Value) → Directory → Report → Option Directory → Type 0
PutsAnew own held funcs roots rows contents outputs d r after =
    IsKnownBeside own contents held d → (u : Update) → IsExactBuild u rows contents d → ProvidesAll u contents
    → LeavesAnewOf u funcs roots rows outputs d r after
