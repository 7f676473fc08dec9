-- The store that an accepted build without a list leaves, whatever was made.
use Rattle.std.specs.Prelude.{◌≡◌, ◌⊎◌, ℕ, List, [], All, Option, Some, None}
use Rattle.std.specs.declared.alloc.Global.{Global}
use Rattle.std.proofs.Common.{Vec}
use Rattle.pie_build.specs.Stored.{IsStoreOf}
use Rattle.pie_files.specs.Directory.{Directory}
use Rattle.pie_incremental.specs.Own.{bytes_at, store_path, IsClosed}
use Rattle.pie_incremental.specs.Starts.{HasStore}
use Rattle.pie_record.specs.declared.task_record.TaskRecord.{TaskRecord}
use Rattle.pie_store.specs.Texts.{IsRow}
use Rattle.pie_value.specs.declared.task.Task.{Task}
use Rattle.pie_value.specs.declared.verdict.Verdict.{Verdict}
use Rattle.pie_value.specs.declared.verdict.Verdict.TheVariants.{Accepted, Refused}

-- the directory after has a store with a table of these functions, and with these records
pub record LeavesRows (funcs : List (List ℕ × List ℕ)) (rows : List TaskRecord) (after : Option Directory) : Type 0 where
  pub left : Directory
  pub told : after ≡ Some left
  pub text : List ℕ
  pub there : bytes_at left store_path ≡ Some text
  pub roots : List Task
  pub says : IsStoreOf funcs roots rows text

-- so it is where this verdict accepts
abbrev pub LeavesRowsIf : Verdict → List (List ℕ × List ℕ) → List TaskRecord → Option Directory → Type 0
LeavesRowsIf Accepted funcs rows after = LeavesRows funcs rows after
LeavesRowsIf (Refused x) funcs rows after = Unit {0}

-- these records have canonical bytes, where this verdict accepts
abbrev pub AreRowsIf : Verdict → List TaskRecord → Type 0
AreRowsIf Accepted rows = All IsRow rows
AreRowsIf (Refused x) rows = Unit {0}

-- no marker stands, and these are the bytes of the store, unless there are none
pub record IsStoreOrNone (bytes : List ℕ) (d : Directory) : Type 0 where
  pub closed : IsClosed d
  pub bytes_are : (bytes_at d store_path ≡ Some bytes) ⊎ (bytes ≡ [])

-- no marker stands, and the store that there was to build from is that of the directory
abbrev pub IsBegunFrom : Option (Vec ℕ Global) → Directory → Type 0
IsBegunFrom None d = IsClosed d
IsBegunFrom (Some text) d = HasStore d text.items
