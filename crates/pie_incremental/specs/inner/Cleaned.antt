-- What an accepted build that didn't start afresh leaves, where what it made is that of a clean build.
use Rattle.std.specs.Prelude.{◌≡◌, ◌⊎◌, ◌↔◌, ℕ, List, length, map, Option, Some, None}
use Rattle.std.specs.List.{Contains}
use Rattle.std.specs.List.Sorted.{IsStrictlySortedBy}
use Rattle.std.specs.declared.alloc.Global.{Global}
use Rattle.std.proofs.Common.{Vec}
use Rattle.pie_build.specs.Stored.{IsStoreOf}
use Rattle.pie_checks.specs.declared.built.Built.{Built}
use Rattle.pie_files.specs.Directory.{Directory, without_file}
use Rattle.pie_reach.specs.Plan.{path_cmp}
use Rattle.pie_record.specs.declared.task_record.TaskRecord.{TaskRecord}
use Rattle.pie_report.specs.declared.report.Report.{Report}
use Rattle.pie_results.specs.inner.Files.{contents_in}
use Rattle.pie_store.specs.declared.image.StoreImage.{StoreImage}
use Rattle.pie_store.specs.Texts.{IsStoreText}
use Rattle.pie_value.specs.declared.task.Task.{Task}
use Rattle.pie_value.specs.declared.value.Value.{Value}
use Rattle.pie_value.specs.declared.verdict.Verdict.{Verdict}
use Rattle.pie_value.specs.declared.verdict.Verdict.TheVariants.{Accepted, Refused}
use Rattle.pie_commit.specs.declared.plan.Plan.{Plan}
use Rattle.pie_model.specs.Built.{store_rows, IsBuilt}
use Rattle.pie_model_pipeline.specs.Rows.{record_of}
use Rattle.pie_model_pipeline.specs.World.{world}
use Rattle.pie_core_laws.specs.Update.{Update, IsUpdate, earlier}
use Rattle.pie_core_laws.specs.Keeping.{Separates}
use Rattle.pie_left_laws.specs.Accepted.{OutIsMet, IsAccepted, live_now}
use Rattle.pie_left_laws.specs.Reported.{IsOther, IsStray}
use Rattle.pie_incremental.specs.declared.base.Base.{Base}
use Rattle.pie_incremental.specs.declared.base.OwnFiles.{OwnFiles}
use Rattle.pie_incremental.specs.declared.ending.Ending.{Ending}
use Rattle.pie_incremental.specs.Kept.{IsOfNames}
use Rattle.pie_incremental.specs.Own.{open_path}
use Rattle.pie_incremental.specs.Starts.{IsBase}
use Rattle.pie_incremental.specs.Crashes.{IsBegun}
use Rattle.pie_incremental.specs.inner.Built.{IsKnown}
use Rattle.pie_incremental.specs.inner.Changes.{bytes_of}
use Rattle.pie_incremental.specs.inner.Plans.{IsChangesPlan}

-- an update of this directory whose hashes separate what it meets, in which a build accepts and makes these records and files; and the builder's own files
-- and what is held are those of the directory
pub record IsExactBuild (u : Update) (own : OwnFiles) (held : List (List ℕ × List ℕ)) (rows : List TaskRecord)
    (contents : List (List ℕ × Vec ℕ Global)) (d : Directory) : Type 0 where
  pub directory : u.directory ≡ d
  pub separates : Separates u
  pub met : OutIsMet u
  pub made : IsAccepted u rows (contents_in contents)
  pub known : IsKnown own held d

-- the directory after is that of the clean build, and the store in it has these functions, roots and records; the report tells which files were written,
-- where the directory had other bytes or none, which were removed, each once in path order, and the outputs
pub record LeavesCleanOf (u : Update) (funcs : List (List ℕ × List ℕ)) (roots : List Task) (rows : List TaskRecord) (outputs : List (Task × Value))
    (d : Directory) (r : Report) (after : Option Directory) : Type 0 where
  pub left : Directory
  pub told : after ≡ Some left
  pub text : List ℕ
  pub built : IsBuilt text d left (live_now u)
  pub store : IsStoreOf funcs roots rows text
  pub live : r.live ≡ length rows
  pub wrote : (path : List ℕ) → Contains r.wrote.items path ↔ IsOther u path
  pub removed : (path : List ℕ) → Contains r.removed.items path ↔ IsStray u path
  pub ordered : IsStrictlySortedBy path_cmp r.wrote.items × IsStrictlySortedBy path_cmp r.removed.items
  pub outputs_are : r.outputs.items ≡ outputs

-- so it is for each such update
abbrev pub LeavesWhere : OwnFiles → List (List ℕ × List ℕ) → List (List ℕ × List ℕ) → List Task → List TaskRecord → List (List ℕ × Vec ℕ Global)
    → List (Task × Value) → Directory → Report → Option Directory → Type 0
LeavesWhere own held funcs roots rows contents outputs d r after =
    (u : Update) → IsExactBuild u own held rows contents d → LeavesCleanOf u funcs roots rows outputs d r after

-- the same of what was made, by its verdict
abbrev pub LeavesBy : Verdict → OwnFiles → List (List ℕ × List ℕ) → List (List ℕ × List ℕ) → List Task → Built → Directory → Report → Option Directory
    → Type 0
LeavesBy Accepted own held funcs roots b d r after = LeavesWhere own held funcs roots b.rows.items b.files.items b.outputs.items d r after
LeavesBy (Refused x) own held funcs roots b d r after = Unit {0}

-- a directory is that of the clean build, with a store of these functions, roots and records
pub record IsClean (u : Update) (funcs : List (List ℕ × List ℕ)) (roots : List Task) (rows : List TaskRecord) (d e : Directory) : Type 0 where
  pub text : List ℕ
  pub built : IsBuilt text d e (live_now u)
  pub store : IsStoreOf funcs roots rows text

-- what a crash leaves of the commit: it has begun, it changed nothing yet, or all is done, with or without the marker
abbrev pub MayLeave : OwnFiles → List (List ℕ × List ℕ) → List (List ℕ × List ℕ) → List Task → List TaskRecord → List (List ℕ × Vec ℕ Global)
    → Directory → Directory → Type 0
MayLeave own held funcs roots rows contents d c =
    (u : Update) → IsExactBuild u own held rows contents d → IsBegun d c ⊎ ((c ≡ d) ⊎ IsClean u funcs roots rows d (without_file c open_path))

-- the same of what was made, by its verdict: where it is refused, the names are kept, or not yet
abbrev pub MayLeaveBy : Verdict → OwnFiles → List (List ℕ × List ℕ) → List (List ℕ × List ℕ) → List Task → Built → List (List ℕ) → Directory → Directory
    → Type 0
MayLeaveBy Accepted own held funcs roots b names d c = MayLeave own held funcs roots b.rows.items b.files.items d c
MayLeaveBy (Refused x) own held funcs roots b names d c = IsOfNames names (bytes_of own.pending) d c

-- ---- what the parts say to each other

-- a store of these parts
pub record HasParts (funcs : List (List ℕ × List ℕ)) (roots : List Task) (rows : List TaskRecord) (s : StoreImage) : Type 0 where
  pub table : s.pipeline ≡ None
  pub funcs_are : s.funcs ≡ funcs
  pub roots_are : s.roots ≡ roots
  pub rows_are : s.rows ≡ rows

-- the plan of an accepted build whose store says this
pub record IsPlanFor (own : OwnFiles) (held : List (List ℕ × List ℕ)) (s : StoreImage) (contents : List (List ℕ × Vec ℕ Global)) (p : Plan) : Type 0 where
  pub text : Vec ℕ Global
  pub says : IsStoreText s text.items
  pub plan : IsChangesPlan own held s.rows contents text p

-- a report of a plan, of so many live tasks with these outputs
pub record TellsPlan (p : Plan) (live : ℕ) (outputs : List (Task × Value)) (r : Report) : Type 0 where
  pub live_is : r.live ≡ live
  pub wrote : r.wrote.items ≡ map (λ (f : List ℕ × Vec ℕ Global). f.0) p.writes.items
  pub removed : r.removed.items ≡ p.removals.items
  pub outputs_are : r.outputs.items ≡ outputs

-- what the end of a build needs is known of a directory: of each update from this base, with the names of the end
abbrev pub KnowsWhere : Base → Directory → Ending → Type 0
KnowsWhere b d e =
    (u : Update) → IsUpdate u → u.directory ≡ d → u.names ≡ e.names.items → map record_of b.image.rows ≡ store_rows world (earlier u) u.old_roots
    → IsBase d b → IsKnown e.own e.held d
