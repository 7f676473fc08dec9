-- What the parts of a build without a list say of one that has nothing to build from.
use Rattle.std.specs.Prelude.{◌≡◌, ◌↔◌, ℕ, true, cond, List, [], length, map, Option, None, Some, IsSome, is_some}
use Rattle.std.specs.List.{Contains, list_any}
use Rattle.std.specs.List.Sorted.{IsStrictlySortedBy}
use Rattle.std.specs.declared.alloc.Global.{Global}
use Rattle.std.proofs.Common.{Vec}
use Rattle.pie_base.specs.Path.{is_out, same_text}
use Rattle.pie_build.specs.Left.{IsProjectOf}
use Rattle.pie_build.specs.Stored.{IsStoreOf}
use Rattle.pie_core_laws.specs.Update.{Update, present}
use Rattle.pie_diff.specs.Hashes.{files_paths, hash_in, held_at}
use Rattle.pie_files.specs.Directory.{Directory}
use Rattle.pie_incremental.specs.declared.base.OwnFiles.{OwnFiles}
use Rattle.pie_incremental.specs.Own.{bytes_at, pending_path}
use Rattle.pie_incremental.specs.inner.Digested.{digested}
use Rattle.pie_left_laws.specs.Accepted.{live_now}
use Rattle.pie_left_laws.specs.Reported.{IsStray}
use Rattle.pie_model.specs.Built.{provided_at, store_rows, IsBuilt}
use Rattle.pie_model.specs.Verdict.{verdict}
use Rattle.pie_model_pipeline.specs.Clean.{with_output, output_bytes}
use Rattle.pie_model_pipeline.specs.Rows.{record_of, verdict_of}
use Rattle.pie_model_pipeline.specs.World.{world}
use Rattle.pie_parser.specs.FunctionTrees.{FunctionTree}
use Rattle.pie_project.specs.declared.project.Project.{Project}
use Rattle.pie_reach.specs.Plan.{path_cmp}
use Rattle.pie_record.specs.declared.task_record.TaskRecord.{TaskRecord}
use Rattle.pie_report.specs.declared.report.Report.{Report}
use Rattle.pie_store.specs.inner.Offers.{Offered}
use Rattle.pie_topdown_result_laws.specs.Builds.{AreHonest, IsFromStore, IsNowHere}
use Rattle.pie_value.specs.Canonical.{enc_task}
use Rattle.pie_value.specs.declared.task.Task.{Task}
use Rattle.pie_value.specs.declared.value.Value.{Value}
use Rattle.pie_value.specs.declared.verdict.Verdict.TheVariants.{Accepted}
use Rattle.pie_topdown_build.specs.declared.base.Base.{Base}
use Rattle.pie_topdown_build.specs.Anew.{nothing, IsAsCleanAnew, IsSeparate}

-- ---- an update of no earlier build

-- a build of no roots in the directory without files, and these functions and roots in a directory, where these strings are met besides
abbrev pub update_alone : List (List ℕ) → Directory → List FunctionTree → List Task → Update
update_alone strings d fs roots = record {
  old_functions = fs;
  built = nothing;
  old_roots = [];
  left = nothing;
  functions = fs;
  directory = d;
  roots = map enc_task roots;
  names = [];
  besides = strings;
}

-- honest records are offered, whatever the project of the directory is
pub record OffersHonestAlone (strings : List (List ℕ)) (d : Directory) (told : Directory → Task → List ℕ → List Offered) : Type 0 where
  pub each : (funcs : List (List ℕ × List ℕ)) (roots : List Task) (found : IsProjectOf d funcs roots)
      → AreHonest (update_alone strings d found.functions roots) funcs told

-- a base without a store or a record
pub record IsNoBase (b : Base) : Type 0 where
  pub store : b.store ≡ None
  pub rows : b.image.rows ≡ []

-- an update to this project in what the files hold, from this base, which has no store and no record
pub record IsUpdateAnew (u : Update) (held : Option Directory) (b : Base) (p : Project) : Type 0 where
  pub here : IsNowHere u held p.typed p.roots.items
  pub stored : IsFromStore u (digested u.directory p.digests.items b.image).funcs p.digests.items b.image.rows
  pub none : b.store ≡ None
  pub rows : b.image.rows ≡ []

-- ---- what an accepted one leaves

-- the directory after is that of the clean build, and the store in it has these functions, roots and records; the report tells the files that a clean build
-- provides, all of which were written, those that were removed, each once in path order, and the outputs
pub record LeavesAnewOf (u : Update) (funcs : List (List ℕ × List ℕ)) (roots : List Task) (rows : List TaskRecord) (outputs : List (Task × Value))
    (d : Directory) (r : Report) (after : Option Directory) : Type 0 where
  pub left : Directory
  pub told : after ≡ Some left
  pub text : List ℕ
  pub built : IsBuilt text d left (live_now u)
  pub store : IsStoreOf funcs roots rows text
  pub live : r.live ≡ length rows
  pub wrote : (path : List ℕ) → Contains r.wrote.items path ↔ IsSome (provided_at (live_now u) path)
  pub removed : (path : List ℕ) → Contains r.removed.items path ↔ IsStray u path
  pub ordered : IsStrictlySortedBy path_cmp r.wrote.items × IsStrictlySortedBy path_cmp r.removed.items
  pub outputs_are : r.outputs.items ≡ outputs

-- with records and outputs of the clean build
pub record LeavesAnewAs (u : Update) (funcs : List (List ℕ × List ℕ)) (roots : List Task) (r : Report) (after : Option Directory) : Type 0 where
  pub rows : List TaskRecord
  pub outputs : List (Task × Value)
  pub rows_are : map record_of rows ≡ store_rows world (present u) u.roots
  pub outputs_are : map output_bytes outputs ≡ map (with_output u.functions u.directory) u.roots
  pub left : LeavesAnewOf u funcs roots rows outputs u.directory r after

-- a report has the verdict of the clean build, and where that accepts, so is what is left
pub record BuildsAnewOf (u : Update) (funcs : List (List ℕ × List ℕ)) (roots : List Task) (r : Report) (after : Option Directory) : Type 0 where
  pub verdict : verdict_of r.verdict ≡ verdict world (present u) u.roots
  pub left : r.verdict ≡ Accepted → LeavesAnewAs u funcs roots r after

-- what a build from an empty store came to, where nothing that the clean build meets has the hash of something else, and honest records are offered
abbrev pub AnewAsClean : (Directory → Task → List ℕ → List Offered) → Directory → Report → Option Directory → Type 0
AnewAsClean told d r after = (apart : IsSeparate d) → OffersHonestAlone apart.strings d told → IsAsCleanAnew d r after

-- ---- its commit

-- what is held is what a directory has under `out` beside these files
abbrev pub HoldsBeside : List (List ℕ × Vec ℕ Global) → List (List ℕ × List ℕ) → Directory → Type 0
HoldsBeside contents held d =
    (q : List ℕ) → is_out q ≡ true → held_at held q ≡ cond (list_any (same_text q) (files_paths contents)) None (hash_in d q)

-- there was no store; what is held is that of a directory beside these files; and it is known whether names are pending
pub record IsKnownBeside (own : OwnFiles) (contents : List (List ℕ × Vec ℕ Global)) (held : List (List ℕ × List ℕ)) (d : Directory) : Type 0 where
  pub store : own.store.items ≡ []
  pub pending : is_some own.pending ≡ is_some (bytes_at d pending_path)
  pub files : HoldsBeside contents held d
