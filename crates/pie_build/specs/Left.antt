-- What a clean build leaves of a directory.
use Rattle.std.specs.Prelude.{◌≡◌, ℕ, Bool, true, false, ◌||◌, ◌⊎◌, cond, List, [], ◌∷◌, length, map, codes, Option, None, Some, IfSome, Ok}
use Rattle.std.specs.List.Sorted.{IsStrictlySortedBy}
use Rattle.std.specs.Option.{option_map}
use Rattle.std.specs.declared.alloc.Global.{Global}
use Rattle.std.proofs.Common.{Vec}
use Rattle.pie_base.specs.Path.{is_out, same_text}
use Rattle.pie_files.specs.Directory.{Directory, file_at, files_under}
use Rattle.pie_parser.specs.FunctionTrees.{FunctionTree}
use Rattle.pie_value.specs.Canonical.{enc_task}
use Rattle.pie_value.specs.declared.task.Task.{Task}
use Rattle.pie_value.specs.declared.verdict.Refusal.{Refusal}
use Rattle.pie_value.specs.declared.verdict.Verdict.{Verdict}
use Rattle.pie_value.specs.declared.verdict.Verdict.TheVariants.{Accepted, Refused}
use Rattle.pie_record.specs.declared.task_record.TaskRecord.{TaskRecord}
use Rattle.pie_reach.specs.Plan.{IsPlan, path_cmp}
use Rattle.pie_digest.specs.Digests.{HasNames}
use Rattle.pie_fresh.specs.Cleans.{contents_in}
use Rattle.pie_project.specs.Digested.{HasDigests}
use Rattle.pie_project.specs.Fronts.{ProjectSays}
use Rattle.pie_report.specs.declared.report.Report.{Report}
use Rattle.pie_model.specs.Verdict.{verdict}
use Rattle.pie_model_pipeline.specs.Clean.{IsCleanBuild}
use Rattle.pie_model_pipeline.specs.Rows.{verdict_of}
use Rattle.pie_model_pipeline.specs.World.{world, project}
use Rattle.pie_build.specs.Stored.{IsStoreOf}
use Rattle.pie_fresh.specs.Told.{TellsTrue}

-- a path that a build may change: one under `out/`, or one of the builder's own three
abbrev pub may_change : List ℕ → Bool
may_change q = is_out q || same_text q (codes ".pie/open") || same_text q (codes ".pie/store") || same_text q (codes ".pie/pending")

-- where the directory is observable, it is told still, and every other path has the file that it had
pub record KeepsRest (before after : Option Directory) : Type 0 where
  pub kept : IfSome before (λ d. (e : Directory) × (after ≡ Some e) × ((q : List ℕ) → may_change q ≡ false → file_at e q ≡ file_at d q))

-- the one that was found later, if there is one
abbrev pub or_earlier : {A : Type 0} → Option A → Option A → Option A
or_earlier (Some a) earlier = Some a
or_earlier None earlier = earlier

-- what some files have at a path; of two at one path the later one counts
abbrev pub content_at : List (List ℕ × Vec ℕ Global) → List ℕ → Option (List ℕ)
content_at [] q = None
content_at (f ∷ fs) q = or_earlier (content_at fs q) (cond (same_text q f.0) (Some f.1.items) None)

-- an accepted build: under `out/` stand exactly these files, and the report tells them, each once in path order, and what was removed; of the builder's
-- own files there is the store alone, which has this text
pub record IsInPlace (d e : Directory) (files : List (List ℕ × Vec ℕ Global)) (text : List ℕ) (r : Report) : Type 0 where
  pub provided : (q : List ℕ) → is_out q ≡ true → option_map (λ f. f.0) (file_at e q) ≡ content_at files q
  pub rest : (q : List ℕ) → may_change q ≡ false → file_at e q ≡ file_at d q
  pub wrote : r.wrote.items ≡ map (λ f. f.0) files
  pub ordered : IsStrictlySortedBy path_cmp r.wrote.items
  pub removed : IsPlan (files_under d (codes "out")) r.wrote.items r.removed.items
  pub store : option_map (λ f. f.0) (file_at e (codes ".pie/store")) ≡ Some text
  pub no_marker : file_at e (codes ".pie/open") ≡ None
  pub no_pending : file_at e (codes ".pie/pending") ≡ None

-- an accepted build put these files and this store into place, and its report says so
abbrev pub Puts : List (List ℕ × Vec ℕ Global) → List ℕ → Directory → Report → Option Directory → Type 0
Puts files text d r after = (r.verdict ≡ Accepted) × (e : Directory) × (after ≡ Some e) × IsInPlace d e files text r

-- the functions with their digests, and the roots, of the project of a directory
pub record IsProjectOf (d : Directory) (funcs : List (List ℕ × List ℕ)) (roots : List Task) : Type 0 where
  pub functions : List FunctionTree
  pub says : ProjectSays d (Ok (functions, roots))
  pub names : HasNames functions funcs
  pub digests : HasDigests d funcs

-- an accepted build of these functions and roots: the files and the store that it left, its tasks and its outputs are those of the clean build of the model,
-- and what its report tells is true
pub record LeavesBuilt (fs : List FunctionTree) (funcs : List (List ℕ × List ℕ)) (roots : List Task) (d : Directory) (r : Report) (after : Option Directory)
    : Type 0 where
  pub left : Directory
  pub told : after ≡ Some left
  pub files : List (List ℕ × Vec ℕ Global)
  pub rows : List TaskRecord
  pub text : List ℕ
  pub place : IsInPlace d left files text r
  pub store : IsStoreOf funcs roots rows text
  pub live : r.live ≡ length rows
  pub clean : IsCleanBuild fs d roots r.ran.items Accepted rows (contents_in files) r.outputs.items
  pub tells : TellsTrue r.ran.items Accepted r.outputs.items

-- a refused build of these functions and roots: it changed nothing, no task is live, the clean build of the model has this refusal and started the same tasks,
-- and what its report tells is true
pub record LeavesAll (fs : List FunctionTree) (roots : List Task) (x : Refusal) (d : Directory) (r : Report) (after : Option Directory) : Type 0 where
  pub same : after ≡ Some d
  pub wrote : r.wrote.items ≡ []
  pub removed : r.removed.items ≡ []
  pub outputs : r.outputs.items ≡ []
  pub live : r.live ≡ 0
  pub clean : IsCleanBuild fs d roots r.ran.items (Refused x) [] [] []
  pub tells : TellsTrue r.ran.items (Refused x) []

-- what a build of these functions and roots with this verdict and report leaves
abbrev pub LeavesBy : List FunctionTree → List (List ℕ × List ℕ) → List Task → Verdict → Directory → Report → Option Directory → Type 0
LeavesBy fs funcs roots Accepted d r after = LeavesBuilt fs funcs roots d r after
LeavesBy fs funcs roots (Refused x) d r after = LeavesAll fs roots x d r after

-- the same by the verdict of the report, which has no cause to start afresh
abbrev pub LeavesOf : List FunctionTree → List (List ℕ × List ℕ) → List Task → Directory → Report → Option Directory → Type 0
LeavesOf fs funcs roots d r after = (r.fresh ≡ None) × LeavesBy fs funcs roots r.verdict d r after

-- a build of the project of a directory leaves what its report says
abbrev pub Leaves : Directory → Report → Option Directory → Type 0
Leaves d r after =
    (funcs : List (List ℕ × List ℕ)) × (roots : List Task) × (project : IsProjectOf d funcs roots) × LeavesOf project.functions funcs roots d r after

-- the model accepts the clean build of these functions and roots
abbrev pub Accepts : List FunctionTree → List Task → Directory → Type 0
Accepts fs roots d = verdict_of Accepted ≡ verdict world (project fs d) (map enc_task roots)

-- whatever was answered: the directory is as it was, or the model accepts the project that it had
abbrev pub ChangesIfAccepted : Directory → Option Directory → Type 0
ChangesIfAccepted d after = (after ≡ Some d)
    ⊎ ((funcs : List (List ℕ × List ℕ)) × (roots : List Task) × (found : IsProjectOf d funcs roots) × Accepts found.functions roots d)
