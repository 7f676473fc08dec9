-- What is known of a project, of its build, and of what that leaves.
use Rattle.std.specs.Prelude.{◌≡◌, ◌⊎◌, ◌+◌, ◌≤◌, List, ◌++◌, length, All, Option, Some, IfSome, Result, IfOk}
use Rattle.pie_checks.specs.declared.built.Built.{Built}
use Rattle.pie_digest.specs.Digests.{HasNames}
use Rattle.pie_files.specs.Directory.{Directory}
use Rattle.pie_fresh.specs.Cleans.{contents_in, IsRootOf}
use Rattle.pie_fresh.specs.inner.Builds.{IsKept, StoredWhere}
use Rattle.pie_parser.specs.FunctionTrees.{FunctionTree}
use Rattle.pie_project.specs.declared.project.Project.{Project}
use Rattle.pie_report.specs.declared.report.Report.{Report}
use Rattle.pie_store.specs.Canonical.{AreFuncs}
use Rattle.pie_types.specs.inner.WholeRules.{IsTyped}
use Rattle.pie_value.specs.Canonical.{IsEncodableTask}
use Rattle.pie_value.specs.declared.task.Task.{Task}
use Rattle.pie_model_pipeline.specs.Clean.{IsCleanBuild}
use Rattle.pie_build.specs.Left.{Accepts, KeepsRest, LeavesOf}
use Rattle.pie_fresh.specs.Told.{TellsTrue}

-- the functions are typed, and the roots are tasks of them
pub record IsReady (fs : List FunctionTree) (asked : List Task) : Type 0 where
  pub typed : IsTyped fs
  pub roots : All (IsRootOf fs) asked

-- the digests of a project are those of its functions, and can stand in a store
pub record HasTable (p : Project) : Type 0 where
  pub names : HasNames p.typed p.digests.items
  pub funcs : AreFuncs p.digests.items

-- a project can be built: where the files hold a directory, its functions are typed and its roots are tasks of them
pub record IsBuildable (held : Option Directory) (p : Project) : Type 0 where
  pub ready : IfSome held (λ d. IsReady p.typed p.roots.items)
  pub table : HasTable p

-- what a build of a project made can be put into place: its files lie under `out/`, and its records can stand in a store
pub record CanBePlaced (p : Project) (b : Built) : Type 0 where
  pub table : HasTable p
  pub kept : IsKept b
  pub stored : StoredWhere b.verdict p.typed p.roots.items b

-- a build is the clean build of the model, in which these tasks were started, and what is told of it is true
abbrev pub IsCleanBy : List FunctionTree → Directory → List Task → List Task → Built → Type 0
IsCleanBy fs d roots ran b =
    IsCleanBuild fs d roots ran b.verdict b.rows.items (contents_in b.files.items) b.outputs.items × TellsTrue ran b.verdict b.outputs.items

-- what a build of a project with this report leaves
abbrev pub LeavesFor : Project → Directory → Report → Option Directory → Type 0
LeavesFor p d r after = LeavesOf p.typed p.digests.items p.roots.items d r after

-- the directory is as it was, or the model accepts this project
abbrev pub ChangesFor : Project → Directory → Option Directory → Type 0
ChangesFor p d after = (after ≡ Some d) ⊎ Accepts p.typed p.roots.items d

-- what a build of a project leaves, as its report says it; whatever was answered, the directory changed only where the model accepts the project, and only at
-- paths that a build may change
pub record Rebuilds {E : Type 0} (p : Project) (before after : Option Directory) (result : Result Report E) : Type 0 where
  pub left : IfSome before (λ d. IfOk result (λ r. LeavesFor p d r after))
  pub changed : IfSome before (λ d. ChangesFor p d after)
  pub rest : KeepsRest before after

-- at most so many tasks were started, and a report tells them, each with canonical bytes
pub record ReportsStarted {E : Type 0} (before after : List Task) (result : Result Report E) : Type 0 where
  pub ran : IfOk result (λ r. after ≡ before ++ r.ran.items)
  pub few : length after ≤ length before + 50000
  pub encodable : IfOk result (λ r. All IsEncodableTask r.ran.items)
