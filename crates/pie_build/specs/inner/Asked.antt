-- Which paths the parts of a clean build ask for, and which they change.
use Rattle.std.specs.Prelude.{◌≡◌, ℕ, true, List, ◌++◌, Option, Result, Ok, IfSome}
use Rattle.pie_value.specs.declared.task.Task.{Task}
use Rattle.pie_files.specs.Directory.{Directory}
use Rattle.pie_files.specs.declared.files.Call.{Call}
use Rattle.pie_files.specs.declared.files.Call.TheVariants.{Read, Names, AllUnder, Write, Remove, Sync}
use Rattle.pie_named.specs.Asking.{MakesOnly}
use Rattle.pie_commit.specs.declared.plan.Plan.{Plan}
use Rattle.pie_commit.specs.inner.Plans.{is_own}
use Rattle.pie_parser.specs.FunctionTrees.{FunctionTree}
use Rattle.pie_project.specs.declared.fault.BuildError.{BuildError}
use Rattle.pie_project.specs.Fronts.{ProjectSays}
use Rattle.pie_project.specs.Refusals.{IsVerdict}
use Rattle.pie_report.specs.declared.report.Report.{Report}
use Rattle.pie_fresh.specs.inner.Asked.{IsObservedBy}
use Rattle.pie_build.specs.Asked.{AsksEntered, IsCleanCall}

-- a call that no task of a clean build makes
abbrev pub IsOwnCall : Call → Type 0
IsOwnCall c = IsCleanCall (λ p. ⊥) c

-- such calls alone were made
abbrev pub MakesOwn : Option (List Call) → Option (List Call) → Type 0
MakesOwn asked asked_now = MakesOnly IsOwnCall asked asked_now

-- a call changes a path of a plan, or makes the changes last; it looks at nothing
abbrev pub IsChangeOf : Plan → Call → Type 0
IsChangeOf plan (Read p) = ⊥
IsChangeOf plan (Names p) = ⊥
IsChangeOf plan (AllUnder p) = ⊥
IsChangeOf plan (Write p mark) = is_own plan p ≡ true
IsChangeOf plan (Remove p) = is_own plan p ≡ true
IsChangeOf plan Sync = Unit {0}

-- each call that came is that of a clean build of these functions, with the tasks that were started after those before
pub record AsksBuilt (fs : List FunctionTree) (d : Directory) (before after : List Task) (asked asked_now : Option (List Call)) : Type 0 where
  pub started : List Task
  pub gained : after ≡ before ++ started
  pub asks : MakesOnly (IsCleanCall (IsObservedBy fs d started)) asked asked_now

-- one of these tasks observes a source, by the functions of the project of a directory
pub record IsObservedIn (d : Directory) (tasks : List Task) (p : List ℕ) : Type 0 where
  pub functions : List FunctionTree
  pub roots : List Task
  pub says : ProjectSays d (Ok (functions, roots))
  pub seen : IsObservedBy functions d tasks p

-- each call that came is that of a clean build, with the tasks that were started after those before
pub record AsksClean (d : Directory) (before after : List Task) (asked asked_now : Option (List Call)) : Type 0 where
  pub started : List Task
  pub gained : after ≡ before ++ started
  pub asks : MakesOnly (IsCleanCall (IsObservedIn d started)) asked asked_now

-- over observable files each call that came is that of a clean build, with the tasks that were started, and after an answer or a refusal with those that the
-- clean build of the model enters
pub record AsksOfProject (held : Option Directory) (before after : List Task) (asked asked_now : Option (List Call)) (result : Result Report BuildError)
    : Type 0 where
  pub asks : IfSome held (λ d. AsksClean d before after asked asked_now)
  pub entered : IfSome held (λ d. IsVerdict result → AsksEntered d asked asked_now)
