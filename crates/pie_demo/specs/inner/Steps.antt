-- What the parts of a round say to each other.
use Rattle.std.specs.Prelude.{◌≡◌, ◌⊎◌, ◌↔◌, ℕ, Bool, true, false, List, [], ◌++◌, Option, None, Some, Result, Ok, Err, IsTrue}
use Rattle.pie_build.specs.inner.Rebuilt.{IsRefusal}
use Rattle.pie_files.specs.Directory.{Directory}
use Rattle.pie_parser.specs.FunctionTrees.{FunctionTree}
use Rattle.pie_project.specs.declared.fault.BuildError.{BuildError}
use Rattle.pie_project.specs.Fronts.{ProjectSays}
use Rattle.pie_project.specs.Refusals.{Refusal}
use Rattle.pie_report.specs.declared.report.Report.{Report}
use Rattle.pie_value.specs.declared.task.Task.{Task}
use Rattle.pie_demo.specs.Copies.{is_compared, AreSameAt}
use Rattle.pie_demo.specs.Rounds.{BuildsAfresh, BuildsByNames}

-- how many tasks a report calls live, or none where the project is refused
abbrev pub TellsLive : Result Report BuildError → Option ℕ → Type 0
TellsLive result None = IsRefusal result
TellsLive result (Some live) = (r : Report) × (result ≡ Ok r) × (live ≡ r.live)

-- a project is refused, which changes nothing and starts no task
pub record Refuses (before after : Directory) (started : List Task) : Type 0 where
  pub refusal : Refusal
  pub says : ProjectSays before (Err refusal)
  pub kept : after ≡ before
  pub none : started ≡ []

-- a project was built by names, or refused; the tasks that were started are added
pub record BuildsNamed (names : List (List ℕ)) (before after : Directory) (runs runs_after : List Task) (built : Bool) : Type 0 where
  pub started : List Task
  pub gain : runs_after ≡ runs ++ started
  pub outcome : ((built ≡ true) × BuildsByNames names before after started) ⊎ ((built ≡ false) × Refuses before after started)

-- a project was built afresh, and no refusal is its own
pub record BuildsOnly (before after : Directory) (started : List Task) (live : ℕ) : Type 0 where
  pub builds : BuildsAfresh before after started live
  pub only : (refusal : Refusal) → ProjectSays before (Err refusal) → ⊥

-- it was refused, and it has no functions and roots
pub record RefusesOnly (before after : Directory) (started : List Task) (live : ℕ) : Type 0 where
  pub refuses : Refuses before after started
  pub none : live ≡ 0
  pub only : (front : List FunctionTree × List Task) → ProjectSays before (Ok front) → ⊥

-- one of both; the tasks that were started are added
pub record Rebuilds (before after : Directory) (runs runs_after : List Task) (live : ℕ) : Type 0 where
  pub started : List Task
  pub gain : runs_after ≡ runs ++ started
  pub outcome : BuildsOnly before after started live ⊎ RefusesOnly before after started live

-- the answer of a round: no, where its project wasn't built, and else whether both are the same
abbrev pub Answers : Bool → Directory → Directory → Bool → Type 0
Answers true one other same = IsTrue same ↔ AreSameAt is_compared one other
Answers false one other same = same ≡ false
