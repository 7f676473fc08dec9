-- A build by what changed between two steps, as plain data, and where it goes on.
use Rattle.std.specs.Prelude.{ℕ, List, Contains}
use Rattle.pie_value.specs.declared.task.Task.{Task}
use Rattle.pie_code.specs.declared.code.Code.{Code}
use Rattle.pie_record.specs.declared.records.Records.{Records}
use Rattle.pie_walk.specs.States.{WalkState}
use Rattle.pie_walk.specs.Standing.{Stands}
use Rattle.pie_view.specs.Content.{Staged}
use Rattle.pie_builder_laws.specs.Events.{AreCompiled}
use Rattle.pie_core_laws.specs.Update.{Update}
use Rattle.pie_core_laws.specs.Exact.{IsExact}
use Rattle.pie_core_laws.specs.Keeping.{Separates}
use Rattle.pie_core_laws.specs.Seeing.{HasOutput}

-- what a build goes by, and the codes of its functions
pub record Site : Type 0 where
  pub update : Update
  pub codes : List Code

-- its tasks by their numbers, their records, the state of its walk, and what tasks staged
pub record Build : Type 0 where
  pub names : List Task
  pub records : Records
  pub walk : WalkState
  pub stage : Staged

-- the codes are those of the functions
abbrev pub IsThere : Site → Type 0
IsThere x = AreCompiled x.update.functions x.codes

-- the build is exact
abbrev pub IsExactAt : Site → Build → Type 0
IsExactAt x b = IsExact x.update b.names b.records b.walk

-- and so what is settled in it is known
pub record IsSound (x : Site) (b : Build) : Type 0 where
  pub exact : IsExactAt x b
  pub stands : Stands b.walk
  pub apart : Separates x.update

-- the tasks with these numbers are settled, and ended with values
abbrev pub HaveOutputs : Build → List ℕ → Type 0
HaveOutputs b needs = (k : ℕ) → Contains needs k → HasOutput b.records b.walk k
