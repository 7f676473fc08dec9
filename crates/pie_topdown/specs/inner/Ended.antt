-- What a build makes.
use Rattle.std.specs.Prelude.{◌≤◌, List, length}
use Rattle.std.specs.List.{All, Contains}
use Rattle.pie_value.specs.declared.task.Task.{Task}
use Rattle.pie_value.specs.declared.verdict.Verdict.{Verdict}
use Rattle.pie_value.specs.declared.verdict.Verdict.TheVariants.{Accepted, Refused}
use Rattle.pie_digest.specs.Digests.{function_names}
use Rattle.pie_parser.specs.FunctionTrees.{FunctionTree}
use Rattle.pie_record.specs.declared.task_record.TaskRecord.{TaskRecord}
use Rattle.pie_store.specs.Canonical.{AreInOrder, tasks_in}
use Rattle.pie_checks.specs.declared.built.Built.{Built}
use Rattle.pie_results.specs.inner.Made.{IsEmptyWhereRefused, IsKept}

-- records stand in the order of a store, few enough, each of a function of the pipeline, and each root has one
pub record MayBeStored (fs : List FunctionTree) (roots : List Task) (b : Built) : Type 0 where
  pub order : AreInOrder b.rows.items
  pub few : length b.rows.items ≤ 50000
  pub known : All (λ (r : TaskRecord). Contains (function_names fs) r.task.func) b.rows.items
  pub closed : All (λ (t : Task). Contains (tasks_in b.rows.items) t) roots

-- so it is where this verdict accepts
abbrev pub StoredIf : Verdict → List FunctionTree → List Task → Built → Type 0
StoredIf Accepted fs roots b = MayBeStored fs roots b
StoredIf (Refused r) fs roots b = Unit {0}

-- what is made is empty where it is refused, its records can be stored, its files lie in path order, and where it is accepted, a store may have its records
pub record IsMadeFor (fs : List FunctionTree) (roots : List Task) (b : Built) : Type 0 where
  pub refused_empty : IsEmptyWhereRefused b
  pub kept : IsKept b
  pub stored : StoredIf b.verdict fs roots b
