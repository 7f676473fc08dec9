-- What a settled build makes.
use Rattle.std.specs.Prelude.{◌≤◌, length}
use Rattle.std.specs.List.{All, Contains}
use Rattle.pie_value.specs.declared.task.Task.{Task}
use Rattle.pie_value.specs.declared.verdict.Verdict.{Verdict}
use Rattle.pie_value.specs.declared.verdict.Verdict.TheVariants.{Accepted, Refused}
use Rattle.pie_record.specs.declared.task_record.TaskRecord.{TaskRecord}
use Rattle.pie_store.specs.Canonical.{AreInOrder, tasks_in}
use Rattle.pie_checks.specs.declared.built.Built.{Built}
use Rattle.pie_bottomup.specs.declared.plan.Plan.{Plan}
use Rattle.pie_bottomup.specs.inner.Running.{IsKnown}

-- records stand in the order of a store, few enough, each of a function of the plan, and each root has one
pub record MayBeStored (p : Plan) (b : Built) : Type 0 where
  pub order : AreInOrder b.rows.items
  pub few : length b.rows.items ≤ 50000
  pub known : All (λ (r : TaskRecord). IsKnown p r.task) b.rows.items
  pub closed : All (λ (t : Task). Contains (tasks_in b.rows.items) t) p.roots.items

-- so it is where this verdict accepts
abbrev pub StoredIf : Verdict → Plan → Built → Type 0
StoredIf Accepted p b = MayBeStored p b
StoredIf (Refused r) p b = Unit {0}
