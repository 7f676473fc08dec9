-- Why tasks run is known for good.
use Rattle.std.proofs.Common.{◌≡◌, ℕ, Option, Some, Vec, sym, subst}
use Rattle.std.specs.declared.alloc.Global.{Global}
use Rattle.std.specs.Prelude.{slice_get}
use Rattle.pie_value.specs.declared.task.Task.{Task}
use Rattle.pie_record.specs.declared.task_record.TaskRecord.{TaskRecord}
use Rattle.pie_core_laws.specs.Update.{Update}
use Rattle.pie_topdown.specs.declared.builder.Builder.{Builder}
use Rattle.pie_topdown.specs.declared.plan.Plan.{Plan}
use Rattle.pie_topdown.specs.inner.Due.{IsDue, IsDueAt, IsDueBy}
use Rattle.pie_topdown.specs.inner.Frames.{IsOwnRecord}

-- a task that has a reason has it while numbers and the plan stay
pub due_lasts : (u : Update) (b c : Builder) (n : ℕ)
    → ((t : Task) → slice_get b.ledger.tables.names n ≡ Some t → slice_get c.ledger.tables.names n ≡ Some t) → c.plan ≡ b.plan → IsDueAt u b n → IsDueAt u c n
due_lasts u b c n names plan d = record {
  task = d.task;
  named = names d.task d.named;
  due = subst (λ p. IsDue u p d.task) (sym plan) d.due;
}

-- and so it is with a record that is checked
pub by_lasts : (u : Update) (p q : Plan) (rec : TaskRecord) (contents : Option (Vec (Vec ℕ Global) Global)) → q ≡ p → IsDueBy u p rec contents
    → IsDueBy u q rec contents
by_lasts u p q rec contents same d = subst (λ x. IsDueBy u x rec contents) (sym same) d

-- an own record stays one
pub own_lasts : (p q : Plan) (rec : TaskRecord) → q ≡ p → IsOwnRecord p rec → IsOwnRecord q rec
own_lasts p q rec same own = subst (λ x. IsOwnRecord x rec) (sym same) own
