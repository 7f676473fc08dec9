use Rattle.std.proofs.Common.{◌≡◌, ◌++◌, drop, map}
use Rattle.std.specs.BTreeMap.{get_by_text}
use Rattle.pie_value.specs.declared.task.Task.{Task}
use Rattle.pie_old.specs.inner.Code.{same_digest}
use Rattle.pie_old.proofs.code.flags_of.Given as goal

abbrev pub invariant-loop-task : goal.invariant-loop-task
invariant-loop-task l =
    l.flags.items ++ map (λ (t : Task). same_digest (get_by_text l.old t.func) (get_by_text l.now t.func)) (drop l.task-index l.tasks)
    ≡ map (λ (t : Task). same_digest (get_by_text l.old t.func) (get_by_text l.now t.func)) l.tasks
