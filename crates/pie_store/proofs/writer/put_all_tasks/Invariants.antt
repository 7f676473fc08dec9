use Rattle.std.proofs.Common.{◌≡◌, ◌++◌, drop}
use Rattle.std.specs.List.{flat_map}
use Rattle.pie_value.specs.Canonical.{enc_task}
use Rattle.pie_store.specs.Ranks.{IsStored}
use Rattle.pie_record.proofs.Writing.{AllBelow}
use Rattle.pie_store.proofs.writer.put_all_tasks.Given as goal

abbrev pub invariant-loop-task : goal.invariant-loop-task
invariant-loop-task l =
    (l.out.items ++ flat_map enc_task (drop l.task-index l.tasks) ≡ l.fn.out.items ++ flat_map enc_task l.tasks)
    × AllBelow IsStored l.tasks l.task-index
