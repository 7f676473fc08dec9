use Rattle.std.proofs.Common.{◌≡◌, [], drop, map}
use Rattle.std.specs.List.{fold}
use Rattle.pie_topdown_build.specs.inner.Reused.{by_key, put_task}
use Rattle.pie_topdown_build.proofs.reusing.by_bytes.Given as goal

-- the tasks that are left, put to those that are held, are all
abbrev pub invariant-loop-task : goal.invariant-loop-task
invariant-loop-task l = fold put_task (map by_key l.keyed.entries) (drop l.task-index l.tasks) ≡ fold put_task [] l.tasks
