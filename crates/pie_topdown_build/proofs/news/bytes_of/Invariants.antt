use Rattle.std.proofs.Common.{◌≡◌, drop, map}
use Rattle.std.specs.BTreeSet.{insert_key}
use Rattle.std.specs.List.{fold}
use Rattle.pie_store.specs.Pending.{in_order}
use Rattle.pie_value.specs.Canonical.{enc_task}
use Rattle.pie_value.specs.Order.{byte_order}
use Rattle.pie_topdown_build.specs.inner.News.{keys_in}
use Rattle.pie_topdown_build.proofs.news.bytes_of.Given as goal

-- the bytes of the tasks that are left, put to those that are held, are all
abbrev pub invariant-loop-task : goal.invariant-loop-task
invariant-loop-task l = fold (insert_key byte_order) (keys_in l.found.keys) (map enc_task (drop l.task-index l.tasks)) ≡ in_order (map enc_task l.tasks)
