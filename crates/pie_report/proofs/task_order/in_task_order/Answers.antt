use Rattle.std.proofs.Common.{map, ◌∙◌, ap}
use Rattle.std.proofs.lemmas.Result.{IfOk-weaker}
use Rattle.pie_report.proofs.Sorting.{in_order}
use Rattle.pie_report.proofs.task_order.in_task_order.Goals as goal

pub returns : goal.returns
returns c =
    IfOk-weaker c.without_keys.result _ _
    (λ tasks are. in_order c.args.tasks.now c.in_ok-keyed.keyed.items c.sort_by_key.new.keyed.items tasks.items c.in_ok-keyed.ensures
    c.in_ok-sort_by_key.ensures (are ∙ ap (map (λ k. k.1)) c.as_slice.ensures.value))
    c.without_keys.ensures
