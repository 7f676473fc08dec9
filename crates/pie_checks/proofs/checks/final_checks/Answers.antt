use Rattle.std.proofs.Common.{List, subst}
use Rattle.pie_graph.specs.Numbers.{numbers}
use Rattle.pie_value.specs.declared.task.Task.{Task}
use Rattle.pie_checks.specs.Records.{Wrote, Missed}
use Rattle.pie_checks.specs.Refusals.{FindsFirst}
use Rattle.pie_checks.proofs.checks.final_checks.Goals as goal

pub returns : goal.returns
returns c =
    let live = numbers c.args.live.now in
    subst (λ (ts : List Task). FindsFirst (Wrote ts c.args.records.now live) (Missed ts c.args.records.now live) c.in_ok-found.found)
    c.as_slice.ensures.tasks c.in_ok-found.ensures
