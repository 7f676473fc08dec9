use Rattle.std.proofs.Common.{Some, sym, ap, ◌∙◌}
use Rattle.pie_topdown.proofs.Failing.{fails_if}
use Rattle.pie_topdown.proofs.builder.Builder.fail.Goals as goal

pub returns-clause-right : goal.returns-clause-right
returns-clause-right c =
    fails_if c.args.self.now c.fail_as.new.self c.args.no.0 c.in_ok-task.task c.args.kind c.fail_as.result (c.task.ensures ∙ ap Some (sym c.in_ok-task.ensures))
    c.fail_as.ensures.fails
