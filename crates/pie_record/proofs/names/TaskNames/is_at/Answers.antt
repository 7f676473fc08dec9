use Rattle.std.proofs.Common.{subst, All, List}
use Rattle.pie_value.specs.declared.task.Task.{Task}
use Rattle.pie_value.specs.Canonical.{enc_task, IsCanonicalTask}
use Rattle.pie_record.proofs.Naming.{same_as}
use Rattle.pie_record.proofs.names.TaskNames.is_at.Goals as goal

pub returns-in-Equal : goal.returns-in-Equal
returns-in-Equal c = λ _.
    same_as c.args.self.now c.args.no.0 c.task.result.now c.args.task.now
    (subst (λ (ts : List Task). All (λ u. IsCanonicalTask u (enc_task u)) ts) c.self.view_is c.self.invariant.canonical) c.task.ensures c.requires c.cmp.result
    c.cmp.ensures c.in-Equal.is
