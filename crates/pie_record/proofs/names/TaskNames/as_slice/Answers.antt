use Rattle.std.proofs.Common.{List, subst}
use Rattle.std.specs.Prelude.{All}
use Rattle.pie_value.specs.declared.task.Task.{Task}
use Rattle.pie_value.specs.Canonical.{enc_task, IsCanonicalTask}
use Rattle.pie_record.proofs.names.TaskNames.as_slice.Goals as goal

pub returns-clause-canonical : goal.returns-clause-canonical
returns-clause-canonical c = subst (λ (ts : List Task). All (λ t. IsCanonicalTask t (enc_task t)) ts) c.self.view_is c.self.invariant.canonical
