use Rattle.std.proofs.Common.{subst}
use Rattle.pie_value.specs.Canonical.{IsCanonicalTask}
use Rattle.pie_record.proofs.reader.Reader.task.Goals as goal

pub returns-in-Ok-clause-canonical : goal.returns-in-Ok-clause-canonical
returns-in-Ok-clause-canonical c = subst (IsCanonicalTask c.in-Ok.task) c.in-Ok.ensures.canonical.bytes c.in-Ok.ensures.canonical
