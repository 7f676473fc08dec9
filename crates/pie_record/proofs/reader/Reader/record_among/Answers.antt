use Rattle.std.proofs.Common.{subst}
use Rattle.pie_record.specs.Canonical.{IsCanonicalRecord}
use Rattle.pie_record.proofs.reader.Reader.record_among.Goals as goal

pub returns-in-Ok-clause-canonical : goal.returns-in-Ok-clause-canonical
returns-in-Ok-clause-canonical c = subst (IsCanonicalRecord c.in-Ok.rec) c.in-Ok.ensures.canonical.bytes c.in-Ok.ensures.canonical
