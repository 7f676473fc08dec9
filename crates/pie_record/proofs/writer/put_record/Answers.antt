use Rattle.std.proofs.Common.{subst}
use Rattle.std.specs.Prelude.{All}
use Rattle.pie_record.specs.Canonical.{IsTrueDep, IsTrueWrite}
use Rattle.pie_record.proofs.writer.put_record.Goals as goal

pub returns-clause-parts : goal.returns-clause-parts
returns-clause-parts c = record {
  task = (c.in_ok-put_task.ensures.name, c.in_ok-put_task.ensures.leaves);
  deps = subst (All IsTrueDep) c.as_slice.ensures c.in_ok-put_deps.ensures.parts;
  writes = subst (All IsTrueWrite) c.as_slice-2.ensures c.in_ok-put_writes.ensures.parts;
  outcome = c.in_ok-put_outcome.ensures.parts;
}
