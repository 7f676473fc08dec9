use Rattle.pie_types.specs.Whole.{number_from}
use Rattle.pie_roots.proofs.RootLines.{reads_only}
use Rattle.pie_roots.proofs.list.read_roots.Goals as goal

pub returns-clause-only : goal.returns-clause-only
returns-clause-only c = reads_only (number_from 0 c.args.typed.now) (λ tasks. tasks.items) c.roots_of.result c.args.bytes.now c.roots_of.ensures
