use Rattle.pie_roots.proofs.OneRoot.{only_root}
use Rattle.pie_roots.proofs.root.read_root.Goals as goal

pub returns-clause-only : goal.returns-clause-only
returns-clause-only c = only_root c.args.line.now c.root_in.result c.root_in.ensures
