use Rattle.std.proofs.Common.{subst}
use Rattle.std.specs.Str.{IsUtf8}
use Rattle.pie_store.proofs.InOrder.{path_name}
use Rattle.pie_store.proofs.pending.put_line.Goals as goal

pub returns-clause-name : goal.returns-clause-name
returns-clause-name c = path_name c.args.path.now (subst IsUtf8 c.as_str.ensures.text c.as_str.utf8) c.as_str.ensures.path
