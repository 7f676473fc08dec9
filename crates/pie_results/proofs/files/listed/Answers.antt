use Rattle.pie_results.proofs.FileLemmas.{in_path_order}
use Rattle.pie_results.proofs.files.listed.Goals as goal

pub returns-clause-order : goal.returns-clause-order
returns-clause-order c = in_path_order c.args.files c.in_ok-list.list.items c.len-count.ensures.ordered c.requires c.in_ok-list.ensures
