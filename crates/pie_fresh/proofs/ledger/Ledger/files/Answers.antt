use Rattle.std.proofs.Common.{arith}
use Rattle.pie_fresh.proofs.FileLemmas.{files_are}
use Rattle.pie_fresh.proofs.ledger.Ledger.files.Goals as goal

pub returns-clause-files : goal.returns-clause-files
returns-clause-files c =
    files_are c.args.self.now c.loop-n.n c.loop-n.files c.in_ok-list.list.items c.requires (omega arith) c.listed.ensures.ordered c.in_ok-list.ensures.entries
    c.loop-n.invariant.of_tasks c.loop-n.invariant.all
