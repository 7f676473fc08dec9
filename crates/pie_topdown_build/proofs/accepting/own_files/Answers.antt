use Rattle.pie_topdown_build.proofs.Holding.{own_of}
use Rattle.pie_topdown_build.proofs.accepting.own_files.Goals as goal

pub returns-clause-own : goal.returns-clause-own
returns-clause-own g c =
    own_of c.args.store c.own_with.result c.in_ok-pending.pending (g.F.Files.holds c.args.files.now) c.own_with.ensures.store c.own_with.ensures.pending
    c.in_ok-pending.ensures.found
