use Rattle.pie_store.proofs.Unchanged.{nothing_happens}
use Rattle.test_topdown.proofs.offers.CountingOffers.offers.Goals as goal

pub returns-clause-crash : goal.returns-clause-crash
returns-clause-crash g c = nothing_happens g.F.Files.holds g.F.Files.moment g.F.Files.left_since g.F.Files.images c.args._files.now
