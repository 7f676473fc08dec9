use Rattle.pie_store.proofs.Unchanged.{nothing_happens}
use Rattle.test_topdown.proofs.offers.SwappedOffers.offers.Goals as goal

pub returns-in_err-swapped-clause-crash : goal.returns-in_err-swapped-clause-crash
returns-in_err-swapped-clause-crash g c = nothing_happens g.F.Files.holds g.F.Files.moment g.F.Files.left_since g.F.Files.images c.args._files.now

pub returns-clause-crash : goal.returns-clause-crash
returns-clause-crash g c = nothing_happens g.F.Files.holds g.F.Files.moment g.F.Files.left_since g.F.Files.images c.args._files.now
