use Rattle.pie_listing.proofs.Following.{exactly_if, covering_if}
use Rattle.pie_listing.proofs.listing.list.Goals as goal

pub returns-clause-exactly : goal.returns-clause-exactly
returns-clause-exactly g c = exactly_if (g.F.Files.holds c.args.files.now) c.args.tops.now c.in_ok-found.found.listing c.in_ok-found.ensures.found

pub returns-clause-covers : goal.returns-clause-covers
returns-clause-covers g c = covering_if (g.F.Files.holds c.args.files.now) c.args.tops.now c.in_ok-found.found.listing c.in_ok-found.ensures.found
