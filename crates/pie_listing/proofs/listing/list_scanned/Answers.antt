use Rattle.std.proofs.Common.{sym, subst}
use Rattle.std.specs.Prelude.{IfSome}
use Rattle.pie_listing.specs.Listings.{IsListing}
use Rattle.pie_listing.proofs.Following.{bad_if}
use Rattle.pie_listing.proofs.listing.list_scanned.Goals as goal

pub returns-in-Bad-clause-found : goal.returns-in-Bad-clause-found
returns-in-Bad-clause-found g c =
    subst (λ l. IfSome (g.F.Files.holds c.args.files.now) (λ d. IsListing d c.args.tops.now l)) (sym c.unlisted.ensures.listing)
    (bad_if (g.F.Files.holds c.args.files.now) c.args.tops.now c.in_ok-manifest.field-0 c.in-Bad.reason c.in-Bad.is c.in_ok-manifest.ensures.kept)
