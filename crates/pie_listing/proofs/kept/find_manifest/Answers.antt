use Rattle.std.proofs.Common.{subst}
use Rattle.pie_listing.specs.inner.Steps.{IsRead}
use Rattle.pie_listing.proofs.Following.{kept_if}
use Rattle.pie_listing.proofs.kept.find_manifest.Goals as goal

pub returns-in-Some-clause-kept : goal.returns-in-Some-clause-kept
returns-in-Some-clause-kept g c =
    kept_if (g.F.Files.holds c.args.files.now) c.in_ok-path.path c.in_ok-found.field-0 c.in-Some.found c.in_ok-kept-in-Some.kept c.in_ok-path.ensures
    c.in-Some.is c.in_ok-found.ensures.found
    (subst (λ l. IsRead l c.in_ok-kept-in-Some.kept) c.as_slice.ensures.value c.in_ok-kept-in-Some.ensures.read)
