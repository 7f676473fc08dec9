use Rattle.pie_auto.proofs.Keeping.{stands_if}
use Rattle.pie_auto.proofs.manifest.stands.Goals as goal

pub returns-in-Some-clause-there : goal.returns-in-Some-clause-there
returns-in-Some-clause-there g c =
    stands_if c.in_ok-marker.marker c.in_ok-place.place c.args.text.now c.as_slice.result.now c.in_ok-exists.field-0 c.eq.result c.in_ok-found.field-0
    c.in-Some.found c.in_ok-marker.ensures c.in_ok-place.ensures c.in-Some.is c.if-branch.false c.as_slice.ensures.value c.eq.ensures
    (g.F.Files.holds c.args.files.now) (g.F.Files.holds c.exists.new.self) c.in_ok-exists.ensures.same c.in_ok-exists.ensures.found
    c.in_ok-found.ensures.found
