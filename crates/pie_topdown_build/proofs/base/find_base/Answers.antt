use Rattle.pie_topdown_build.proofs.Starting.{interrupted_only, none_only, none_starts, stored_only, stored_starts}
use Rattle.pie_topdown_build.proofs.base.find_base.Goals as goal

pub returns-in-Some-clause-starts : goal.returns-in-Some-clause-starts
returns-in-Some-clause-starts g c =
    stored_starts (g.F.Files.holds c.args.files.now) (g.F.Files.holds c.exists.new.self) c.in_ok-marker.marker c.in_ok-place.place c.in_ok-exists.field-0
    c.in_ok-found.field-0 c.in_ok-marker.ensures c.if-branch.false c.in_ok-exists.ensures.found c.in_ok-exists.ensures.same c.in_ok-place.ensures
    c.in_ok-found.ensures.found c.in-Some.found c.in_ok-with_store-in-Some.field-0 c.in-Some.is c.in_ok-with_store-in-Some.ensures.starts

pub returns-clause-starts : goal.returns-clause-starts
returns-clause-starts g c =
    none_starts (g.F.Files.holds c.args.files.now) (g.F.Files.holds c.exists.new.self) c.in_ok-marker.marker c.in_ok-place.place c.in_ok-exists.field-0
    c.in_ok-found.field-0 c.in_ok-marker.ensures c.if-branch.false c.in_ok-exists.ensures.found c.in_ok-exists.ensures.same c.in_ok-place.ensures
    c.in_ok-found.ensures.found c.in-None.is

pub returns-then-branch-clause-only : goal.returns-then-branch-clause-only
returns-then-branch-clause-only g c =
    interrupted_only (g.F.Files.holds c.args.files.now) c.in_ok-marker.marker c.in_ok-exists.field-0 c.in_ok-marker.ensures c.if-branch.true
    c.in_ok-exists.ensures.found

pub returns-in-Some-clause-only : goal.returns-in-Some-clause-only
returns-in-Some-clause-only g c =
    stored_only (g.F.Files.holds c.args.files.now) (g.F.Files.holds c.exists.new.self) c.in_ok-marker.marker c.in_ok-place.place c.in_ok-exists.field-0
    c.in_ok-found.field-0 c.in_ok-marker.ensures c.if-branch.false c.in_ok-exists.ensures.found c.in_ok-exists.ensures.same c.in_ok-place.ensures
    c.in_ok-found.ensures.found c.in-Some.found c.in_ok-with_store-in-Some.field-0 c.in-Some.is c.in_ok-with_store-in-Some.ensures.only

pub returns-clause-only : goal.returns-clause-only
returns-clause-only g c =
    none_only (g.F.Files.holds c.args.files.now) (g.F.Files.holds c.exists.new.self) c.in_ok-marker.marker c.in_ok-place.place c.in_ok-exists.field-0
    c.in_ok-found.field-0 c.in_ok-marker.ensures c.if-branch.false c.in_ok-exists.ensures.found c.in_ok-exists.ensures.same c.in_ok-place.ensures
    c.in_ok-found.ensures.found c.in-None.is
