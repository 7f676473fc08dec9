use Rattle.std.proofs.Common.{Option, refl, sym, subst, ◌∙◌}
use Rattle.std.specs.Prelude.{IfSome, codes}
use Rattle.pie_files.specs.Directory.{Directory}
use Rattle.pie_incremental.specs.Starts.{HasStore}
use Rattle.pie_incremental.specs.inner.Asked.{IsProjectFile}
use Rattle.pie_incremental.proofs.Asking.{looks_own, looks_then}
use Rattle.pie_incremental.proofs.Beginning.{has_store, no_store}
use Rattle.pie_incremental.proofs.begin.find_start.Goals as goal

pub returns-in-Some-clause-asks : goal.returns-in-Some-clause-asks
returns-in-Some-clause-asks g c =
    let asked = g.F.Files.asked in
    let faults = g.F.Files.faults in
    looks_then IsProjectFile (asked c.args.files.now) (asked c.exists.new.self) (asked c.with_store.new.files)
    (looks_own asked faults c.in_ok-marker.marker (codes ".pie/open") c.args.files.now c.exists.new.self c.exists.result c.in_ok-marker.ensures refl
    c.exists.ensures.called)
    (looks_then IsProjectFile (asked c.exists.new.self) (asked c.read.new.self) (asked c.with_store.new.files)
    (looks_own asked faults c.in_ok-place.place (codes ".pie/store") c.exists.new.self c.read.new.self c.read.result c.in_ok-place.ensures refl
    c.read.ensures.called) c.with_store.ensures.asks)

pub returns-in_err-found-clause-asks : goal.returns-in_err-found-clause-asks
returns-in_err-found-clause-asks g c =
    let asked = g.F.Files.asked in
    let faults = g.F.Files.faults in
    looks_then IsProjectFile (asked c.args.files.now) (asked c.exists.new.self) (asked c.read.new.self)
    (looks_own asked faults c.in_ok-marker.marker (codes ".pie/open") c.args.files.now c.exists.new.self c.exists.result c.in_ok-marker.ensures refl
    c.exists.ensures.called)
    (looks_own asked faults c.in_ok-place.place (codes ".pie/store") c.exists.new.self c.read.new.self c.read.result c.in_ok-place.ensures refl
    c.read.ensures.called)

pub returns-clause-asks : goal.returns-clause-asks
returns-clause-asks g c =
    let asked = g.F.Files.asked in
    let faults = g.F.Files.faults in
    looks_then IsProjectFile (asked c.args.files.now) (asked c.exists.new.self) (asked c.read.new.self)
    (looks_own asked faults c.in_ok-marker.marker (codes ".pie/open") c.args.files.now c.exists.new.self c.exists.result c.in_ok-marker.ensures refl
    c.exists.ensures.called)
    (looks_own asked faults c.in_ok-place.place (codes ".pie/store") c.exists.new.self c.read.new.self c.read.result c.in_ok-place.ensures refl
    c.read.ensures.called)

pub with_store-requires : goal.with_store-requires
with_store-requires g c =
    subst (λ (h : Option Directory). IfSome h (λ d. HasStore d c.in-Some.found.bytes.items)) (sym (c.in_ok-found.ensures.same ∙ c.in_ok-exists.ensures.same))
    (has_store (g.F.Files.holds c.args.files.now) (g.F.Files.holds c.exists.new.self) c.in_ok-marker.marker c.in_ok-place.place c.in_ok-exists.field-0
    c.in_ok-found.field-0 c.in_ok-marker.ensures c.if-branch.false c.in_ok-exists.ensures.found c.in_ok-exists.ensures.same c.in_ok-place.ensures
    c.in_ok-found.ensures.found c.in-Some.found c.in-Some.is)

pub returns-clause-starts : goal.returns-clause-starts
returns-clause-starts g c =
    no_store (g.F.Files.holds c.args.files.now) (g.F.Files.holds c.exists.new.self) c.in_ok-marker.marker c.in_ok-place.place c.in_ok-exists.field-0
    c.in_ok-found.field-0 c.in_ok-marker.ensures c.if-branch.false c.in_ok-exists.ensures.found c.in_ok-exists.ensures.same c.in_ok-place.ensures
    c.in_ok-found.ensures.found c.in-None.is
