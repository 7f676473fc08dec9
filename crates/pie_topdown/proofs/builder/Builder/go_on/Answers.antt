use Rattle.std.proofs.Common.{Ok, sym, subst, refl}
use Rattle.std.specs.Prelude.{IfOk}
use Rattle.pie_files.specs.declared.files.FilesError.{FilesError}
use Rattle.pie_topdown.specs.declared.checking.Place.{Place}
use Rattle.pie_topdown.specs.inner.Offering.{GoesOnSo}
use Rattle.pie_topdown.specs.inner.Places.{IsPlace}
use Rattle.pie_topdown.specs.inner.Trying.{GoesOnTried}
use Rattle.pie_topdown.proofs.Differing.{over_goes, stands_goes, differs_goes, needs_goes}
use Rattle.pie_topdown.proofs.Stepped.{over_tried, stands_tried, differs_tried, needs_tried}
use Rattle.pie_topdown.proofs.builder.Builder.go_on.Goals as goal

pub returns-in_ok-keep-in-Over-clause-right : goal.returns-in_ok-keep-in-Over-clause-right
returns-in_ok-keep-in-Over-clause-right g c =
    let held = g.F.Files.holds c.args.files.now in
    let told = g.O.Offers.told c.args.offers.now in
    let place = subst (IsPlace c.args.self.now.ledger c.args.check.value) c.in-Over.is c.requires.place in
    subst (λ (p : Place). GoesOnSo held told c.args.self.now c.args.check.value p c.keep.new.self c.in_ok-keep-in-Over.field-0) (sym c.in-Over.is)
    (over_goes {E = FilesError} held told c.args.self.now c.keep.new.self c.args.check.value (Ok c.in_ok-keep-in-Over.field-0) place.0
    c.in_ok-keep-in-Over.ensures.right)

pub returns-in-Stands-clause-right : goal.returns-in-Stands-clause-right
returns-in-Stands-clause-right g c =
    let held = g.F.Files.holds c.args.files.now in
    let told = g.O.Offers.told c.args.offers.now in
    subst (λ (p : Place). GoesOnSo held told c.args.self.now c.args.check.value p c.args.self.now c.pass.result) (sym c.in-Stands.is)
    (stands_goes held told c.args.self.now c.args.check.value c.pass.result c.pass.ensures.right)

pub returns-in-Differs-clause-right : goal.returns-in-Differs-clause-right
returns-in-Differs-clause-right g c =
    let held = g.F.Files.holds c.args.files.now in
    let told = g.O.Offers.told c.args.offers.now in
    let place = subst (IsPlace c.args.self.now.ledger c.args.check.value) c.in-Differs.is c.requires.place in
    subst (λ (p : Place). IfOk c.differs.result (GoesOnSo held told c.args.self.now c.args.check.value p c.differs.new.self)) (sym c.in-Differs.is)
    (differs_goes held told c.args.self.now c.differs.new.self c.args.check.value c.differs.result c.requires.site place c.differs.ensures.right)

pub returns-in-Needs-clause-right : goal.returns-in-Needs-clause-right
returns-in-Needs-clause-right g c =
    let held = g.F.Files.holds c.args.files.now in
    let told = g.O.Offers.told c.args.offers.now in
    let place = subst (IsPlace c.args.self.now.ledger c.args.check.value) c.in-Needs.is c.requires.place in
    subst (λ (p : Place). IfOk c.descend.result (GoesOnSo held told c.args.self.now c.args.check.value p c.descend.new.self)) (sym c.in-Needs.is)
    (needs_goes held told c.args.self.now c.descend.new.self c.args.check.value c.in-Needs.task c.descend.result place.0 c.descend.ensures.right)

pub returns-in_ok-keep-in-Over-clause-own : goal.returns-in_ok-keep-in-Over-clause-own
returns-in_ok-keep-in-Over-clause-own g c = λ o own this. c.in_ok-keep-in-Over.ensures.own this own

pub returns-in-Stands-clause-own : goal.returns-in-Stands-clause-own
returns-in-Stands-clause-own g c = λ o own this. record { stack = own; turn = c.pass.ensures.own this; reused = refl }

pub returns-in_ok-keep-in-Over-clause-tried : goal.returns-in_ok-keep-in-Over-clause-tried
returns-in_ok-keep-in-Over-clause-tried g c =
    let held = g.F.Files.holds c.args.files.now in
    let told = g.O.Offers.told c.args.offers.now in
    let place = subst (IsPlace c.args.self.now.ledger c.args.check.value) c.in-Over.is c.requires.place in
    subst (λ (p : Place). GoesOnTried held told c.args.self.now c.args.check.value p c.keep.new.self c.args.runs.now c.args.runs.now
    c.in_ok-keep-in-Over.field-0) (sym c.in-Over.is)
    (over_tried {E = FilesError} held told c.args.self.now c.keep.new.self c.args.check.value c.args.runs.now c.args.runs.now
    (Ok c.in_ok-keep-in-Over.field-0) place.0 refl c.in_ok-keep-in-Over.ensures.tried)

pub returns-in-Stands-clause-tried : goal.returns-in-Stands-clause-tried
returns-in-Stands-clause-tried g c =
    let held = g.F.Files.holds c.args.files.now in
    let told = g.O.Offers.told c.args.offers.now in
    subst (λ (p : Place). GoesOnTried held told c.args.self.now c.args.check.value p c.args.self.now c.args.runs.now c.args.runs.now c.pass.result)
    (sym c.in-Stands.is) (stands_tried held told c.args.self.now c.args.check.value c.args.runs.now c.pass.result c.pass.ensures.tried)

pub returns-in-Differs-clause-tried : goal.returns-in-Differs-clause-tried
returns-in-Differs-clause-tried g c =
    let held = g.F.Files.holds c.args.files.now in
    let told = g.O.Offers.told c.args.offers.now in
    let place = subst (IsPlace c.args.self.now.ledger c.args.check.value) c.in-Differs.is c.requires.place in
    subst (λ (p : Place). IfOk c.differs.result (GoesOnTried held told c.args.self.now c.args.check.value p c.differs.new.self c.args.runs.now
    c.differs.new.runs)) (sym c.in-Differs.is)
    (differs_tried held told c.args.self.now c.differs.new.self c.args.check.value c.args.runs.now c.differs.new.runs c.differs.result c.requires.site place
    c.differs.ensures.tried)

pub returns-in-Needs-clause-tried : goal.returns-in-Needs-clause-tried
returns-in-Needs-clause-tried g c =
    let held = g.F.Files.holds c.args.files.now in
    let told = g.O.Offers.told c.args.offers.now in
    let place = subst (IsPlace c.args.self.now.ledger c.args.check.value) c.in-Needs.is c.requires.place in
    subst (λ (p : Place). IfOk c.descend.result (GoesOnTried held told c.args.self.now c.args.check.value p c.descend.new.self c.args.runs.now
    c.descend.new.runs)) (sym c.in-Needs.is)
    (needs_tried held told c.args.self.now c.descend.new.self c.args.check.value c.args.runs.now c.descend.new.runs c.descend.result c.in-Needs.task place.0
    c.descend.ensures.tried)
