use Rattle.std.proofs.Common.{Ok, sym, ap, subst, ◌∙◌}
use Rattle.std.specs.Prelude.{IfOk}
use Rattle.pie_files.specs.declared.files.FilesError.{FilesError}
use Rattle.pie_topdown.specs.declared.hand.Check.{Check}
use Rattle.pie_topdown.specs.inner.Marks.{Marks}
use Rattle.pie_topdown.specs.inner.Offering.{OffersOrRuns, TriesSo}
use Rattle.pie_topdown.proofs.Differing.{unasked_differs, asked_differs}
use Rattle.pie_topdown.specs.inner.Trying.{TriesFrom, TriesOffers}
use Rattle.pie_topdown.proofs.Owning.{begins_checks}
use Rattle.pie_topdown.proofs.Trying.{asked_tried, unasked_tried}
use Rattle.pie_topdown.specs.inner.Unoffered.{HasNoOffers}
use Rattle.pie_topdown.proofs.builder.Builder.differs.Goals as goal

pub returns-in-Unasked-clause-right : goal.returns-in-Unasked-clause-right
returns-in-Unasked-clause-right g c =
    let held = g.F.Files.holds c.args.files.now in
    let told = g.O.Offers.told c.args.offers.now in
    unasked_differs held told c.args.self.now c.ask.new.self c.args.check.value c.ask.result
    (subst (λ (x : Check). IfOk c.ask.result (OffersOrRuns held told c.args.self.now x.no.0 x.code.now c.ask.new.self)) c.into_inner-rest.ensures c.ask.ensures.right)

pub returns-in_ok-try_next-in-Asked-clause-right : goal.returns-in_ok-try_next-in-Asked-clause-right
returns-in_ok-try_next-in-Asked-clause-right g c =
    asked_differs {E = FilesError} (g.F.Files.holds c.args.files.now) (g.O.Offers.told c.args.offers.now) c.args.self.now c.try_next.new.self c.args.check.value
    c.in-Asked.rest (Ok c.in_ok-try_next-in-Asked.field-0) (ap (λ (x : Check). x.rest) (sym c.into_inner-rest.ensures) ∙ c.in-Asked.is)
    (subst (λ (x : Check). TriesSo c.args.self.now x.no.0 x.code.now c.in-Asked.rest.items c.try_next.new.self c.in_ok-try_next-in-Asked.field-0)
    c.into_inner-rest.ensures c.in_ok-try_next-in-Asked.ensures.right)

pub returns-in-Unasked-clause-own : goal.returns-in-Unasked-clause-own
returns-in-Unasked-clause-own g c =
    begins_checks (g.F.Files.holds c.args.files.now) (g.O.Offers.told c.args.offers.now) c.args.self.now c.ask.new.self c.ask.result c.args.check.value
    c.ask.ensures.own

pub returns-in_ok-try_next-in-Asked-clause-own : goal.returns-in_ok-try_next-in-Asked-clause-own
returns-in_ok-try_next-in-Asked-clause-own g c = λ o own this.
    c.in_ok-try_next-in-Asked.ensures.own
    (subst HasNoOffers (ap (λ (x : Check). x.rest) (sym c.into_inner-rest.ensures) ∙ c.in-Asked.is) this.rest) own

pub returns-in-Unasked-clause-tried : goal.returns-in-Unasked-clause-tried
returns-in-Unasked-clause-tried g c =
    let held = g.F.Files.holds c.args.files.now in
    let told = g.O.Offers.told c.args.offers.now in
    unasked_tried held told c.args.self.now c.ask.new.self c.args.check.value c.args.runs.now c.ask.new.runs c.ask.result
    (subst (λ (x : Check). IfOk c.ask.result (TriesFrom held told c.args.self.now x.no.0 c.ask.new.self c.args.runs.now c.ask.new.runs))
    c.into_inner-rest.ensures c.ask.ensures.tried)

pub returns-in_ok-try_next-in-Asked-clause-tried : goal.returns-in_ok-try_next-in-Asked-clause-tried
returns-in_ok-try_next-in-Asked-clause-tried g c =
    asked_tried {E = FilesError} (g.F.Files.holds c.args.files.now) (g.O.Offers.told c.args.offers.now) c.args.self.now c.try_next.new.self c.args.check.value
    c.in-Asked.rest c.args.runs.now c.try_next.new.runs (Ok c.in_ok-try_next-in-Asked.field-0)
    (ap (λ (x : Check). x.rest) (sym c.into_inner-rest.ensures) ∙ c.in-Asked.is) c.requires.check.named
    (subst (λ (x : Check). TriesOffers c.args.self.now x.no.0 c.in-Asked.rest.items c.try_next.new.self c.args.runs.now c.try_next.new.runs
    c.in_ok-try_next-in-Asked.field-0) c.into_inner-rest.ensures c.in_ok-try_next-in-Asked.ensures.tried)

pub returns-in_ok-try_next-in-Asked-clause-marks : goal.returns-in_ok-try_next-in-Asked-clause-marks
returns-in_ok-try_next-in-Asked-clause-marks g c =
    subst (λ (x : Check). Marks c.args.self.now x.no.0 c.try_next.new.self c.args.runs.now c.try_next.new.runs)
    c.into_inner-rest.ensures c.in_ok-try_next-in-Asked.ensures.marks
