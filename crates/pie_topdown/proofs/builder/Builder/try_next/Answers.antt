use Rattle.std.proofs.Common.{subst}
use Rattle.pie_topdown.specs.inner.Offering.{Takes}
use Rattle.pie_topdown.proofs.Tried.{check_tries, start_tries}
use Rattle.pie_topdown.proofs.Owning.{nothing_taken}
use Rattle.pie_topdown.proofs.Marking.{one_marks}
use Rattle.pie_topdown.proofs.Trying.{check_tried, start_tried}
use Rattle.pie_topdown.proofs.builder.Builder.try_next.Goals as goal

pub returns-in-Some-clause-right : goal.returns-in-Some-clause-right
returns-in-Some-clause-right c =
    check_tries c.args.self.now c.args.self.now c.args.no.0 c.args.code.now c.args.rest.items c.next_fitting.new.rest.items c.in-Some.offer c.check_offer.result
    c.requires.offers (subst (Takes c.args.self.now c.args.no.0 c.args.rest.items c.next_fitting.new.rest.items) c.in-Some.is c.in_ok-offer.ensures.takes)
    c.check_offer.ensures.right

pub returns-clause-right : goal.returns-clause-right
returns-clause-right c =
    start_tries c.args.self.now c.start.new.self c.args.no.0 c.args.code.now c.args.rest.items c.start.result c.start.ensures.right

pub returns-in-Some-clause-own : goal.returns-in-Some-clause-own
returns-in-Some-clause-own c =
    nothing_taken c.args.self.now c.args.no.0 c.args.rest.items c.next_fitting.new.rest.items c.in-Some.offer
    (subst (Takes c.args.self.now c.args.no.0 c.args.rest.items c.next_fitting.new.rest.items) c.in-Some.is c.in_ok-offer.ensures.takes)

pub returns-clause-own : goal.returns-clause-own
returns-clause-own c = λ none. c.start.ensures.own

pub returns-in-Some-clause-tried : goal.returns-in-Some-clause-tried
returns-in-Some-clause-tried c =
    check_tried c.args.self.now c.args.no.0 c.args.rest.items c.next_fitting.new.rest.items c.in-Some.offer c.args.runs.now c.check_offer.result
    (subst (Takes c.args.self.now c.args.no.0 c.args.rest.items c.next_fitting.new.rest.items) c.in-Some.is c.in_ok-offer.ensures.takes)
    c.check_offer.ensures.tried

pub returns-clause-tried : goal.returns-clause-tried
returns-clause-tried c =
    start_tried c.args.self.now c.start.new.self c.args.no.0 c.args.rest.items c.next_fitting.new.rest.items c.args.runs.now c.start.new.runs c.start.result
    (subst (Takes c.args.self.now c.args.no.0 c.args.rest.items c.next_fitting.new.rest.items) c.in-None.is c.in_ok-offer.ensures.takes)
    c.start.ensures.marks c.start.ensures.tried

pub returns-clause-marks : goal.returns-clause-marks
returns-clause-marks c =
    one_marks c.args.self.now c.start.new.self c.args.no.0 c.args.runs.now c.start.new.runs c.start.result c.start.ensures.marks
