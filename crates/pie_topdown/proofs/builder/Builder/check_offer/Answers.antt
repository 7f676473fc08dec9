use Rattle.std.proofs.Common.{Some, ap, subst, ◌∙◌}
use Rattle.pie_record.specs.declared.task_record.TaskRecord.{TaskRecord}
use Rattle.pie_store.specs.declared.offers.Offer.{Offer}
use Rattle.pie_topdown.specs.declared.hand.Rest.TheVariants as rests
use Rattle.pie_topdown.specs.inner.Right.{BeginsCheck}
use Rattle.pie_topdown.proofs.Tried.{offer_checks}
use Rattle.pie_topdown.proofs.Trying.{offer_tried}
use Rattle.pie_topdown.proofs.builder.Builder.check_offer.Goals as goal

pub returns-clause-right : goal.returns-clause-right
returns-clause-right c =
    offer_checks c.args.self.now c.args.no.0 c.args.code.now c.args.offer.value c.args.rest c.in_ok-check.check c.requires.offer.named
    (subst (λ (o : Offer). BeginsCheck c.args.self.now c.args.no.0 c.args.code.now o.row (Some o.contents) (rests.Asked c.args.rest) c.in_ok-check.check.value)
    c.into_inner-row.ensures
    (subst (λ (r : TaskRecord). BeginsCheck c.args.self.now c.args.no.0 c.args.code.now r (Some c.into_inner-row.result.contents) (rests.Asked c.args.rest)
    c.in_ok-check.check.value) c.in_ok-rec.ensures.ok c.in_ok-check.ensures.right))

pub returns-clause-tried : goal.returns-clause-tried
returns-clause-tried c =
    offer_tried c.args.self.now c.args.no.0 c.args.offer.value c.args.rest c.in_ok-check.check
    (c.in_ok-check.ensures.parts.2 ∙ c.in_ok-rec.ensures.ok ∙ ap (λ (o : Offer). o.row) c.into_inner-row.ensures)
    (c.in_ok-check.ensures.parts.0 ∙ ap (λ (o : Offer). Some o.contents) c.into_inner-row.ensures) c.in_ok-check.ensures.parts.1
