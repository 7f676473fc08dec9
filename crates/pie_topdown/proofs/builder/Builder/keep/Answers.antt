use Rattle.std.proofs.Common.{sym, ap, subst, ◌∙◌}
use Rattle.std.specs.Prelude.{IfOk, OnOk}
use Rattle.pie_graph.specs.Numbers.{numbers}
use Rattle.pie_topdown.specs.declared.hand.Check.{Check}
use Rattle.pie_topdown.specs.inner.Offering.{EndsReused}
use Rattle.pie_topdown.specs.inner.Right.{EndsKept}
use Rattle.pie_topdown.proofs.Kept.{keeps_if}
use Rattle.pie_topdown.specs.inner.Marks.{ReusesOne}
use Rattle.pie_topdown.proofs.Reused.{reuses_if, stands_if}
use Rattle.pie_topdown.proofs.Stepped.{offer_kept, own_kept}
use Rattle.pie_topdown.proofs.Staging.{bytes_in}
use Rattle.pie_topdown.proofs.Owning.{never_offered}
use Rattle.pie_topdown.proofs.builder.Builder.keep.Goals as goal

pub returns-in-Some-clause-right : goal.returns-in-Some-clause-right
returns-in-Some-clause-right c =
    reuses_if c.args.self.now c.keep_offered.new.self c.args.check.value c.in-Some.contents c.keep_offered.result c.requires.stands.site c.requires.stands.hand
    c.requires.over (ap (λ (x : Check). x.contents) (sym c.into_inner-rec.ensures) ∙ c.in-Some.is)
    (subst (λ (x : Check). IfOk c.keep_offered.result (EndsReused c.args.self.now x.no.0 x.rec (numbers x.required.items) (bytes_in c.in-Some.contents.items)
    c.keep_offered.new.self)) c.into_inner-rec.ensures c.keep_offered.ensures.ended)

pub returns-in-None-clause-right : goal.returns-in-None-clause-right
returns-in-None-clause-right c =
    keeps_if c.args.self.now c.keep_own.new.self c.args.check.value c.keep_own.result c.requires.stands.hand c.requires.over
    (ap (λ (x : Check). x.contents) (sym c.into_inner-rec.ensures) ∙ c.in-None.is)
    (subst (λ (x : Check). IfOk c.keep_own.result (EndsKept c.args.self.now x.no.0 x.rec (numbers x.required.items) c.keep_own.new.self)) c.into_inner-rec.ensures
    c.keep_own.ensures.ended)

pub returns-in-Some-clause-own : goal.returns-in-Some-clause-own
returns-in-Some-clause-own c =
    never_offered c.args.check.value c.in-Some.contents (ap (λ (x : Check). x.contents) (sym c.into_inner-rec.ensures) ∙ c.in-Some.is)

pub returns-in-None-clause-own : goal.returns-in-None-clause-own
returns-in-None-clause-own c = λ this. c.keep_own.ensures.own

pub returns-in-Some-clause-tried : goal.returns-in-Some-clause-tried
returns-in-Some-clause-tried c =
    let own = ap (λ (x : Check). x.contents) (sym c.into_inner-rec.ensures) ∙ c.in-Some.is in
    offer_kept c.args.self.now c.keep_offered.new.self c.args.check.value c.in-Some.contents c.keep_offered.result own c.requires.stands.hand.named
    (stands_if c.args.self.now c.keep_offered.new.self c.args.check.value c.in-Some.contents c.keep_offered.result c.requires.stands.site c.requires.stands.hand
    c.requires.over own
    (subst (λ (x : Check). IfOk c.keep_offered.result (EndsReused c.args.self.now x.no.0 x.rec (numbers x.required.items) (bytes_in c.in-Some.contents.items)
    c.keep_offered.new.self)) c.into_inner-rec.ensures c.keep_offered.ensures.ended))
    c.keep_offered.ensures.tried
    (subst (λ (x : Check). OnOk c.keep_offered.result (ReusesOne c.args.self.now x.no.0 c.keep_offered.new.self)) c.into_inner-rec.ensures
    c.keep_offered.ensures.marks)

pub returns-in-None-clause-tried : goal.returns-in-None-clause-tried
returns-in-None-clause-tried c =
    own_kept c.args.self.now c.keep_own.new.self c.args.check.value c.keep_own.result c.keep_own.ensures.tried c.keep_own.ensures.marks
