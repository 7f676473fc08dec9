use Rattle.std.proofs.Common.{ap, ◌∙◌}
use Rattle.pie_graph.specs.Numbers.{numbers}
use Rattle.pie_topdown.proofs.Checked.{begins_with}
use Rattle.pie_topdown.proofs.builder.Builder.check_of.Goals as goal

pub returns-clause-right : goal.returns-clause-right
returns-clause-right c =
    let e = c.in_ok-check.ensures.ok in
    begins_with c.args.self.now c.args.no.0 c.args.code.now c.args.rec.value c.args.contents c.args.rest c.in_ok-check.check.value (ap (λ x. x.no.0) e)
    (ap (λ x. x.code.now) e) (ap (λ x. x.rec) e ∙ c.into_inner.ensures) (ap (λ x. x.contents) e) (ap (λ x. x.rest) e) (ap (λ x. x.at) e) (ap (λ x. numbers x.required.items) e ∙ ap numbers c.new.ensures.items)
    c.requires.named
