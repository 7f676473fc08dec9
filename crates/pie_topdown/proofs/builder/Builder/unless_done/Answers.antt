use Rattle.std.proofs.Common.{subst, sym, ◌∙◌}
use Rattle.pie_record.specs.inner.Names.{Numbers}
use Rattle.pie_topdown.proofs.Outputs.{never_settled, output_settles}
use Rattle.pie_topdown.proofs.builder.Builder.unless_done.Goals as goal

pub returns-clause-none : goal.returns-clause-none
returns-clause-none c = λ root.
    absurd (never_settled c.args.self.now.ledger c.args.root.now c.in-Some.no.0 c.in_ok-outcome.outcome c.as_slice-names.ensures.distinct
    (subst (Numbers c.args.self.now.ledger.tables.names c.args.root.now) c.in-Some.is c.in_ok-no.ensures) c.in_ok-outcome.ensures.outcome
    (sym c.if-has_output.false ∙ c.has_output.ensures) root)

pub returns-then-has_output-clause-settled : goal.returns-then-has_output-clause-settled
returns-then-has_output-clause-settled c = λ _.
    output_settles c.args.self.now.ledger c.args.root.now c.in-Some.no.0 c.in_ok-outcome.outcome
    (subst (Numbers c.args.self.now.ledger.tables.names c.args.root.now) c.in-Some.is c.in_ok-no.ensures) c.in_ok-outcome.ensures.outcome
    (sym c.if-has_output.true ∙ c.has_output.ensures)
