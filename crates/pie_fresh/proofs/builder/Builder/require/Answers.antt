use Rattle.std.proofs.Common.{sym, subst, ◌∙◌}
use Rattle.std.proofs.lemmas.Option.{slice_get_within}
use Rattle.pie_base.specs.declared.fault.FaultKind.TheVariants as faults
use Rattle.pie_record.specs.inner.Names.{Numbers}
use Rattle.pie_fresh.proofs.Telling.{stops_turn}
use Rattle.pie_fresh.proofs.Giving.{require_fails}
use Rattle.pie_fresh.proofs.builder.Builder.require.Goals as goal

pub returns-then-not-is_small-clause-means : goal.returns-then-not-is_small-clause-means
returns-then-not-is_small-clause-means c = λ s A.
    stops_turn s c.args.self.now c.args.waiting faults.Big c.into_task.result c.failed.result c.failed.ensures c.into_task.ensures
    (require_fails s c.args.self.now c.args.waiting c.args.required c.args.how A c.requires.waits.left (sym c.is_small.ensures.limits ∙ c.if-not-is_small.true))

pub answer-requires-clause-number : goal.answer-requires-clause-number
answer-requires-clause-number c =
    slice_get_within c.args.self.now.ledger.names c.in-Some.no.0 c.args.required
    (subst (Numbers c.args.self.now.ledger.names c.args.required) c.in-Some.is c.in_ok-no.ensures)
