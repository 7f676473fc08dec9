-- What the evaluator answers for a function.
use Rattle.std.specs.Prelude.{◌≡◌, Result, Ok, Err}
use Rattle.pie_value.specs.declared.value.Value.{Value}
use Rattle.pie_value.specs.Tree.{Tree}
use Rattle.pie_value.specs.Values.{tree_of}
use Rattle.pie_operators.specs.Domain.{Outcome as OutcomeOf, done, fails, wants}
use Rattle.pie_semantics_program.specs.declared.stop.Stop.{Stop}
use Rattle.pie_semantics_program.specs.declared.stop.Stop.TheVariants as stops
use Rattle.pie_semantics_program.specs.declared.function.EvaluatorOutcome.{EvaluatorOutcome}
use Rattle.pie_semantics_program.specs.declared.function.EvaluatorOutcome.TheVariants as outcomes

-- what a function evaluated to, with its output as a plain tree
abbrev pub outcome_of : EvaluatorOutcome → OutcomeOf Tree
outcome_of (outcomes.Done v) = done (tree_of v)
outcome_of (outcomes.Fails k) = fails k
outcome_of (outcomes.Wants e) = wants e

-- an evaluation gave this
abbrev pub IsTold : Result Value Stop → EvaluatorOutcome → Type 0
IsTold (Ok v) o = o ≡ outcomes.Done v
IsTold (Err (stops.Fault k)) o = o ≡ outcomes.Fails k
IsTold (Err (stops.Wants e)) o = o ≡ outcomes.Wants e
IsTold (Err stops.OutOfMemory) o = ⊥
