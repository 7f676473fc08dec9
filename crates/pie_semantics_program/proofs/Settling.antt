-- What an operator answers, and what the evaluation makes of it.
use Rattle.std.proofs.Common.{◌≡◌, Result, Ok, Err, ap}
use Rattle.pie_value.specs.declared.value.Value.{Value}
use Rattle.pie_value.specs.Values.{tree_of}
use Rattle.pie_value.specs.BuiltinForms.{Answered}
use Rattle.pie_operators.specs.declared.fault.OperatorFault.{OperatorFault}
use Rattle.pie_operators.specs.declared.fault.OperatorFault.TheVariants.{Fault, OutOfMemory}
use Rattle.pie_operators.specs.inner.Agreement.{ResultAgrees}
use Rattle.pie_value.specs.Tree.{Tree}
use Rattle.pie_operators.specs.Domain.{Outcome, State, by_answer}
use Rattle.pie_semantics_program.specs.declared.stop.Stop.{Stop}
use Rattle.pie_semantics_program.specs.declared.stop.Stop.TheVariants as stops
use Rattle.pie_semantics_program.specs.declared.function.EvaluatorOutcome.{EvaluatorOutcome as Told}
use Rattle.pie_semantics_program.specs.Coming.{Comes, stopped}
use Rattle.pie_semantics_program.specs.Whole.{outcome_of, IsTold}

-- what an operator gives is what the evaluation gives
pub settled : (x : Result Value OperatorFault) (a : Answered) (s : State) → ResultAgrees x a → Comes tree_of (stopped x) s (by_answer a s)
settled (Ok v) a s h = ap (λ b. by_answer b s) h
settled (Err (Fault k)) a s h = ap (λ b. by_answer b s) h
settled (Err OutOfMemory) a s h = tt

-- what an evaluation gave is told as it is
pub told_so : (r : Result Value Stop) (o : Told) (s : State) (m : Outcome Tree × State) → IsTold r o → Comes tree_of r s m → (outcome_of o, s) ≡ m
told_so (Ok v) o s m h k = cc
told_so (Err (stops.Fault f)) o s m h k = cc
told_so (Err (stops.Wants e)) o s m h k = cc
told_so (Err stops.OutOfMemory) o s m h k = absurd h
