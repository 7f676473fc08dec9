-- When what the evaluator gave is what the meaning says.
use Rattle.std.specs.Prelude.{◌≡◌, ◌+◌, Bool, true, false, nat_lt, Result, Ok, Err}
use Rattle.pie_base.specs.declared.fault.FaultKind.TheVariants.{Budget}
use Rattle.pie_value.specs.declared.value.Value.{Value}
use Rattle.pie_operators.specs.declared.fault.OperatorFault.{OperatorFault}
use Rattle.pie_operators.specs.declared.fault.OperatorFault.TheVariants as operators
use Rattle.pie_value.specs.Tree.{Tree, TBool}
use Rattle.pie_operators.specs.Domain.{Outcome, done, fails, wants, State, Act}
use Rattle.pie_semantics.specs.Words.{branch}
use Rattle.pie_semantics_program.specs.declared.stop.Stop.{Stop}
use Rattle.pie_semantics_program.specs.declared.stop.Stop.TheVariants as stops

-- a result and the state then are what running gives; out of memory says nothing
abbrev pub Comes : {A B : Type 0} → (A → B) → Result A Stop → State → Outcome B × State → Type 0
Comes f (Ok a) new o = o ≡ (done (f a), new)
Comes f (Err (stops.Fault k)) new o = o ≡ (fails k, new)
Comes f (Err (stops.Wants e)) new o = o ≡ (wants e, new)
Comes f (Err stops.OutOfMemory) new o = Unit {0}

-- one tick was counted, or there was none left
abbrev pub Ticks : {A : Type 0} → Result A Stop → State → State → Type 0
Ticks (Ok a) old new = (nat_lt old.ticks 1000000 ≡ true) × (new ≡ record old { ticks = old.ticks + 1 })
Ticks (Err (stops.Fault k)) old new = (nat_lt old.ticks 1000000 ≡ false) × ((k ≡ Budget) × (new ≡ old))
Ticks (Err (stops.Wants e)) old new = ⊥
Ticks (Err stops.OutOfMemory) old new = Unit {0}

-- what an operator answered, as what the evaluation gave
abbrev pub stopped : Result Value OperatorFault → Result Value Stop
stopped (Ok v) = Ok v
stopped (Err (operators.Fault k)) = Err (stops.Fault k)
stopped (Err operators.OutOfMemory) = Err stops.OutOfMemory

-- the truth value that a value is, or the fault of a value that is none
abbrev pub IsTruth : Result Bool Stop → Tree → Type 0
IsTruth (Ok b) t = t ≡ TBool b
IsTruth (Err (stops.Fault k)) t = (first other : Act Tree) (s : State) → branch t first other s ≡ (fails k, s)
IsTruth (Err (stops.Wants e)) t = ⊥
IsTruth (Err stops.OutOfMemory) t = Unit {0}

-- a thing as it is
abbrev pub same : {A : Type 0} → A → A
same a = a
