-- What running gives, of a tree and of code alike: a value, a fault, or an effect that waits for an answer.
use Rattle.std.specs.Prelude.{ℕ, ◌+◌, Bool, cond, nat_lt, List, [], ◌∷◌, ◌++◌, Ok, Err}
use Rattle.std.specs.List.{list_any}
use Rattle.pie_base.specs.declared.fault.FaultKind.{FaultKind}
use Rattle.pie_base.specs.declared.fault.FaultKind.TheVariants.{Budget}
use Rattle.pie_value.specs.declared.event.Event.{Event}
use Rattle.pie_value.specs.declared.event.Answer.{Answer}
use Rattle.pie_value.specs.Tree.{Tree}
use Rattle.pie_value.specs.BuiltinForms.{Answered}
use Rattle.pie_value.specs.BuiltinTexts.{same_bytes}

-- what running gave: a value, a fault, or the first effect that no answer is left for
pub data Outcome (A : Type 0) : Type 0 where
  done : A → Outcome A
  fails : FaultKind → Outcome A
  wants : Event → Outcome A

-- the answers that are left, the paths observed and written so far, and the ticks counted so far
pub record State : Type 0 where
  pub answers : List Answer
  pub seen : List (List ℕ)
  pub wrote : List (List ℕ)
  pub ticks : ℕ

-- nothing is observed, written or counted yet
abbrev pub at_start : List Answer → State
at_start answers = record { answers = answers; seen = []; wrote = []; ticks = 0 }

-- what running does: from a state to an outcome and the state then
abbrev pub Act : Type 0 → Type 0
Act A = State → Outcome A × State

-- a value, and nothing else happens
abbrev pub give : {A : Type 0} → A → Act A
give a s = (done a, s)

-- a fault
abbrev pub fault : {A : Type 0} → FaultKind → Act A
fault k s = (fails k, s)

-- what goes on with a value, where there is one
abbrev pub pass : {A B : Type 0} → Outcome A × State → (A → Act B) → Outcome B × State
pass (done a, s) go = go a s
pass (fails k, s) go = (fails k, s)
pass (wants e, s) go = (wants e, s)

-- one thing after another
abbrev pub then_do : {A B : Type 0} → Act A → (A → Act B) → Act B
then_do m go s = pass (m s) go

-- one tick, and then more; the tick after the 1,000,000th is the fault Budget
abbrev pub ticked : {A : Type 0} → Act A → Act A
ticked m s = cond (nat_lt s.ticks 1000000) (m (record s { ticks = s.ticks + 1 })) (fails Budget, s)

-- the answer of an operator or of a built-in function
abbrev pub by_answer : Answered → Act Tree
by_answer (Ok t) = give t
by_answer (Err k) = fault k

-- a path is among some
abbrev pub holds : List (List ℕ) → List ℕ → Bool
holds paths p = list_any (same_bytes p) paths

-- some paths and one more behind them, unless it is among them
abbrev pub with_path : List (List ℕ) → List ℕ → List (List ℕ)
with_path paths p = cond (holds paths p) paths (paths ++ p ∷ [])
