-- What a typed part of a function evaluates to: no fault Unknown, and a value of its type.
use Rattle.std.specs.Prelude.{◌≡◌, List, ◌∷◌, ◌++◌}
use Rattle.pie_base.specs.declared.fault.FaultKind.{FaultKind}
use Rattle.pie_base.specs.declared.fault.FaultKind.TheVariants.{Unknown}
use Rattle.pie_value.specs.declared.event.Event.{Event}
use Rattle.pie_value.specs.declared.event.Event.TheVariants as events
use Rattle.pie_value.specs.declared.event.Answer.{Answer}
use Rattle.pie_operators.specs.Domain.{Outcome, done, fails, wants, State, Act}
use Rattle.pie_types.specs.Headings.{Heading}
use Rattle.pie_type_laws.specs.Fitting.{AnswerFits}
use Rattle.pie_type_laws.specs.NeverStuck.{TaskIsTyped}

-- what an effect asks for can be asked for: a required task is typed
abbrev pub EventIsTyped : List Heading → Event → Type 0
EventIsTyped hs (events.Require t how) = TaskIsTyped hs t
EventIsTyped hs e = Unit {0}

-- a fault that isn't Unknown
abbrev pub IsKnown : FaultKind → Type 0
IsKnown k = k ≡ Unknown → ⊥

-- a value of a kind, a fault that isn't Unknown, or an effect that can be asked for
abbrev pub IsSafe : {A : Type 0} → List Heading → (A → Type 0) → Outcome A → Type 0
IsSafe hs P (done v) = P v
IsSafe hs P (fails k) = IsKnown k
IsSafe hs P (wants e) = EventIsTyped hs e

-- each answer that is left fits the effect that it answers: the one that running waits for after the answers before
abbrev pub AnswersFit : {A : Type 0} → List Heading → Act A → State → Type 0
AnswersFit hs m s = (before after : List Answer) (a : Answer) (e : Event)
    → s.answers ≡ before ++ a ∷ after → (m (record s { answers = before })).0 ≡ wants e → AnswerFits hs e a
