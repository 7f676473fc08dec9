-- What a step of the machine is to the definition of running.
use Rattle.std.specs.Prelude.{◌≡◌, ℕ, List, [], ◌∷◌, drop, Option, Some, None, Result, Ok, Err}
use Rattle.pie_base.specs.declared.memory.OutOfMemory.{OutOfMemory}
use Rattle.pie_value.specs.declared.event.Event.{Event}
use Rattle.pie_value.specs.declared.event.Event.TheVariants.{Exists, Read, Digest, List as Listing, Write, Require, Done, Fail}
use Rattle.pie_value.specs.declared.event.Answer.{Answer}
use Rattle.pie_value.specs.declared.value.Value.{Value}
use Rattle.pie_value.specs.Tree.{Tree}
use Rattle.pie_value.specs.Values.{tree_of}
use Rattle.pie_operators.specs.declared.asking.Question.{Question}
use Rattle.pie_operators.specs.Domain.{Outcome, done, fails, wants, by_answer}
use Rattle.pie_operators.specs.Effects.{asked, noted, taken}
use Rattle.pie_operators.specs.declared.fault.OperatorFault.{OperatorFault}
use Rattle.pie_operators.specs.declared.fault.OperatorFault.TheVariants.{Fault, OutOfMemory as NoMemory}
use Rattle.pie_code.specs.Running.{Config, Turn, goes, ends, push, settle}
use Rattle.pie_vm.specs.declared.ending.Ending.{Ending}
use Rattle.pie_vm.specs.declared.ending.Ending.TheVariants as endings

-- the answers that are left: one that waits to be taken, or none
abbrev pub answers_of : Option Answer → List Answer
answers_of None = []
answers_of (Some a) = a ∷ []

-- what running gave, by the event that the machine gives
abbrev pub outcome_of : Event → Outcome Tree
outcome_of (Done v) = done (tree_of v)
outcome_of (Fail k) = fails k
outcome_of e = wants e

-- what running gave at its end
abbrev pub ended : Ending → Outcome Tree
ended (endings.Done v) = done (tree_of v)
ended (endings.Fail k) = fails k

-- the event that says how running ended
abbrev pub event_told : Ending → Event
event_told (endings.Done v) = Done v
event_told (endings.Fail k) = Fail k

abbrev pub told : Result (Option Ending) OutOfMemory → Result (Option Event) OutOfMemory
told (Ok None) = Ok None
told (Ok (Some e)) = Ok (Some (event_told e))
told (Err e) = Err e

-- what an instruction that asks nothing did is one turn of running: it goes on, or ends; out of memory says nothing
abbrev pub Moved : Result (Option Ending) OutOfMemory → Config → Turn → Type 0
Moved (Ok None) new t = t ≡ goes new
Moved (Ok (Some e)) new t = t ≡ ends (ended e) new.state
Moved (Err e) new t = Unit {0}

-- a value goes on the stack, and a fault ends running
abbrev pub Settles : Result Value OperatorFault → Result (Option Ending) OutOfMemory → Config → Config → Type 0
Settles (Ok v) r old new = Moved r new (push (tree_of v) old)
Settles (Err (Fault k)) r old new = Moved r new (ends (fails k) old.state)
Settles (Err NoMemory) r old new = (t : Turn) → Moved r new t

-- a machine that asks stays where it is, so that it goes on there when it is answered
abbrev pub Stays : Outcome Tree → Config → Config → Type 0
Stays (wants e) old new = new ≡ old
Stays (done t) old new = Unit {0}
Stays (fails k) old new = Unit {0}

-- what the machine did is one turn of running: it goes on, or gives an event; out of memory says nothing
abbrev pub Turned : Result (Option Event) OutOfMemory → Config → Config → Turn → Type 0
Turned (Ok None) old new t = t ≡ goes new
Turned (Ok (Some e)) old new t = (t ≡ ends (outcome_of e) new.state) × Stays (outcome_of e) old new
Turned (Err e) old new t = Unit {0}

-- what the first answer to a question does
abbrev pub took : Question → Answer → Config → Turn
took q a c = settle (by_answer (taken q a) (noted q c.state)) c

-- what a question does: it is put where no answer is left
abbrev pub ask : Question → Config → Turn
ask q c = settle (asked q c.state) c

-- the configuration with so many values fewer on the stack
abbrev pub without : ℕ → Config → Config
without n c = record c { stack = drop n c.stack }

-- fewer than two values
abbrev pub IsShort : List Tree → Type 0
IsShort [] = Unit {0}
IsShort (t ∷ []) = Unit {0}
IsShort (t ∷ u ∷ ts) = ⊥
