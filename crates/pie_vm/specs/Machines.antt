-- What a machine is, and how it stands to its code, its arguments and its answers so far.
use Rattle.std.specs.Prelude.{◌≡◌, List, [], ◌++◌}
use Rattle.pie_value.specs.declared.event.Event.{Event}
use Rattle.pie_value.specs.declared.event.Answer.{Answer}
use Rattle.pie_value.specs.Tree.{Tree}
use Rattle.pie_operators.specs.Domain.{Outcome, done, fails, wants, State}
use Rattle.pie_code.specs.declared.code.Code.{Code}
use Rattle.pie_code.specs.Running.{Config, ends, start, step}
use Rattle.pie_code.specs.Standing.{Stands}
use Rattle.pie_code.specs.Coming.{Ends}
use Rattle.pie_vm.specs.Steps.{Stays}
use Rattle.pie_vm.specs.declared.machine.MachineState.{MachineState}
use Rattle.pie_vm.specs.declared.machine.MachineState.TheVariants.{Ready, Waiting, Over}

-- a machine: whether it can go on, and where running stands
pub record Standing : Type 0 where
  pub phase : MachineState
  pub config : Config

-- more answers behind those that are left
abbrev pub more : List Answer → State → State
more rest s = record s { answers = s.answers ++ rest }

abbrev pub more_for : List Answer → Config → Config
more_for rest c = record c { state = more rest c.state }

-- running leads from one place to another: whatever answers come, what it gives from the second it gives from the first
pub record Leads (code : Code) (from to : Config) : Type 0 where
  pub ends : (rest : List Answer) (o : Outcome Tree × State) → Ends code (more_for rest to) o → Ends code (more_for rest from) o

-- running has led from one place to another, where it stands by the ways of the code
pub record Led (code : Code) (from to : Config) : Type 0 where
  pub leads : Leads code from to
  pub stands : Stands code to

-- the machine runs this code: it stands where a way of the code comes, with the operands that belong there
abbrev pub Belongs : Code → Standing → Type 0
Belongs code m = Stands code m.config

-- the answers so far have led the machine here
abbrev pub Follows : Code → List Tree → List Answer → Standing → Type 0
Follows code args answers m = Leads code (start code args answers) m.config

-- whether a machine can go on after this
abbrev pub phase_after : Outcome Tree → MachineState
phase_after (wants e) = Waiting
phase_after (done t) = Over
phase_after (fails k) = Over

-- a fact that is owed where running asks
abbrev pub Asks : Outcome Tree → Type 0 → Type 0
Asks (wants e) P = P
Asks (done t) P = Unit {0}
Asks (fails k) P = Unit {0}

-- running leads to a place where it ends so; where it asks, it stays there
pub data Reaches (code : Code) (from : Config) : Outcome Tree → Config → Type 0 where
  reaches : {o : Outcome Tree} {last to : Config} → Led code from last → step code last ≡ ends o to.state → Stays o last to → Reaches code from o to

-- a machine that waits has no answer left
abbrev pub Unanswered : MachineState → List Answer → Type 0
Unanswered Waiting left = left ≡ []
Unanswered Ready left = Unit {0}
Unanswered Over left = Unit {0}
