-- How the logic stores where running stands.
use Rattle.std.specs.Prelude.{ℕ, List, refl}
use Rattle.std.specs.Coded.{Coded, code_by, coded×, coded_ℕ, coded_list}
use Rattle.pie_value.specs.contracts.event.Answer.{the_row}
use Rattle.pie_value.specs.declared.event.Answer.{Answer}
use Rattle.pie_value.specs.Tree.{Tree}
use Rattle.pie_value.specs.inner.Codes.{coded_trees}
use Rattle.pie_operators.specs.Domain.{State}
use Rattle.pie_code.specs.Running.{Config}
use Rattle.pie_vm.specs.contracts.machine.MachineState.{the_row as state_row}
use Rattle.pie_vm.specs.declared.machine.MachineState.{MachineState}
use Rattle.pie_vm.specs.Machines.{Standing}

-- paths
abbrev pub coded_paths : Coded (List (List ℕ))
coded_paths = coded_list (coded_list coded_ℕ)

-- what running gave
abbrev pub coded_state : Coded State
coded_state =
    code_by ((List Answer × List (List ℕ)) × (List (List ℕ) × ℕ)) (coded× (coded× (coded_list the_row.coded) coded_paths) (coded× coded_paths coded_ℕ))
    (λ s. ((s.answers, s.seen), (s.wrote, s.ticks))) (λ p. record { answers = p.0.0; seen = p.0.1; wrote = p.1.0; ticks = p.1.1 }) (λ _. refl)

-- where running stands
abbrev pub coded_config : Coded Config
coded_config =
    code_by ((ℕ × List Tree) × (List Tree × State)) (coded× (coded× coded_ℕ coded_trees) (coded× coded_trees coded_state))
    (λ c. ((c.at, c.stack), (c.slots, c.state))) (λ p. record { at = p.0.0; stack = p.0.1; slots = p.1.0; state = p.1.1 }) (λ _. refl)

-- a machine
abbrev pub coded_standing : Coded Standing
coded_standing = code_by (MachineState × Config) (coded× state_row.coded coded_config) (λ m. (m.phase, m.config)) (λ p. record { phase = p.0; config = p.1 })
    (λ _. refl)
