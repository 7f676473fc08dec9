-- What code evaluates to.
use Rattle.std.specs.Prelude.{◌≡◌, ℕ, List, Some}
use Rattle.pie_value.specs.declared.event.Answer.{Answer}
use Rattle.pie_value.specs.Tree.{Tree}
use Rattle.pie_operators.specs.Domain.{Outcome, State}
use Rattle.pie_code.specs.declared.code.Code.{Code}
use Rattle.pie_code.specs.Running.{Config, run, start}

-- code ends so from here
abbrev pub Ends : Code → Config → Outcome Tree × State → Type 0
Ends code c o = (n : ℕ) × (run code n c ≡ Some o)

-- what code evaluates to from its start, with these arguments and answers: the first effect that the answers don't cover, a value or a fault,
-- and the ticks counted
abbrev pub CodeNext : Code → List Tree → List Answer → Outcome Tree × State → Type 0
CodeNext code args answers o = Ends code (start code args answers) o
