-- The code of a task that begins.
use Rattle.std.specs.Prelude.{◌≡◌, ℕ, List, length, Option, Some, None, slice_get}
use Rattle.pie_value.specs.declared.task.Task.{Task}
use Rattle.pie_code.specs.declared.code.Code.{Code}
use Rattle.pie_parser.specs.FunctionTrees.{FunctionTree}
use Rattle.pie_types.specs.Whole.{number_from}

-- the code with a number, where it takes as many arguments as the task has
abbrev pub IsCodeAt : List Code → ℕ → Task → Option Code → Type 0
IsCodeAt codes n t (Some code) = (slice_get codes n ≡ Some code) × (length t.args ≡ code.params)
IsCodeAt codes n t None = (code : Code) → slice_get codes n ≡ Some code → length t.args ≡ code.params → ⊥

-- the code of a task's function
pub record HasFunction (fs : List FunctionTree) (codes : List Code) (t : Task) (code : Code) : Type 0 where
  pub number : ℕ
  pub found : number_from 0 fs t ≡ Some number
  pub coded : slice_get codes number ≡ Some code
  pub takes : length t.args ≡ code.params

abbrev pub IsCodeFor : List FunctionTree → List Code → Task → Option Code → Type 0
IsCodeFor fs codes t (Some code) = HasFunction fs codes t code
IsCodeFor fs codes t None = (n : ℕ) → number_from 0 fs t ≡ Some n → IsCodeAt codes n t None
