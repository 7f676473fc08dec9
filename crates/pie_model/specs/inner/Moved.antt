-- What becomes of a finished tree below other tasks and with less room.
use Rattle.std.specs.Prelude.{ℕ, ◌≤◌, ◌≡◌, true, List}
use Rattle.pie_model.specs.Paths.{among}
use Rattle.pie_model.specs.Tasks.{Task}
use Rattle.pie_model.specs.Trees.{Node, HasTask, levels, outcome_of, Cycled, Many}

-- below these tasks, with room for so many levels, the tree is the same, or ends in too long a chain, or in a cycle through a task that stands in it
pub data Moved (room : ℕ) (above : List Task) (new old : Node) : Type 0 where
  same : new ≡ old → Moved room above new old
  no_room : outcome_of new ≡ Many → ¬ (levels old ≤ room) → Moved room above new old
  through : (a : Task) (ts : List Task) → outcome_of new ≡ Cycled ts → among a above ≡ true → HasTask a old → Moved room above new old
