-- What is known of the rows of a build that enters tasks in turn: which tasks after its own number a task reaches.
use Rattle.std.specs.Prelude.{ℕ, ◌<◌, ◌≤◌, List, slice_index_or}
use Rattle.pie_graph.specs.Rows.{Row}
use Rattle.pie_reach.specs.inner.Reaches.{Reaches, ReachedFrom}

-- a task reaches all tasks from itself up to the number that stands for it; where none does, itself alone
abbrev pub AreLasts : List ℕ → List Row → Type 0
AreLasts lasts rows = (n m : ℕ) → n ≤ m → m ≤ slice_index_or lasts n n → Reaches rows n m

-- these tasks reach all tasks behind one number, up to another
abbrev pub Spans : List Row → List ℕ → ℕ → ℕ → Type 0
Spans rows needs low high = (m : ℕ) → low < m → m ≤ high → ReachedFrom rows needs m
