-- The rows of a graph of tasks, each with the edges that lead from its task.
use Rattle.std.specs.Prelude.{ℕ, List, [], length, slice_index_or}
use Rattle.std.specs.List.{All, Contains}
use Rattle.pie_graph.specs.declared.edges.Edges.{Edges}
use Rattle.pie_graph.specs.Numbers.{numbers, AllBelow}

-- the edges of one task: the numbers that it requires, the bytes of the paths that it looked at, listed and wrote
pub record Row : Type 0 where
  pub needs : List ℕ
  pub reads : List (List ℕ)
  pub lists : List (List ℕ)
  pub writes : List (List ℕ)

-- the row of a task without edges
abbrev pub no_edges : Row
no_edges = record { needs = []; reads = []; lists = []; writes = [] }

-- the row that edges make
abbrev pub row_of : Edges → Row
row_of e = record { needs = numbers e.needs.items; reads = e.reads.items; lists = e.lists.items; writes = e.writes.items }

-- the row of a number, without edges past the last
abbrev pub row_at : List Row → ℕ → Row
row_at rows n = slice_index_or rows n no_edges

-- a task requires another
abbrev pub Calls : List Row → ℕ → ℕ → Type 0
Calls rows caller callee = Contains (row_at rows caller).needs callee

-- a task looked at a path
abbrev pub Reads : List Row → ℕ → List ℕ → Type 0
Reads rows n path = Contains (row_at rows n).reads path

-- a task listed a directory
abbrev pub Lists : List Row → ℕ → List ℕ → Type 0
Lists rows n dir = Contains (row_at rows n).lists dir

-- a task wrote a path
abbrev pub Writes : List Row → ℕ → List ℕ → Type 0
Writes rows n path = Contains (row_at rows n).writes path

-- each required number is that of a row
abbrev pub NeedsBelow : List Row → Type 0
NeedsBelow rows = All (λ row. AllBelow (length rows) row.needs) rows
