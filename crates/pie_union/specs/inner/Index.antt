-- The callers of each task and the writers of each path, as rows tell them.
use Rattle.std.specs.Prelude.{◌≡◌, ◌≤◌, ◌==◌, ◌&&◌, ◌||◌, ℕ, true, not, List, length}
use Rattle.pie_graph.specs.Rows.{Row, row_at, NeedsBelow}
use Rattle.pie_union.specs.declared.index.Index.{Index}
use Rattle.pie_union.specs.declared.index.Uses.{Uses}
use Rattle.pie_union.specs.inner.Among.{among, calls}
use Rattle.pie_union.specs.inner.Writers.{holds, wrote, AreWriters}

-- lists of callers tell exactly what the rows require
abbrev pub AreCallers : List (List ℕ) → List Row → Type 0
AreCallers lists rows = (a b : ℕ) → calls lists a b ≡ among (row_at rows a).needs b

-- an index with so many lists of callers tells exactly these rows
pub record Tells (index : Index) (count : ℕ) (rows : List Row) : Type 0 where
  pub lists : length index.callers ≡ count
  pub callers : AreCallers index.callers rows
  pub writers : AreWriters index.writers.pairs rows

-- an index of rows tells them, with a list of callers for each
abbrev pub IsIndex : Index → List Row → Type 0
IsIndex index rows = Tells index (length rows) rows

-- what the index holds of one row, under its number
pub record AreUses (uses : Uses) (row : Row) (no : ℕ) : Type 0 where
  pub needs : (b : ℕ) → among uses.needs b ≡ among row.needs b
  pub writes : (pair : List ℕ × ℕ) → holds uses.writes.pairs pair ≡ (pair.1 == no && wrote row.writes pair.0)

-- the uses of one row go into the index
pub record Joins (old new : Index) (uses : Uses) (no : ℕ) : Type 0 where
  pub callers : (a b : ℕ) → calls new.callers a b ≡ (calls old.callers a b || (a == no && among uses.needs b))
  pub writers : (pair : List ℕ × ℕ) → holds new.writers.pairs pair ≡ (holds old.writers.pairs pair || holds uses.writes.pairs pair)

-- some of the uses of one row go into the index
pub record MayJoin (old new : Index) (uses : Uses) (no : ℕ) : Type 0 where
  pub callers_kept : (a b : ℕ) → calls old.callers a b ≡ true → calls new.callers a b ≡ true
  pub callers_only : (a b : ℕ) → calls new.callers a b ≡ true → (calls old.callers a b || (a == no && among uses.needs b)) ≡ true
  pub writers_kept : (pair : List ℕ × ℕ) → holds old.writers.pairs pair ≡ true → holds new.writers.pairs pair ≡ true
  pub writers_only : (pair : List ℕ × ℕ) → holds new.writers.pairs pair ≡ true → (holds old.writers.pairs pair || holds uses.writes.pairs pair) ≡ true

-- the uses of one row leave the index, but for those that stay
pub record Leaves (old new : Index) (going staying : Uses) (no : ℕ) : Type 0 where
  pub callers : (a b : ℕ) → calls new.callers a b ≡ (calls old.callers a b && not (a == no && (among going.needs b && not (among staying.needs b))))
  pub writers : (pair : List ℕ × ℕ)
      → holds new.writers.pairs pair ≡ (holds old.writers.pairs pair && not (holds going.writes.pairs pair && not (holds staying.writes.pairs pair)))

-- few rows that require only one another, and their index
pub record AreKept (index : Index) (rows : List Row) : Type 0 where
  pub few : length rows ≤ 50000
  pub needs_below : NeedsBelow rows
  pub told : IsIndex index rows
