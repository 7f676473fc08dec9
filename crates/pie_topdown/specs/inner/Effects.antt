-- What becomes of the tasks that were entered, by a call.
use Rattle.std.specs.Prelude.{◌≡◌, ℕ, false, true, List, [], ◌∷◌, ◌++◌, length, None, slice_set}
use Rattle.pie_value.specs.declared.task.Task.{Task}
use Rattle.pie_graph.specs.Rows.{no_edges}
use Rattle.pie_old.specs.inner.Rows.{paths_in}
use Rattle.pie_record.specs.declared.task_record.TaskRecord.{TaskRecord}
use Rattle.pie_record.specs.inner.Records.{record_of, Puts}
use Rattle.pie_builder_laws.specs.Names.{AreTasks}
use Rattle.pie_topdown.specs.declared.ledger.Ledger.{Ledger}
use Rattle.pie_topdown.specs.inner.Ledgers.{row_with}

-- one task more was entered: it has a row without edges, and no record changed
pub record HasAdded (old : Ledger) (t : Task) (new : Ledger) : Type 0 where
  pub names : new.tables.names ≡ old.tables.names ++ t ∷ []
  pub records : new.tables.records ≡ old.tables.records
  pub rows : new.rows ≡ old.rows ++ no_edges ∷ []
  pub places : new.places.items ≡ old.places.items ++ 0 ∷ []
  pub ran : new.tables.ran.items ≡ old.tables.ran.items ++ false ∷ []
  pub tasks : AreTasks new.tables.names

-- a task ended with this record, which requires the tasks of these numbers: it has the row of that, and the next place
pub record HasEnded (old : Ledger) (n : ℕ) (rec : TaskRecord) (needs : List ℕ) (new : Ledger) : Type 0 where
  pub names : new.tables.names ≡ old.tables.names
  pub puts : Puts old.tables.records new.tables.records n rec
  pub rows : new.rows ≡ slice_set old.rows n (row_with needs (paths_in rec.writes))
  pub places : new.places.items ≡ slice_set old.places.items n (length old.order.items)
  pub ran : new.tables.ran.items ≡ old.tables.ran.items

-- so it is with one that hadn't ended
abbrev pub EndsIfNew : Ledger → ℕ → TaskRecord → List ℕ → Ledger → Type 0
EndsIfNew old n rec needs new = record_of old.tables.records n ≡ None → HasEnded old n rec needs new

-- a task is marked as one that ran, or of which contents were staged, and nothing else changed
pub record HasStarted (old : Ledger) (n : ℕ) (new : Ledger) : Type 0 where
  pub names : new.tables.names ≡ old.tables.names
  pub records : new.tables.records ≡ old.tables.records
  pub rows : new.rows ≡ old.rows
  pub places : new.places ≡ old.places
  pub ran : new.tables.ran.items ≡ slice_set old.tables.ran.items n true
