-- The rows of an earlier accepted build, as its store keeps them.
use Rattle.std.specs.Prelude.{◌≤◌, ◌≡◌, true, cond, Option, Some, None, List, [], ◌∷◌, map, length, bytes_eq}
use Rattle.pie_model.specs.Paths.{among}
use Rattle.pie_model.specs.Tasks.{Task}
use Rattle.pie_model.specs.Trees.{outcome_of, is_done}
use Rattle.pie_model.specs.Evaluation.{World, Project, evaluation}
use Rattle.pie_model.specs.Records.{Record, record_of, needs_of}
use Rattle.pie_model.specs.Running.{IsDistinct}
use Rattle.pie_model.specs.Forest.{entered_tasks}
use Rattle.pie_model.specs.Verdict.{verdict}
use Rattle.pie_model.specs.declared.words.Verdict.TheVariants.{Accepted}
use Rattle.pie_model.specs.Built.{store_rows}
use Rattle.pie_model.specs.inner.Consistent.{IsRecorded}

-- the record of a task among these, the first if there are more
abbrev pub record_among : List Record → Task → Option Record
record_among [] t = None
record_among (r ∷ rs) t = cond (bytes_eq t r.task) (Some r) (record_among rs t)

-- a record is that of an old live task: of its evaluation, which ended with a value
pub record IsOldRow (w : World) (old : Project) (old_roots : List Task) (t : Task) (r : Record) : Type 0 where
  pub was : r ≡ record_of w (evaluation w old t)
  pub done : is_done (outcome_of (evaluation w old t)) ≡ true
  pub live : among t (entered_tasks w old old_roots) ≡ true

-- the rows of an accepted build are those of its live tasks
abbrev pub RowsAreOfLiveTasks : Type 0
RowsAreOfLiveTasks =
    (w : World) (old : Project) (old_roots : List Task) (t : Task) (r : Record) → verdict w old old_roots ≡ Accepted
    → record_among (store_rows w old old_roots) t ≡ Some r → IsOldRow w old old_roots t r

-- each live task has a row, with the record of its evaluation
abbrev pub LiveTasksHaveRows : Type 0
LiveTasksHaveRows =
    (w : World) (old : Project) (old_roots : List Task) (t : Task) → among t (entered_tasks w old old_roots) ≡ true
    → record_among (store_rows w old old_roots) t ≡ Some (record_of w (evaluation w old t))

-- each task that a row requires has a row
abbrev pub RowsAreClosed : Type 0
RowsAreClosed =
    (w : World) (old : Project) (old_roots : List Task) (t : Task) (r : Record) (u : Task) → verdict w old old_roots ≡ Accepted
    → record_among (store_rows w old old_roots) t ≡ Some r → among u (needs_of r.observations) ≡ true
    → IsRecorded (record_among (store_rows w old old_roots)) u

-- a task has one row, and there are no more rows than tasks may be
abbrev pub RowsAreDistinct : Type 0
RowsAreDistinct =
    (w : World) (old : Project) (old_roots : List Task) → verdict w old old_roots ≡ Accepted
    → IsDistinct (map (λ (r : Record). r.task) (store_rows w old old_roots)) × (length (store_rows w old old_roots) ≤ w.most_tasks)
