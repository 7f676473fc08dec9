-- The present records are consistent: each one that is not waiting to be looked at again stands.
use Rattle.std.specs.Prelude.{ℕ, ◌<◌, ◌≤◌, ◌≡◌, ◌⊎◌, true, Option, Some, List, length}
use Rattle.pie_model.specs.Paths.{Path, among}
use Rattle.pie_model.specs.Tasks.{Task}
use Rattle.pie_model.specs.Trees.{outcome_of, trace_of, is_done, is_plain}
use Rattle.pie_model.specs.Evaluation.{World, Project, evaluation}
use Rattle.pie_model.specs.Records.{Record, record_of, needs_of}
use Rattle.pie_model.specs.StampNow.{Told, by_records, RecordAgrees}
use Rattle.pie_model.specs.Separate.{AllMet}
use Rattle.pie_model.specs.inner.Present.{Reaches, WroteByRecords, IsTold}

-- a task has a present record
pub record IsRecorded (R : Task → Option Record) (t : Task) : Type 0 where
  pub kept : Record
  pub is : R t ≡ Some kept

-- the record of an old evaluation stands: its function means the same, and all its stamps are the stamps now by the present records
pub record Stands (w : World) (old now : Project) (Met : List ℕ → Type 0) (R : Task → Option Record) (told : List Task → Path → Told) (t : Task) (r : Record)
    : Type 0 where
  pub was : r ≡ record_of w (evaluation w old t)
  pub done : is_done (outcome_of (evaluation w old t)) ≡ true
  pub met : AllMet w Met (trace_of (evaluation w old t))
  pub meaning : old.next t ≡ now.next t
  pub agrees : RecordAgrees w now (by_records R told) r

-- a record is that of the evaluation now, or an old one that stands
abbrev pub IsUpToDate : World → Project → Project → (List ℕ → Type 0) → (Task → Option Record) → (List Task → Path → Told) → Task → Record → Type 0
IsUpToDate w old now Met R told t r = (r ≡ record_of w (evaluation w now t)) ⊎ Stands w old now Met R told t r

-- the present records are consistent while some tasks are busy: scheduled to be looked at again, or running
pub record IsConsistent (w : World) (old now : Project) (Met : List ℕ → Type 0) (R : Task → Option Record) (told : List Task → Path → Told)
    (held : List Task) (rank : Task → ℕ) (busy : Task → Type 0) : Type 0 where
  -- at most so many tasks have a record or are counted otherwise
  pub few : length held ≤ w.most_tasks
  pub counted : (t : Task) (r : Record) → R t ≡ Some r → among t held ≡ true
  -- each required task has a record and a lower rank, so requires have no cycle
  pub closed : (t : Task) (r : Record) (u : Task) → R t ≡ Some r → among u (needs_of r.observations) ≡ true → IsRecorded R u
  pub lower : (t : Task) (r : Record) (u : Task) → R t ≡ Some r → among u (needs_of r.observations) ≡ true → rank u < rank t
  -- no record ends in a cycle or in too long a chain
  pub plain : (t : Task) (r : Record) → R t ≡ Some r → is_plain r.outcome ≡ true
  -- what the evaluations of recorded tasks observe is met
  pub met : (t : Task) (r : Record) → R t ≡ Some r → AllMet w Met (trace_of (evaluation w now t))
  -- what is told of the writes of recorded tasks is so
  pub telling : (us : List Task) (p : Path) → ((u : Task) → among u us ≡ true → IsRecorded R u) → IsTold (WroteByRecords R us p) (told us p)
  -- each record whose task is not busy is up to date
  pub current : (t : Task) (r : Record) → R t ≡ Some r → (busy t → ⊥) → IsUpToDate w old now Met R told t r

-- a recorded task is settled: it reaches no busy task
pub record IsSettled (R : Task → Option Record) (busy : Task → Type 0) (t : Task) : Type 0 where
  pub recorded : IsRecorded R t
  pub free : (x : Task) → Reaches R t x → busy x → ⊥
