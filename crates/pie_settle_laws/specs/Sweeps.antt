-- Which records a finish leaves untouched.
use Rattle.std.specs.Prelude.{◌≡◌, ◌⊎◌, Bool, true, false, Option, Some, None, List}
use Rattle.pie_model.specs.Paths.{Path, among}
use Rattle.pie_model.specs.Tasks.{Task}
use Rattle.pie_model.specs.Evaluation.{World, Project}
use Rattle.pie_model.specs.Records.{Record, needs_of}
use Rattle.pie_model.specs.StampNow.{Told, by_records, recorded_outcome, RecordAgrees}
use Rattle.pie_model.specs.inner.RecordLaws.{Passes}
use Rattle.pie_model.specs.inner.Present.{Reaches}
use Rattle.pie_model.specs.inner.Consistent.{IsRecorded, IsSettled}
use Rattle.pie_model.specs.inner.Steps.{Each, LooksElsewhere, SameShape, ChangesAt, IsUntouched}

-- a task was found by a sweep up from another, or not: one that wasn't requires nothing that reaches it, and one that was looks at no path under `out`
pub record IsSwept (R : Task → Option Record) (t : Task) (r : Record) (swept : Bool) : Type 0 where
  pub below : swept ≡ false → (u : Task) → among u (needs_of r.observations) ≡ true → Reaches R u t → ⊥
  pub elsewhere : swept ≡ true → Each LooksElsewhere r.observations

-- a busy task finishes: a record is untouched that is settled or agrees, if the outcome is the old one wherever the record requires the task,
-- and the task's requires and writes are the old ones or a sweep up from it told the record apart
abbrev pub SweptRecordsAreUntouched : Type 0
SweptRecordsAreUntouched =
    (w : World) (now : Project) (R S : Task → Option Record) (told : List Task → Path → Told) (t : Task) (new : Record) (busy : Task → Bool)
    (z : Task) (r : Record) (swept : Bool) → ChangesAt R S t new → Passes busy t → R z ≡ Some r
    → IsSettled R (Passes busy) z ⊎ RecordAgrees w now (by_records R told) r
    → (among t (needs_of r.observations) ≡ true → recorded_outcome (R t) ≡ new.outcome)
    → ((before : Record) × (R t ≡ Some before) × SameShape before new) ⊎ IsSwept R t r swept → IsUntouched w R S t new r

-- nothing that has a record reaches a task without one, where each required task has a record
abbrev pub NewTasksAreUnreached : Type 0
NewTasksAreUnreached =
    (R : Task → Option Record) (t z : Task) (r : Record)
    → ((t : Task) (r : Record) (u : Task) → R t ≡ Some r → among u (needs_of r.observations) ≡ true → IsRecorded R u)
    → R t ≡ None → R z ≡ Some r → (u : Task) → among u (needs_of r.observations) ≡ true → Reaches R u t → ⊥
