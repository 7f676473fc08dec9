-- What is settled stays settled.
use Rattle.std.specs.Prelude.{ℕ, ◌≡◌, ◌⊎◌, Bool, true, Option, Some, None, List}
use Rattle.pie_model.specs.Paths.{Path, among}
use Rattle.pie_model.specs.Tasks.{Task}
use Rattle.pie_model.specs.Evaluation.{World, Project}
use Rattle.pie_model.specs.Records.{Record, needs_of}
use Rattle.pie_model.specs.StampNow.{Told}
use Rattle.pie_model.specs.Separate.{StampsSeparate, ListingsDiffer, NeverWritesWhatItSaw}
use Rattle.pie_model.specs.inner.RecordLaws.{Passes}
use Rattle.pie_model.specs.inner.Present.{Reaches}
use Rattle.pie_model.specs.inner.Consistent.{IsRecorded, IsConsistent, IsSettled}
use Rattle.pie_model.specs.inner.Steps.{ChangesAt}
use Rattle.pie_settle_laws.specs.Known.{IsKnown}

-- a task reaches a busy one by the records
pub record ReachesBusy (R : Task → Option Record) (busy : Task → Type 0) (t : Task) : Type 0 where
  pub found : Task
  pub reaches : Reaches R t found
  pub is_busy : busy found

-- when a busy task finishes, and each task that is busy after it reached a busy one before
abbrev pub FinishesSpareSettled : Type 0
FinishesSpareSettled =
    (R S : Task → Option Record) (t : Task) (new : Record) (busy busy_after : Task → Bool) → ChangesAt R S t new → Passes busy t
    → ((x : Task) → Passes busy_after x → ReachesBusy R (Passes busy) x) → (u : Task) → IsSettled R (Passes busy) u → IsSettled S (Passes busy_after) u

-- when tasks start that have no record, where each required task has one
abbrev pub StartsSpareSettled : Type 0
StartsSpareSettled =
    (R : Task → Option Record) (busy busy_after : Task → Bool)
    → ((t : Task) (r : Record) (u : Task) → R t ≡ Some r → among u (needs_of r.observations) ≡ true → IsRecorded R u)
    → ((x : Task) → Passes busy_after x → Passes busy x ⊎ (R x ≡ None)) → (u : Task) → IsSettled R (Passes busy) u → IsSettled R (Passes busy_after) u

-- recorded tasks that are not busy, with whatever they require among them, are settled
abbrev pub ClosedTasksAreSettled : Type 0
ClosedTasksAreSettled =
    (R : Task → Option Record) (busy chosen : Task → Bool) → ((t : Task) → Passes chosen t → IsRecorded R t)
    → ((t : Task) → Passes chosen t → Passes busy t → ⊥)
    → ((t : Task) (r : Record) (u : Task) → Passes chosen t → R t ≡ Some r → among u (needs_of r.observations) ≡ true → Passes chosen u)
    → (t : Task) → Passes chosen t → IsSettled R (Passes busy) t

-- under consistent records a settled task is known
abbrev pub SettledTasksAreKnown : Type 0
SettledTasksAreKnown =
    (w : World) (old now : Project) (met : List ℕ → Bool) (R : Task → Option Record) (told : List Task → Path → Told) (held : List Task) (rank : Task → ℕ)
    (busy : Task → Bool) → IsConsistent w old now (Passes met) R told held rank (Passes busy) → StampsSeparate w old now (Passes met) → ListingsDiffer w
    → ((t : Task) → NeverWritesWhatItSaw (old.next t)) → (t : Task) → IsSettled R (Passes busy) t → IsKnown w now R t
