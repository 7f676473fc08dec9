-- What holds of a core that takes, starts and finishes tasks: its records stay consistent, and settled tasks are right.
use Rattle.std.specs.Prelude.{ℕ, ◌<◌, ◌≤◌, ◌≡◌, ◌⊎◌, Bool, true, Option, Some, List, length}
use Rattle.pie_model.specs.Paths.{Path, among}
use Rattle.pie_model.specs.Tasks.{Task}
use Rattle.pie_model.specs.Trees.{trace_of, is_plain, levels}
use Rattle.pie_model.specs.Evaluation.{World, Project, evaluation}
use Rattle.pie_model.specs.Records.{Record, record_of, needs_of, Query, task_asked}
use Rattle.pie_model.specs.StampNow.{Told, by_evaluation, by_records, stamp_now}
use Rattle.pie_model.specs.Separate.{StampsSeparate, ListingsDiffer, AllMet, NeverWritesWhatItSaw}
use Rattle.pie_model.specs.inner.Present.{Reaches, WroteByRecords, IsTold}
use Rattle.pie_model.specs.inner.Consistent.{IsRecorded, IsUpToDate, IsConsistent, IsSettled}
use Rattle.pie_model.specs.inner.Still.{SourcesStill, WasDone}
use Rattle.pie_model.specs.inner.Steps.{ChangesAt, IsUntouched}
use Rattle.pie_model.specs.inner.RecordLaws.{Passes, HasItsRecord}

-- what is told of the writes of recorded tasks is so
abbrev pub TellsRight : (Task → Option Record) → (List Task → Path → Told) → Type 0
TellsRight R told = (us : List Task) (p : Path) → ((u : Task) → among u us ≡ true → IsRecorded R u) → IsTold (WroteByRecords R us p) (told us p)

-- the settled law: under consistent records a recorded task that reaches no busy task has the record of its evaluation now
abbrev pub SettledTasksAreRight : Type 0
SettledTasksAreRight =
    (w : World) (old now : Project) (met : List ℕ → Bool) (R : Task → Option Record) (told : List Task → Path → Told) (held : List Task) (rank : Task → ℕ)
    (busy : Task → Bool) → IsConsistent w old now (Passes met) R told held rank (Passes busy)
    → StampsSeparate w old now (Passes met) → ListingsDiffer w → ((t : Task) → NeverWritesWhatItSaw (old.next t))
    → (t : Task) → IsSettled R (Passes busy) t → HasItsRecord w now R t

-- old records that are closed under requires begin consistent, where every task whose function or whose source stamps differ is busy
abbrev pub OldRecordsBegin : Type 0
OldRecordsBegin =
    (w : World) (old now : Project) (met : List ℕ → Bool) (R : Task → Option Record) (told : List Task → Path → Told) (held : List Task)
    → ((t : Task) → NeverWritesWhatItSaw (old.next t)) → ((t : Task) (r : Record) → R t ≡ Some r → WasDone w old now (Passes met) t r)
    → ((t : Task) (r : Record) (u : Task) → R t ≡ Some r → among u (needs_of r.observations) ≡ true → IsRecorded R u)
    → (busy : Task → Bool) → length held ≤ w.most_tasks → ((t : Task) (r : Record) → R t ≡ Some r → among t held ≡ true) → TellsRight R told
    → ((t : Task) (r : Record) → R t ≡ Some r → (Passes busy t → ⊥) → (old.next t ≡ now.next t) × SourcesStill w now r.observations)
    → IsConsistent w old now (Passes met) R told held (λ t. levels (evaluation w old t)) (Passes busy)

-- a busy task whose record is up to date need not be busy any more
abbrev pub TakesKeepConsistent : Type 0
TakesKeepConsistent =
    (w : World) (old now : Project) (met : List ℕ → Bool) (R : Task → Option Record) (told : List Task → Path → Told) (held : List Task) (rank : Task → ℕ)
    (busy busy_after : Task → Bool) (t : Task) → IsConsistent w old now (Passes met) R told held rank (Passes busy)
    → ((r : Record) → R t ≡ Some r → IsUpToDate w old now (Passes met) R told t r) → ((x : Task) → (x ≡ t → ⊥) → Passes busy x → Passes busy_after x)
    → IsConsistent w old now (Passes met) R told held rank (Passes busy_after)

-- a start keeps the records consistent, if the task is counted
abbrev pub StartsKeepConsistent : Type 0
StartsKeepConsistent =
    (w : World) (old now : Project) (met : List ℕ → Bool) (R : Task → Option Record) (told : List Task → Path → Told) (held held_after : List Task)
    (rank : Task → ℕ) (busy busy_after : Task → Bool) → IsConsistent w old now (Passes met) R told held rank (Passes busy)
    → length held_after ≤ w.most_tasks → ((x : Task) → among x held ≡ true → among x held_after ≡ true) → ((x : Task) → Passes busy x → Passes busy_after x)
    → IsConsistent w old now (Passes met) R told held_after rank (Passes busy_after)

-- a finish keeps the records consistent, if each other task stays busy and each one that is not busy after it is untouched by it
abbrev pub FinishesKeepConsistent : Type 0
FinishesKeepConsistent =
    (w : World) (old now : Project) (met : List ℕ → Bool) (R S : Task → Option Record) (told retold : List Task → Path → Told) (held : List Task)
    (rank new_rank : Task → ℕ) (busy busy_after : Task → Bool) (t : Task) (new : Record) → IsConsistent w old now (Passes met) R told held rank (Passes busy)
    → ChangesAt R S t new → new ≡ record_of w (evaluation w now t) → among t held ≡ true → is_plain new.outcome ≡ true
    → AllMet w (Passes met) (trace_of (evaluation w now t)) → ((u : Task) → among u (needs_of new.observations) ≡ true → IsRecorded R u)
    → ((x : Task) (r : Record) (u : Task) → S x ≡ Some r → among u (needs_of r.observations) ≡ true → new_rank u < new_rank x) → TellsRight S retold
    → ((x : Task) → (x ≡ t → ⊥) → (Passes busy_after x → ⊥) → Passes busy x → ⊥)
    → ((x : Task) (r : Record) → (x ≡ t → ⊥) → (Passes busy_after x → ⊥) → R x ≡ Some r → IsUntouched w R S t new r)
    → IsConsistent w old now (Passes met) S retold held new_rank (Passes busy_after)

-- what is settled stays settled when a busy task finishes and only tasks that reach it become busy
abbrev pub FinishesKeepSettled : Type 0
FinishesKeepSettled =
    (R S : Task → Option Record) (t : Task) (new : Record) → ChangesAt R S t new → (busy busy_after : Task → Bool) → Passes busy t
    → ((x : Task) → Passes busy_after x → Passes busy x ⊎ Reaches R x t) → (u : Task) → IsSettled R (Passes busy) u → IsSettled S (Passes busy_after) u

-- and when fewer tasks are busy
abbrev pub TakesKeepSettled : Type 0
TakesKeepSettled =
    (R : Task → Option Record) (busy busy_after : Task → Bool) → ((x : Task) → Passes busy_after x → Passes busy x) → (u : Task) → IsSettled R (Passes busy) u
    → IsSettled R (Passes busy_after) u

-- where all that a record required before and requires next reaches has the records of its evaluations,
-- the stamp now of a query by the records is that by evaluation: so a stamp differs by records exactly where it is a reason to run
abbrev pub StampsByRecordsAreRight : Type 0
StampsByRecordsAreRight =
    (w : World) (now : Project) (R : Task → Option Record) (told : List Task → Path → Told) → TellsRight R told
    → (own : List (Path × List ℕ)) (before : List Task) (q : Query)
    → ((u : Task) → among u before ≡ true → IsRecorded R u × ((x : Task) → Reaches R u x → HasItsRecord w now R x))
    → ((u : Task) → among u (task_asked q) ≡ true → IsRecorded R u × ((x : Task) → Reaches R u x → HasItsRecord w now R x))
    → stamp_now w now (by_records R told) own before q ≡ stamp_now w now (by_evaluation w now) own before q
