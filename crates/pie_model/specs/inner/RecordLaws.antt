-- What holds of records: equal stamps give equal records.
use Rattle.std.specs.Prelude.{ℕ, ◌≡◌, Bool, true, Option, Some, List, map}
use Rattle.pie_model.specs.Paths.{Path, among}
use Rattle.pie_model.specs.Tasks.{Task}
use Rattle.pie_model.specs.Trees.{Node, Many, outcome_of, trace_of, is_done, is_plain, StandsIn, task_of}
use Rattle.pie_model.specs.Seen.{provided}
use Rattle.pie_model.specs.Evaluation.{World, Project, evaluation_under, evaluation}
use Rattle.pie_model.specs.Records.{Record, record_of}
use Rattle.pie_model.specs.StampNow.{Told, told_of, by_evaluation, RecordAgrees}
use Rattle.pie_model.specs.Separate.{StampsSeparate, ListingsDiffer, AllMet, NeverWritesWhatItSaw}
use Rattle.pie_model.specs.inner.Present.{Reaches, WroteByRecords, IsTold}

-- what passes a test
abbrev pub Passes : {A : Type 0} → (A → Bool) → A → Type 0
Passes test x = test x ≡ true

-- where stamps separate what is met, an old record of a task that means the same now and does not end in too long a chain,
-- all of whose stamps are the stamps now, is the record of the evaluation now
abbrev pub EqualStampsGiveEqualRecords : Type 0
EqualStampsGiveEqualRecords =
    (w : World) (old now : Project) (met : List ℕ → Bool) → StampsSeparate w old now (Passes met) → ListingsDiffer w
    → (t : Task) (above : List Task) → old.next t ≡ now.next t → NeverWritesWhatItSaw (old.next t)
    → is_done (outcome_of (evaluation_under w old above t)) ≡ true
    → AllMet w (Passes met) (trace_of (evaluation_under w old above t)) → AllMet w (Passes met) (trace_of (evaluation w now t))
    → RecordAgrees w now (by_evaluation w now) (record_of w (evaluation_under w old above t)) → (outcome_of (evaluation w now t) ≡ Many → ⊥)
    → record_of w (evaluation w now t) ≡ record_of w (evaluation_under w old above t)

-- the record of a task that ended with a value has the stamps that it would get on its own sources
abbrev pub RecordsAgreeWithThemselves : Type 0
RecordsAgreeWithThemselves =
    (w : World) (P : Project) (t : Task) → NeverWritesWhatItSaw (P.next t) → is_done (outcome_of (evaluation w P t)) ≡ true
    → RecordAgrees w P (by_evaluation w P) (record_of w (evaluation w P t))

-- the task's record is that of its evaluation, which ended with a value or by a fault
pub record HasItsRecord (w : World) (P : Project) (R : Task → Option Record) (x : Task) : Type 0 where
  pub is : R x ≡ Some (record_of w (evaluation w P x))
  pub plain : is_plain (outcome_of (evaluation w P x)) ≡ true

-- where all that some tasks reach have the records of their evaluations, what the records tell of a path is what the trees show
abbrev pub RecordsTellWhatTreesShow : Type 0
RecordsTellWhatTreesShow =
    (w : World) (P : Project) (R : Task → Option Record) (us : List Task) → ((u : Task) → among u us ≡ true → (x : Task) → Reaches R u x → HasItsRecord w P R x)
    → (p : Path) (told : Told) → IsTold (WroteByRecords R us p) told → told ≡ told_of w (provided (map (evaluation w P) us) p)

-- and the tasks that they reach are the tasks that stand in the trees
abbrev pub ReachedTasksStand : Type 0
ReachedTasksStand =
    (w : World) (P : Project) (R : Task → Option Record) (u : Task) → ((x : Task) → Reaches R u x → HasItsRecord w P R x)
    → ((x : Task) → Reaches R u x → StandsIn (evaluation w P x) (evaluation w P u))
    × ((m : Node) → StandsIn m (evaluation w P u) → Reaches R u (task_of m))
