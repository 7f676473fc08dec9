-- What holds of running tasks: event by event each stays at the front of its evaluation.
use Rattle.std.specs.Prelude.{ℕ, suc, ◌-◌, ◌≤◌, ◌≡◌, true, false, Option, Some, List, [], ◌∷◌, ◌++◌, length}
use Rattle.pie_model.specs.Paths.{Path, among}
use Rattle.pie_model.specs.Tasks.{Task, Value, Look, How, Entries, LookAt, ListOf, Write, Require}
use Rattle.pie_model.specs.Trees.{Nothing, Holds, Ended, outcome_of, StandsIn}
use Rattle.pie_model.specs.Seen.{visible_at}
use Rattle.pie_model.specs.Evaluation.{World, Project, Progress, start, answered, wrote, required, absent_answer, present_answer, output_answer, listing}
use Rattle.pie_model.specs.Evaluation.{evaluation_with, evaluation}
use Rattle.pie_model.specs.Records.{Record, Absent, Hash, Looked, Listed, Required, Observation, observed, contents_stamp, value_stamp}
use Rattle.pie_model.specs.inner.Present.{Reaches}
use Rattle.pie_model.specs.inner.Consistent.{IsRecorded}
use Rattle.pie_model.specs.Running.{IsRunning, IsDistinct}
use Rattle.pie_model.specs.inner.RecordLaws.{HasItsRecord}

-- a task that does not stand above itself starts at the front of its evaluation
abbrev pub RunsStart : Type 0
RunsStart =
    (w : World) (P : Project) (room : ℕ) (above : List Task) (t : Task) → among t above ≡ false → IsRunning w P room above t w.most_events start []

-- a look that finds nothing
abbrev pub RunsSeeNothing : Type 0
RunsSeeNothing =
    (w : World) (P : Project) (room : ℕ) (above : List Task) (t : Task) (n : ℕ) (g : Progress) (seen : List Observation) (l : Look) (p : Path)
    → P.next t g.answers ≡ LookAt l p → visible_at P.file g.own g.kids p ≡ Nothing → IsRunning w P room above t (suc n) g seen
    → IsRunning w P room above t n (answered g (absent_answer l)) (seen ++ observed (Looked l p) Absent ∷ [])

-- a look that finds contents
abbrev pub RunsSeeContents : Type 0
RunsSeeContents =
    (w : World) (P : Project) (room : ℕ) (above : List Task) (t : Task) (n : ℕ) (g : Progress) (seen : List Observation) (l : Look) (p : Path)
    (b : List ℕ) (m : ℕ) → P.next t g.answers ≡ LookAt l p → visible_at P.file g.own g.kids p ≡ Holds b m → IsRunning w P room above t (suc n) g seen
    → IsRunning w P room above t n (answered g (present_answer w b l)) (seen ++ observed (Looked l p) (contents_stamp w p b m l) ∷ [])

-- a listing
abbrev pub RunsList : Type 0
RunsList =
    (w : World) (P : Project) (room : ℕ) (above : List Task) (t : Task) (n : ℕ) (g : Progress) (seen : List Observation) (d : Path) (es : List Path)
    → P.next t g.answers ≡ ListOf d → listing w P d ≡ Some es → IsRunning w P room above t (suc n) g seen
    → IsRunning w P room above t n (answered g (Entries es)) (seen ++ observed (Listed d) (Hash (w.hash (w.listing_bytes es))) ∷ [])

-- a write
abbrev pub RunsWrite : Type 0
RunsWrite =
    (w : World) (P : Project) (room : ℕ) (above : List Task) (t : Task) (n : ℕ) (g : Progress) (seen : List Observation) (p : Path) (b : List ℕ)
    → P.next t g.answers ≡ Write p b → IsRunning w P room above t (suc n) g seen → IsRunning w P room above t n (wrote g p b) seen

-- a required task's evaluation stands in the requirer's
abbrev pub RequiredTasksStand : Type 0
RequiredTasksStand =
    (w : World) (P : Project) (room : ℕ) (above : List Task) (t : Task) (n : ℕ) (g : Progress) (seen : List Observation) (h : How) (u : Task)
    → P.next t g.answers ≡ Require h u → IsRunning w P room above t (suc n) g seen
    → StandsIn (evaluation_with room w P (t ∷ above) u) (evaluation_with (suc room) w P above t)

-- a required task that ended with a value: the requirer goes on
abbrev pub RunsAreAnswered : Type 0
RunsAreAnswered =
    (w : World) (P : Project) (room : ℕ) (above : List Task) (t : Task) (n : ℕ) (g : Progress) (seen : List Observation) (h : How) (u : Task) (v : Value)
    → P.next t g.answers ≡ Require h u → outcome_of (evaluation_with room w P (t ∷ above) u) ≡ Ended v → IsRunning w P room above t (suc n) g seen
    → IsRunning w P room above t n (required g (evaluation_with room w P (t ∷ above) u) (output_answer v h))
    (seen ++ observed (Required h u) (value_stamp w v h) ∷ [])

-- a record answers a require: where all that a task reaches has the records of its evaluations,
-- below distinct counted tasks that it does not reach its evaluation is the one with nothing above
abbrev pub RecordsAnswerRequires : Type 0
RecordsAnswerRequires =
    (w : World) (P : Project) (R : Task → Option Record) (held above : List Task) → length held ≤ w.most_tasks
    → ((t : Task) (r : Record) → R t ≡ Some r → among t held ≡ true) → IsDistinct above → ((a : Task) → among a above ≡ true → among a held ≡ true)
    → (u : Task) → IsRecorded R u → ((x : Task) → Reaches R u x → HasItsRecord w P R x) → ((a : Task) → among a above ≡ true → Reaches R u a → ⊥)
    → (room : ℕ) → w.most_tasks - length above ≤ room → evaluation_with room w P above u ≡ evaluation w P u
