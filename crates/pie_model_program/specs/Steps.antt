-- One event of a running task, as the plain program makes it.
use Rattle.std.specs.Prelude.{ℕ, ◌≡◌, Option, Some, None, List, [], ◌∷◌, ◌++◌}
use Rattle.pie_model.specs.Paths.{Path, kind_of}
use Rattle.pie_model.specs.Tasks.{Task}
use Rattle.pie_model.specs.declared.words.Look.{Look}
use Rattle.pie_model.specs.declared.words.How.{How}
use Rattle.pie_model.specs.declared.words.FaultKind.TheVariants.{Clash, Big}
use Rattle.pie_model.specs.declared.words.Answer.{Answer}
use Rattle.pie_model.specs.declared.words.Answer.TheVariants.{Entries, Wrote}
use Rattle.pie_model.specs.declared.words.Event.{Event}
use Rattle.pie_model.specs.declared.words.Event.TheVariants.{Done, Fail, LookAt, ListOf, Write, Require}
use Rattle.pie_model.specs.Trees.{Node, Trace, outcome_of, end_of, task_of, trace_of, writes_of, enter, entered, entered_below}
use Rattle.pie_model.specs.declared.words.Seen.{Seen}
use Rattle.pie_model.specs.declared.words.Seen.TheVariants.{Nothing, Holds, Clashing}
use Rattle.pie_model.specs.declared.words.Outcome.{Outcome}
use Rattle.pie_model.specs.declared.words.Outcome.TheVariants.{Ended, Failed, Cycled, Many}
use Rattle.pie_model.specs.Evaluation.{World, Project, absent_answer, present_answer, output_answer, listing, follow}
use Rattle.pie_model.specs.Verdict.{found_absent, absent_here}
use Rattle.pie_model_program.specs.Written.{written_in, written_below, written_in_all, seen_by}

-- how far a task has come: its answers, its writes, the paths it found absent, all writes of what it required, and the tasks entered
pub record Row : Type 0 where
  pub answers : List Answer
  pub own : List (Path × List ℕ)
  pub absent : List Path
  pub below : List (Task × Path × List ℕ)
  pub entered : List Task

-- after an event the task goes on, or stops with an outcome
pub data Turn : Type 0 where
  Goes : Row → Turn
  Stops : Outcome → Row → Turn

-- one more answer
abbrev pub with_answer : Row → Answer → Row
with_answer r a = record r { answers = r.answers ++ a ∷ [] }

-- after a look
abbrev pub by_seen : World → Task → Look → Path → Row → Seen → Turn
by_seen w t l p r Nothing = Goes (record (with_answer r (absent_answer l)) { absent = r.absent ++ absent_here p (kind_of p) Nothing })
by_seen w t l p r (Holds b m) = Goes (with_answer r (present_answer w b l))
by_seen w t l p r Clashing = Stops (Failed t Clash) r

-- after a listing
abbrev pub by_listing : Task → Row → Option (List Path) → Turn
by_listing t r None = Stops (Failed t Big) r
by_listing t r (Some es) = Goes (with_answer r (Entries es))

-- what a required evaluation adds
abbrev pub with_kid : Row → Node → Row
with_kid r n = record r { below = r.below ++ written_in n; entered = entered n r.entered }

-- after a require
abbrev pub by_outcome : How → Row → Outcome → Turn
by_outcome h r (Ended v) = Goes (with_answer r (output_answer v h))
by_outcome h r (Failed t k) = Stops (Failed t k) r
by_outcome h r (Cycled ts) = Stops (Cycled ts) r
by_outcome h r Many = Stops Many r

-- one event
abbrev pub by_event : World → Project → (Task → Node) → Task → Row → Event → Turn
by_event w P child t r (Done v) = Stops (Ended v) r
by_event w P child t r (Fail k) = Stops (Failed t k) r
by_event w P child t r (LookAt l p) = by_seen w t l p r (seen_by P.file r.own r.below p (kind_of p))
by_event w P child t r (ListOf d) = by_listing t r (listing w P d)
by_event w P child t r (Write p b) = Goes (record (with_answer r Wrote) { own = r.own ++ (p, b) ∷ [] })
by_event w P child t r (Require h u) = by_outcome h (with_kid r (child u)) (outcome_of (child u))

-- the next event
abbrev pub step : World → Project → (Task → Node) → Task → Row → Turn
step w P child t r = by_event w P child t r (P.next t r.answers)

-- the evaluation's trace is what was done so far and then the rest
pub record IsStage (w : World) (P : Project) (child : Task → Node) (t : Task) (start : List Task) (whole : Trace) (n : ℕ) (r : Row) : Type 0 where
  pub kids : List Node
  pub below_is : r.below ≡ written_in_all kids
  pub end : end_of whole ≡ end_of (follow w P child t n (record { answers = r.answers; own = r.own; kids = kids }))
  pub written : writes_of whole ≡ r.own ++ writes_of (follow w P child t n (record { answers = r.answers; own = r.own; kids = kids }))
  pub absent : found_absent whole ≡ r.absent ++ found_absent (follow w P child t n (record { answers = r.answers; own = r.own; kids = kids }))
  pub below : written_below whole ≡ r.below ++ written_below (follow w P child t n (record { answers = r.answers; own = r.own; kids = kids }))
  pub enters : entered_below whole start ≡ entered_below (follow w P child t n (record { answers = r.answers; own = r.own; kids = kids })) r.entered

-- all that the plain program keeps of a trace, once it has stopped
pub record IsWhole (start : List Task) (whole : Trace) (e : Outcome) (r : Row) : Type 0 where
  pub end : end_of whole ≡ e
  pub written : writes_of whole ≡ r.own
  pub absent : found_absent whole ≡ r.absent
  pub below : written_below whole ≡ r.below
  pub enters : entered_below whole start ≡ r.entered

-- what a turn keeps
abbrev pub Keeps : World → Project → (Task → Node) → Task → List Task → Trace → ℕ → Turn → Type 0
Keeps w P child t start whole n (Goes r) = IsStage w P child t start whole n r
Keeps w P child t start whole n (Stops e r) = IsWhole start whole e r

-- an evaluation's outcome, and all that the plain program keeps of it, once the tasks of its tree are entered after these
abbrev pub IsEvaluated : Node → List Task → Outcome → Row → Type 0
IsEvaluated n start e r = IsWhole (enter (task_of n) start) (trace_of n) e r
