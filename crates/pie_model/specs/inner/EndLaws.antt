-- How runs end, and what reaches the root.
use Rattle.std.specs.Prelude.{ℕ, suc, ◌≤◌, ◌≡◌, true, false, None, List, [], ◌∷◌, ◌++◌}
use Rattle.pie_model.specs.Paths.{Path, among}
use Rattle.pie_model.specs.Tasks.{Task, Value, Look, How, FaultKind, Clash, Big, Done, Fail, LookAt, ListOf, Require}
use Rattle.pie_model.specs.Trees.{Clashing, Outcome, Ended, Failed, Cycled, outcome_of, is_plain, is_done, entered}
use Rattle.pie_model.specs.Seen.{visible_at}
use Rattle.pie_model.specs.Evaluation.{World, Project, Progress, listing, round, evaluation_with, evaluation_under, evaluation}
use Rattle.pie_model.specs.Records.{record_of, Absent, Looked, Listed, Required, Observation, observed, hashed}
use Rattle.pie_model.specs.Running.{IsRunning}
use Rattle.pie_model.specs.inner.Stack.{Frame, tasks_of, entered_by, IsWaiting, Begins}

-- a run that ends with a value leaves the record of its evaluation: what it has observed and written, and the value
abbrev pub RunsEndDone : Type 0
RunsEndDone =
    (w : World) (P : Project) (room : ℕ) (above : List Task) (t : Task) (n : ℕ) (g : Progress) (seen : List Observation) (v : Value)
    → P.next t g.answers ≡ Done v → IsRunning w P room above t (suc n) g seen
    → record_of w (evaluation_with (suc room) w P above t) ≡ record { task = t; observations = seen; writes = hashed w g.own; outcome = Ended v }

-- a run that fails leaves likewise the fault
abbrev pub RunsEndFailed : Type 0
RunsEndFailed =
    (w : World) (P : Project) (room : ℕ) (above : List Task) (t : Task) (n : ℕ) (g : Progress) (seen : List Observation) (k : FaultKind)
    → P.next t g.answers ≡ Fail k → IsRunning w P room above t (suc n) g seen
    → record_of w (evaluation_with (suc room) w P above t) ≡ record { task = t; observations = seen; writes = hashed w g.own; outcome = Failed t k }

-- a look at a path that two required tasks wrote ends the run
abbrev pub RunsEndClashing : Type 0
RunsEndClashing =
    (w : World) (P : Project) (room : ℕ) (above : List Task) (t : Task) (n : ℕ) (g : Progress) (seen : List Observation) (l : Look) (p : Path)
    → P.next t g.answers ≡ LookAt l p → visible_at P.file g.own g.kids p ≡ Clashing → IsRunning w P room above t (suc n) g seen
    → record_of w (evaluation_with (suc room) w P above t)
    ≡ record { task = t; observations = seen ++ observed (Looked l p) Absent ∷ []; writes = hashed w g.own; outcome = Failed t Clash }

-- a listing that is too big ends the run
abbrev pub RunsEndTooBig : Type 0
RunsEndTooBig =
    (w : World) (P : Project) (room : ℕ) (above : List Task) (t : Task) (n : ℕ) (g : Progress) (seen : List Observation) (d : Path)
    → P.next t g.answers ≡ ListOf d → listing w P d ≡ None → IsRunning w P room above t (suc n) g seen
    → record_of w (evaluation_with (suc room) w P above t)
    ≡ record { task = t; observations = seen ++ observed (Listed d) Absent ∷ []; writes = hashed w g.own; outcome = Failed t Big }

-- a required task that did not end with a value ends the run with its outcome, and the require is kept
abbrev pub RunsEndAsRequired : Type 0
RunsEndAsRequired =
    (w : World) (P : Project) (room : ℕ) (above : List Task) (t : Task) (n : ℕ) (g : Progress) (seen : List Observation) (h : How) (u : Task) (e : Outcome)
    → P.next t g.answers ≡ Require h u → outcome_of (evaluation_with room w P (t ∷ above) u) ≡ e → is_done e ≡ false → IsRunning w P room above t (suc n) g seen
    → record_of w (evaluation_with (suc room) w P above t)
    ≡ record { task = t; observations = seen ++ observed (Required h u) Absent ∷ []; writes = hashed w g.own; outcome = e }

-- so a run ends with a value or by a fault of its own, or, where the required task did, by that task's fault
abbrev pub AnsweredRunsEndPlain : Type 0
AnsweredRunsEndPlain =
    (w : World) (P : Project) (room : ℕ) (above : List Task) (t : Task) (n : ℕ) (g : Progress) (seen : List Observation) (h : How) (u : Task)
    → P.next t g.answers ≡ Require h u → is_plain (outcome_of (evaluation_with room w P (t ∷ above) u)) ≡ true
    → is_done (outcome_of (evaluation_with room w P (t ∷ above) u)) ≡ false → IsRunning w P room above t (suc n) g seen
    → is_plain (outcome_of (evaluation_with (suc room) w P above t)) ≡ true

-- a required task that stands above ends the run in the cycle from that task to this one
abbrev pub RunsEndInCycle : Type 0
RunsEndInCycle =
    (w : World) (P : Project) (room : ℕ) (above : List Task) (t : Task) (n : ℕ) (g : Progress) (seen : List Observation) (h : How) (u : Task)
    → P.next t g.answers ≡ Require h u → among u (t ∷ above) ≡ true → IsRunning w P room above t (suc n) g seen
    → outcome_of (evaluation_with (suc room) w P above t) ≡ Cycled (round u (t ∷ above) [])

-- a run that ended with a value or by a fault is the task's evaluation with nothing above
abbrev pub EndedRunsAreAlone : Type 0
EndedRunsAreAlone =
    (w : World) (P : Project) (room : ℕ) (above : List Task) (t : Task) → room ≤ w.most_tasks → is_plain (outcome_of (evaluation_with room w P above t)) ≡ true
    → evaluation w P t ≡ evaluation_with room w P above t

-- an outcome that is no value sinks through all that wait for it to the root
abbrev pub OutcomesSink : Type 0
OutcomesSink =
    (w : World) (P : Project) (root : Task) (fs : List Frame) (u : Task) (e : Outcome) → IsWaiting w P root fs u
    → outcome_of (evaluation_under w P (tasks_of fs) u) ≡ e → is_done e ≡ false → outcome_of (evaluation w P root) ≡ e

-- and then the root enters what the frames entered and what that task enters, and nothing more
abbrev pub EnteredTasksSink : Type 0
EnteredTasksSink =
    (w : World) (P : Project) (root : Task) (base : List Task) (fs : List Frame) (u : Task) (e : Outcome) → IsWaiting w P root fs u
    → outcome_of (evaluation_under w P (tasks_of fs) u) ≡ e → is_done e ≡ false
    → entered (evaluation w P root) base ≡ entered (evaluation_under w P (tasks_of fs) u) (entered_by base fs)

-- whatever follows, these tasks stand in front of what the root enters
abbrev pub EnteredTasksComeFirst : Type 0
EnteredTasksComeFirst =
    (w : World) (P : Project) (root : Task) (base : List Task) (fs : List Frame) (u : Task) → IsWaiting w P root fs u
    → Begins (entered (evaluation_under w P (tasks_of fs) u) (entered_by base fs)) (entered (evaluation w P root) base)
