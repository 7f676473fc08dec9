-- What holds where a task, a root or a build ends.
use Rattle.std.specs.Prelude.{ℕ, suc, ◌≡◌, true, false, Option, None, List, [], ◌∷◌, ◌++◌, reverse}
use Rattle.pie_model.specs.Paths.{Path, among}
use Rattle.pie_model.specs.Tasks.{Task, Value}
use Rattle.pie_model.specs.declared.words.Look.{Look}
use Rattle.pie_model.specs.declared.words.How.{How}
use Rattle.pie_model.specs.declared.words.FaultKind.{FaultKind}
use Rattle.pie_model.specs.declared.words.FaultKind.TheVariants.{Clash, Budget, Big}
use Rattle.pie_model.specs.declared.words.Event.TheVariants.{Done, Fail, LookAt, ListOf, Require}
use Rattle.pie_model.specs.Trees.{outcome_of, trace_of, writes_of, is_done, entered}
use Rattle.pie_model.specs.declared.words.Seen.TheVariants.{Clashing}
use Rattle.pie_model.specs.declared.words.Outcome.TheVariants.{Ended, Failed, Cycled}
use Rattle.pie_model.specs.Seen.{visible_at}
use Rattle.pie_model.specs.Evaluation.{World, Project, listing, round, evaluation}
use Rattle.pie_model.specs.Records.{Record}
use Rattle.pie_model.specs.inner.Steps.{ChangesAt}
use Rattle.pie_model.specs.inner.Stack.{Frame, tasks_of, Begins}
use Rattle.pie_step_laws.specs.Table.{Rests}
use Rattle.pie_step_laws.specs.Frames.{was_answered, record_left}
use Rattle.pie_step_laws.specs.UnderWay.{UnderWay, HasEnded}

-- ---- a task ends with a value

-- it leaves the record of its evaluation, and the one that waits for it goes on with the value
abbrev pub TasksEnd : Type 0
TasksEnd =
    (w : World) (P : Project) (root : Task) (base : List Task) (R S : Task → Option Record) (names : List Task) (gs : List Frame) (g f : Frame)
    (n : ℕ) (h : How) (v : Value) → UnderWay w P root base R names (g ∷ gs) f → f.left ≡ suc n → P.next f.task f.progress.answers ≡ Done v
    → ChangesAt R S f.task (record_left w f v) → P.next g.task g.progress.answers ≡ Require h f.task
    → UnderWay w P root base S names gs (was_answered w P g g.left h f.task v)

-- how a frame requires the task of the one above it
pub record Requires (P : Project) (g : Frame) (u : Task) : Type 0 where
  pub how : How
  pub next : P.next g.task g.progress.answers ≡ Require how u

-- the newest waiting frame waits for the running task
abbrev pub FramesWait : Type 0
FramesWait =
    (w : World) (P : Project) (root : Task) (base : List Task) (R : Task → Option Record) (names : List Task) (gs : List Frame) (g f : Frame)
    → UnderWay w P root base R names (g ∷ gs) f → Requires P g f.task

-- with no one waiting the root rests
abbrev pub RootsRest : Type 0
RootsRest =
    (w : World) (P : Project) (root : Task) (base : List Task) (R S : Task → Option Record) (names : List Task) (f : Frame) (n : ℕ) (v : Value)
    → UnderWay w P root base R names [] f → f.left ≡ suc n → P.next f.task f.progress.answers ≡ Done v → ChangesAt R S f.task (record_left w f v)
    → Rests w P S names

-- and ends with the value
abbrev pub RootsEnd : Type 0
RootsEnd =
    (w : World) (P : Project) (root : Task) (base : List Task) (R : Task → Option Record) (names : List Task) (f : Frame) (n : ℕ) (v : Value)
    → UnderWay w P root base R names [] f → f.left ≡ suc n → P.next f.task f.progress.answers ≡ Done v → HasEnded w P root base names (Ended v)

-- what the evaluation of a task wrote is what its run wrote
abbrev pub EndedTasksWrote : Type 0
EndedTasksWrote =
    (w : World) (P : Project) (root : Task) (base : List Task) (R : Task → Option Record) (names : List Task) (fs : List Frame) (f : Frame) (n : ℕ)
    (v : Value) → UnderWay w P root base R names fs f → f.left ≡ suc n → P.next f.task f.progress.answers ≡ Done v
    → writes_of (trace_of (evaluation w P f.task)) ≡ f.progress.own

-- ---- the root ends with no value

-- the running task fails
abbrev pub RootsFail : Type 0
RootsFail =
    (w : World) (P : Project) (root : Task) (base : List Task) (R : Task → Option Record) (names : List Task) (fs : List Frame) (f : Frame) (n : ℕ)
    (k : FaultKind) → UnderWay w P root base R names fs f → f.left ≡ suc n → P.next f.task f.progress.answers ≡ Fail k
    → HasEnded w P root base names (Failed f.task k)

-- it has no event left
abbrev pub RootsRunOut : Type 0
RootsRunOut =
    (w : World) (P : Project) (root : Task) (base : List Task) (R : Task → Option Record) (names : List Task) (fs : List Frame) (f : Frame)
    → UnderWay w P root base R names fs f → f.left ≡ 0 → HasEnded w P root base names (Failed f.task Budget)

-- it looks at a path that two tasks wrote
abbrev pub RootsClash : Type 0
RootsClash =
    (w : World) (P : Project) (root : Task) (base : List Task) (R : Task → Option Record) (names : List Task) (fs : List Frame) (f : Frame) (n : ℕ)
    (l : Look) (p : Path) → UnderWay w P root base R names fs f → f.left ≡ suc n → P.next f.task f.progress.answers ≡ LookAt l p
    → visible_at P.file f.progress.own f.progress.kids p ≡ Clashing → HasEnded w P root base names (Failed f.task Clash)

-- it lists a directory with too many entries
abbrev pub RootsListTooMuch : Type 0
RootsListTooMuch =
    (w : World) (P : Project) (root : Task) (base : List Task) (R : Task → Option Record) (names : List Task) (fs : List Frame) (f : Frame) (n : ℕ)
    (d : Path) → UnderWay w P root base R names fs f → f.left ≡ suc n → P.next f.task f.progress.answers ≡ ListOf d → listing w P d ≡ None
    → HasEnded w P root base names (Failed f.task Big)

-- it requires a task that was entered and is not recorded, so one of the stack: the cycle goes from that one to the running task
abbrev pub RootsEndInCycle : Type 0
RootsEndInCycle =
    (w : World) (P : Project) (root : Task) (base : List Task) (R : Task → Option Record) (names : List Task) (fs : List Frame) (f : Frame) (n : ℕ)
    (h : How) (u : Task) → UnderWay w P root base R names fs f → f.left ≡ suc n → P.next f.task f.progress.answers ≡ Require h u
    → among u names ≡ true → R u ≡ None → HasEnded w P root base names (Cycled (round u (f.task ∷ tasks_of fs) []))

-- where a task stands last among those below, the cycle is read from it on upwards: here `ys` stand above it, the newest first
abbrev pub RoundsAreRead : Type 0
RoundsAreRead = (u : Task) (ys xs : List Task) → among u ys ≡ false → round u (ys ++ u ∷ xs) [] ≡ u ∷ reverse ys

-- ---- too many tasks

-- the running task requires a new one: whatever follows, the root enters that one too
abbrev pub RootsEnterTooMany : Type 0
RootsEnterTooMany =
    (w : World) (P : Project) (root : Task) (base : List Task) (R : Task → Option Record) (names : List Task) (fs : List Frame) (f : Frame) (n : ℕ)
    (h : How) (u : Task) → UnderWay w P root base R names fs f → f.left ≡ suc n → P.next f.task f.progress.answers ≡ Require h u
    → among u names ≡ false → Begins (names ++ u ∷ []) (entered (evaluation w P root) base)

-- and so does a root that was not entered yet
abbrev pub NewRootsAreEntered : Type 0
NewRootsAreEntered =
    (w : World) (P : Project) (names : List Task) (root : Task) → among root names ≡ false
    → Begins (names ++ root ∷ []) (entered (evaluation w P root) names)

-- ---- a root that was entered before

-- it ended with a value
abbrev pub KnownRootsAreDone : Type 0
KnownRootsAreDone =
    (w : World) (P : Project) (R : Task → Option Record) (names : List Task) (root : Task) → Rests w P R names → among root names ≡ true
    → is_done (outcome_of (evaluation w P root)) ≡ true

-- and enters nothing new
abbrev pub KnownRootsEnterNothing : Type 0
KnownRootsEnterNothing =
    (w : World) (P : Project) (R : Task → Option Record) (names : List Task) (root : Task) → Rests w P R names → among root names ≡ true
    → entered (evaluation w P root) names ≡ names
