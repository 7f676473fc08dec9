-- Steps beside the running tasks keep them going.
use Rattle.std.proofs.Common.{◌≡◌, ℕ, true, false, Some, List, [], ◌∷◌, take, sym, ap, subst, ◌∙◌, append-nil}
use Rattle.std.specs.Prelude.{slice_get}
use Rattle.pie_value.specs.declared.task.Task.{Task}
use Rattle.pie_value.specs.declared.event.Event.{Event}
use Rattle.pie_value.specs.Canonical.{enc_task}
use Rattle.pie_code.specs.declared.code.Code.{Code}
use Rattle.pie_vm.specs.Machines.{Standing}
use Rattle.pie_view.specs.Content.{Staged, content}
use Rattle.pie_walk.specs.Marks.{mark_of}
use Rattle.pie_model.specs.Paths.{among}
use Rattle.pie_model.specs.inner.RecordLaws.{Passes}
use Rattle.pie_model.specs.inner.Stack.{Frame, tasks_of}
use Rattle.pie_model.proofs.Basics.{clash, among_here, among_there}
use Rattle.pie_settle_laws.specs.Going.{before_wait}
use Rattle.pie_settle_laws.proofs.Goings.{still_going}
use Rattle.pie_model_pipeline.specs.World.{world}
use Rattle.pie_builder_laws.specs.Names.{called_in}
use Rattle.pie_builder_laws.specs.Tables.{recorded}
use Rattle.pie_builder_laws.specs.Views.{AreNumbersOf}
use Rattle.pie_running.specs.declared.frame.Waiting.{Waiting}
use Rattle.pie_running.specs.declared.frame.Caller.{Caller}
use Rattle.pie_running.specs.inner.Noted.{Noted}
use Rattle.pie_core_laws.specs.Update.{present}
use Rattle.pie_core_laws.specs.Exact.{runs, busy_by}
use Rattle.pie_core_laws.specs.Running.{AreRunning}
use Rattle.pie_task_laws.specs.Sites.{Site, Build, IsExactAt}
use Rattle.pie_task_laws.specs.Frames.{IsFrame, AreCallers}
use Rattle.pie_task_laws.specs.Going.{GoesAbove, AllGo, AreTaken, Wait, Runs, MayBegin}
use Rattle.pie_task_laws.specs.Coming.{IsAsking}
use Rattle.pie_task_laws.specs.Steps.{IsUp, Steps, AllStep, OthersStep}
use Rattle.pie_task_laws.proofs.Frames.{frame_moves}
use Rattle.pie_task_laws.proofs.Numbering.{same_number, up_at, name_stays, numbers_stay}

module _ (x : Site) (these : ℕ → Type 0) (old new : Build) (e : IsExactAt x old) (S : Steps x these old new) where
  pub goes_still : (below : List Frame) (f : Frame) → GoesAbove x old below f → GoesAbove x new below f
  goes_still below f g = record {
    base = g.base;
    is_base = g.is_base;
    depth = g.depth;
    goes = still_going world (present x.update) (recorded old.names old.records) (recorded new.names new.records) (Passes (busy_by old.names old.walk))
        (Passes (busy_by new.names new.walk)) g.base (take g.depth below) f S.stays.settles g.goes;
  }

  pub all_still : (fs : List Frame) → AllGo x old fs → AllGo x new fs
  all_still [] g = tt
  all_still (f ∷ fs) g = (goes_still fs (before_wait f) g.0, all_still fs g.1)

  pub named_still : (n : ℕ) (t : Task) → slice_get old.names n ≡ Some t → slice_get new.names n ≡ Some t
  named_still n t i = subst (λ ns. slice_get ns n ≡ Some t) (sym S.grown.1) (name_stays old.names S.grown.0 n t i)

  numbers_still : (ns : List ℕ) (ts : List Task) → AreNumbersOf old.names ns ts → AreNumbersOf new.names ns ts
  numbers_still ns ts i = subst (λ us. AreNumbersOf us ns ts) (sym S.grown.1) (numbers_stay old.names S.grown.0 ns ts i)

  -- each of these tasks is one of those that still run
  abbrev Spared : List Frame → Type 0
  Spared fs = (y : List ℕ) → among y (tasks_of fs) ≡ true → (k : ℕ) (t : Task) → slice_get old.names k ≡ Some t → y ≡ enc_task t → these k

  pub running_still : (fs : List Frame) → Spared fs → AreRunning old.names old.walk (tasks_of fs) → AreRunning new.names new.walk (tasks_of fs)
  running_still fs spared r = λ y i.
      let m = r y i in
      record {
        number = m.number;
        task = m.task;
        named = named_still m.number m.task m.named;
        bytes = m.bytes;
        ran = S.up m.number m.ran (spared y i m.number m.task m.named m.bytes);
      }

  pub frame_still : (code : Code) (m : Standing) (n : Noted) (left : ℕ) (g : Frame) → IsUp old n.number → these n.number
      → IsFrame x old code m n left g
      → IsFrame x new code m n left g
  frame_still code m n left g up spared F =
      frame_moves x old code m n left g F new (named_still n.number n.task F.named)
      (numbers_still n.needs (called_in n.deps) F.needs) (S.staged n.number up spared)

  pub callers_still : (fs : List Frame) (cs : List Caller) → Spared fs → AreRunning old.names old.walk (tasks_of fs) → AreCallers x old fs cs
      → AreCallers x new fs cs
  callers_still [] [] spared r m = m
  callers_still [] (c ∷ cs) spared r m = absurd m
  callers_still (g ∷ gs) [] spared r m = absurd m
  callers_still (g ∷ gs) (c ∷ cs) spared r m = (
    record {
      left = m.0.left;
      is_left = m.0.is_left;
      frame = frame_still c.waiting.code.now c.waiting.machine c.waiting.notes m.0.left g
          (up_at old.names e.tasks old.walk g.task c.waiting.notes.number c.waiting.notes.task m.0.frame.named m.0.frame.task
          (r g.task (among_here g.task (tasks_of gs))))
          (spared g.task (among_here g.task (tasks_of gs)) c.waiting.notes.number c.waiting.notes.task m.0.frame.named m.0.frame.task) m.0.frame;
      waits = m.0.waits;
      canonical = m.0.canonical;
    },
    callers_still gs cs (λ y i. spared y (among_there y g.task (tasks_of gs) i)) (λ y i. r y (among_there y g.task (tasks_of gs) i)) m.1,
  )

  abbrev pub wait_still : (cs : List Caller) (W : Wait x old cs) → Spared W.frames → Wait x new cs
  wait_still cs W spared = record {
    frames = W.frames;
    mean = callers_still W.frames cs spared W.taken.running W.mean;
    go = all_still W.frames W.go;
    taken = record { running = running_still W.frames spared W.taken.running; once = W.taken.once };
  }

  abbrev pub runs_still : (cs : List Caller) (code : Code) (m : Standing) (n : Noted) (R : Runs x old cs code m n) → Spared (R.frame ∷ R.below)
      → Runs x new cs code m n
  runs_still cs code m n R spared = record {
    below = R.below;
    frame = R.frame;
    mean = callers_still R.below cs (λ y i. spared y (among_there y R.frame.task (tasks_of R.below) i))
        (λ y i. R.taken.running y (among_there y R.frame.task (tasks_of R.below) i)) R.mean;
    means = frame_still code m n n.left R.frame
        (up_at old.names e.tasks old.walk R.frame.task n.number n.task R.means.named R.means.task
        (R.taken.running R.frame.task (among_here R.frame.task (tasks_of R.below))))
        (spared R.frame.task (among_here R.frame.task (tasks_of R.below)) n.number n.task R.means.named R.means.task) R.means;
    go = all_still R.below R.go;
    goes = goes_still R.below R.frame R.goes;
    taken = record { running = running_still (R.frame ∷ R.below) spared R.taken.running; once = R.taken.once };
  }

-- ---- the laws

abbrev pub running_stay : (x : Site) (old new : Build) (cs : List Caller) (code : Code) (m : Standing) (n : Noted) → IsExactAt x old → AllStep x old new
    → Runs x old cs code m n → Runs x new cs code m n
running_stay x old new cs code m n e S R = runs_still x (λ k. Unit {0}) old new e S cs code m n R (λ y i k t a b. tt)

pub asking_stay : (x : Site) (old new : Build) (cs : List Caller) (w : Waiting) (v : Event) → IsExactAt x old → AllStep x old new
    → IsAsking x old cs w v → IsAsking x new cs w v
asking_stay x old new cs w v e S A = record {
  runs = running_stay x old new cs w.code.now w.machine w.notes e S A.runs;
  asks = A.asks;
  came = A.came;
}

abbrev pub waiting_stay : (x : Site) (old new : Build) (cs : List Caller) → IsExactAt x old → AllStep x old new → Wait x old cs → Wait x new cs
waiting_stay x old new cs e S W = wait_still x (λ k. Unit {0}) old new e S cs W (λ y i k t a b. tt)

abbrev pub beginning_stay : (x : Site) (old new : Build) (cs : List Caller) (t : Task) → IsExactAt x old → AllStep x old new → MayBegin x old cs t
    → MayBegin x new cs t
beginning_stay x old new cs t e S M = record {
  wait = waiting_stay x old new cs e S M.wait;
  goes = goes_still x (λ k. Unit {0}) old new e S M.wait.frames _ M.goes;
}

-- the tasks that wait below one are others
pub others : (x : Site) (b : Build) (cs : List Caller) (code : Code) (m : Standing) (n : Noted) → IsExactAt x b → (R : Runs x b cs code m n)
    → (y : List ℕ) → among y (tasks_of R.below) ≡ true → (k : ℕ) (t : Task) → slice_get b.names k ≡ Some t → y ≡ enc_task t → k ≡ n.number → ⊥
others x b cs code m n e R y i k t named bytes same =
    clash (among R.frame.task (tasks_of R.below)) (subst (λ z. among z (tasks_of R.below) ≡ true) (bytes ∙ ap enc_task one ∙ sym R.means.task) i)
    R.taken.once.0
  where
    inside : {X : Type 0} {p q : X} → Some p ≡ Some q → p ≡ q
    inside h = cc

    one : t ≡ n.task
    one = inside (sym named ∙ ap (slice_get b.names) same ∙ R.means.named)

abbrev pub callers_stay : (x : Site) (old new : Build) (cs : List Caller) (code : Code) (m : Standing) (n : Noted) → IsExactAt x old
    → OthersStep x n.number old new → Runs x old cs code m n → Wait x new cs
callers_stay x old new cs code m n e S R = record {
  frames = R.below;
  mean = callers_still x _ old new e S R.below cs (others x old cs code m n e R) running R.mean;
  go = all_still x _ old new e S R.below R.go;
  taken = record { running = running_still x _ old new e S R.below (others x old cs code m n e R) running; once = R.taken.once.1 };
}
  where
    running : AreRunning old.names old.walk (tasks_of R.below)
    running y i = R.taken.running y (among_there y R.frame.task (tasks_of R.below) i)

pub stagings_step : (x : Site) (b : Build) (later : Staged) → IsExactAt x b
    → ((k : ℕ) → IsUp b k → (p : List ℕ) → content later k p ≡ content b.stage k p) → AllStep x b (record b { stage = later })
stagings_step x b later e same = record {
  stays = record { exact = e; settles = λ y h. h };
  grown = ([], sym (append-nil b.names));
  up = λ k u o. u;
  staged = λ k u o p. same k u p;
}

-- a task that was taken and had not run is another one than those that wait
pub taken_pass : (x : Site) (old taken new : Build) (cs : List Caller) (t : Task) (k : ℕ) → IsExactAt x old → IsExactAt x taken → AllStep x old taken
    → runs (mark_of old.walk.marks k) ≡ false → slice_get taken.names k ≡ Some t → OthersStep x k taken new → Wait x old cs → Wait x new cs
taken_pass x old taken new cs t k e f S was named T W = wait_still x _ taken new f T cs (waiting_stay x old taken cs e S W) apart
  where
    apart : (y : List ℕ) → among y (tasks_of W.frames) ≡ true → (j : ℕ) (u : Task) → slice_get taken.names j ≡ Some u → y ≡ enc_task u → j ≡ k → ⊥
    apart y i j u there bytes same =
        let r = W.taken.running y i in
        let at : r.number ≡ j
        = same_number taken.names f.tasks r.number j r.task u (named_still x (λ n. Unit {0}) old taken e S r.number r.task r.named) there
        (sym r.bytes ∙ bytes) in
        clash (runs (mark_of old.walk.marks k)) (subst (λ n. runs (mark_of old.walk.marks n) ≡ true) (at ∙ same) r.ran) was

-- the newest that waits is another one than those below it
pub older_stay : (x : Site) (old new : Build) (c : Caller) (cs : List Caller) → IsExactAt x old → OthersStep x c.waiting.notes.number old new
    → Wait x old (c ∷ cs) → Wait x new cs
older_stay x old new c cs e S W = by W.frames W.mean W.go W.taken
  where
    inside : {X : Type 0} {p q : X} → Some p ≡ Some q → p ≡ q
    inside h = cc

    by : (fs : List Frame) → AreCallers x old fs (c ∷ cs) → AllGo x old fs → AreTaken old fs → Wait x new cs
    by [] m g a = absurd m
    by (f ∷ fs) m g a = wait_still x _ old new e S cs (record { frames = fs; mean = m.1; go = g.1; taken = record { running = below; once = a.once.1 } }) apart
      where
        below : AreRunning old.names old.walk (tasks_of fs)
        below y i = a.running y (among_there y f.task (tasks_of fs) i)

        apart : (y : List ℕ) → among y (tasks_of fs) ≡ true → (k : ℕ) (t : Task) → slice_get old.names k ≡ Some t → y ≡ enc_task t
            → k ≡ c.waiting.notes.number → ⊥
        apart y i k t named bytes same =
            let one : t ≡ c.waiting.notes.task = inside (sym named ∙ ap (slice_get old.names) same ∙ m.0.frame.named) in
            clash (among f.task (tasks_of fs)) (subst (λ z. among z (tasks_of fs) ≡ true) (bytes ∙ ap enc_task one ∙ sym m.0.frame.task) i) a.once.0
