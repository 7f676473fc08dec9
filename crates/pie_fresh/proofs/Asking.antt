-- Which paths a running task asks for: those that its evaluation observes.
use Rattle.std.proofs.Common.{◌≡◌, inl, inr, ℕ, zero, suc, ◌<◌, ◌≤◌, ◌-◌, Bool, true, false, cond, List, [], ◌∷◌, ◌++◌, length, Option, None, Some}
use Rattle.std.proofs.Common.{refl, sym, ap, subst, ◌∙◌, arith}
use Rattle.pie_base.specs.Path.{is_source}
use Rattle.pie_value.specs.declared.event.Event.{Event}
use Rattle.pie_value.specs.declared.event.Event.TheVariants as events
use Rattle.pie_files.specs.Directory.{Directory}
use Rattle.pie_files.specs.declared.files.Call.{Call}
use Rattle.pie_named.specs.Asking.{AsksFor, LooksAt}
use Rattle.pie_named.proofs.Calls.{no_calls, one_call, calls_then, asks_as}
use Rattle.pie_running.specs.declared.frame.Paused.TheVariants.{Asks}
use Rattle.pie_running.specs.declared.frame.RunningTask.{RunningTask}
use Rattle.pie_running.specs.declared.frame.Waiting.{Waiting}
use Rattle.pie_running.specs.inner.Asking.{AsksOnly, AsksTwice}
use Rattle.pie_running.specs.inner.Noted.{Noted}
use Rattle.pie_running.specs.inner.Steps.{Comes}
use Rattle.pie_model.specs.Paths.{Path, among}
use Rattle.pie_model.specs.Tasks.{Task}
use Rattle.pie_model.specs.Trees.{Trace, ends, looks, lists, writes, needs, trace_of}
use Rattle.pie_model.specs.Evaluation.{World, Project, listing, on_seen, on_listing, on_event, evaluation_with, evaluation}
use Rattle.pie_model.specs.Records.{Record, Query, Looked, Listed, Required, Observation, observations_of}
use Rattle.pie_model.specs.Reasons.{observed_paths}
use Rattle.pie_model.specs.Running.{rest_of_run}
use Rattle.pie_model.specs.Seen.{visible_at}
use Rattle.pie_model.specs.inner.Stack.{Frame, tasks_of}
use Rattle.pie_model.specs.declared.words.Look.{Look}
use Rattle.pie_model.specs.declared.words.Look.TheVariants as looks_by
use Rattle.pie_model.specs.declared.words.Event.{Event as ModelEvent}
use Rattle.pie_model.specs.declared.words.Event.TheVariants as model
use Rattle.pie_model.specs.declared.words.FaultKind.TheVariants as model_faults
use Rattle.pie_model.specs.declared.words.Seen.{Seen}
use Rattle.pie_model.specs.declared.words.Seen.TheVariants.{Nothing, Holds, Clashing}
use Rattle.pie_model.proofs.Basics.{among_here, among_right}
use Rattle.pie_model_pipeline.specs.Words.{effect_of, look_by}
use Rattle.pie_model_pipeline.specs.World.{world}
use Rattle.pie_step_laws.specs.UnderWay.{UnderWay}
use Rattle.pie_step_laws.proofs.StepLemmas.{runs_with}
use Rattle.pie_fresh.specs.declared.builder.Builder.{Builder}
use Rattle.pie_fresh.specs.inner.Asked.{IsAskedBy, Observes, TurnsAsking}
use Rattle.pie_fresh.specs.inner.Means.{Site, project_of, table_of, names_of, IsAsking}
use Rattle.pie_fresh.proofs.Alone.{Sees, seen_alone}
use Rattle.pie_fresh.proofs.Turning.{ComesWith, comes_asking}

-- ---- calls of a running task

-- at the most one call
pub asks_once : {S : Type 0} (P : List ℕ → Type 0) (asked : S → Option (List Call)) (may : Bool) (call : Call) (old new : S)
    → (may ≡ true → LooksAt P call) → AsksOnly asked may call old new → AsksFor P (asked old) (asked new)
asks_once {S} P asked may call old new is asks = by may refl
  where
    by : (b : Bool) → may ≡ b → AsksFor P (asked old) (asked new)
    by false e = no_calls (LooksAt P) (asked old) (asked new) (asks.not e)
    by true e = elim asks.once [
      | inl same ↦ no_calls (LooksAt P) (asked old) (asked new) same
      | inr noted ↦ one_call (LooksAt P) call (asked old) (asked new) (is e) noted
    ]

-- at the most the same one twice
pub asks_twice : {S : Type 0} (P : List ℕ → Type 0) (asked : S → Option (List Call)) (may : Bool) (call : Call) (old new : S)
    → (may ≡ true → LooksAt P call) → AsksTwice asked may call old new → AsksFor P (asked old) (asked new)
asks_twice {S} P asked may call old new is asks = elim asks.only [
  | inl only ↦ asks_once P asked may call old new is only
  | inr twice ↦
      let both = twice.1 in
      calls_then (LooksAt P) (asked old) both.between (asked new) (one_call (LooksAt P) call (asked old) both.between (is twice.0) both.first)
      (one_call (LooksAt P) call both.between (asked new) (is twice.0) both.second)
]

-- nothing was asked
pub asks_none : (P : List ℕ → Type 0) (asked : Option (List Call)) → AsksFor P asked asked
asks_none P asked = no_calls (LooksAt P) asked asked refl

-- ---- a look is one of those of the evaluation

-- the path that a query looks at
abbrev path_asked : Query → List Path
path_asked (Looked l p) = p ∷ []
path_asked (Listed d) = d ∷ []
path_asked (Required h u) = []

abbrev paths_asked : List Observation → List Path
paths_asked [] = []
paths_asked (o ∷ os) = path_asked o.query ++ paths_asked os

paths_of-observations : (w : World) (k : Trace) → paths_asked (observations_of w k) ≡ observed_paths k
paths_of-observations w (ends e) = refl
paths_of-observations w (looks l p s k) = ap (λ z. p ∷ z) (paths_of-observations w k)
paths_of-observations w (lists d es k) = ap (λ z. d ∷ z) (paths_of-observations w k)
paths_of-observations w (writes p b k) = paths_of-observations w k
paths_of-observations w (needs h u n k) = paths_of-observations w k

asked_behind : (p : Path) (xs ys : List Observation) → among p (paths_asked ys) ≡ true → among p (paths_asked (xs ++ ys)) ≡ true
asked_behind p [] ys h = h
asked_behind p (x ∷ xs) ys h = among_right p (path_asked x.query) (paths_asked (xs ++ ys)) (asked_behind p xs ys h)

most_tasks_are : (a b c : ℕ) → a - b ≡ suc c → a ≡ suc (a - 1)
most_tasks_are a b c e = omega arith

room_fits : (a b c : ℕ) → a - b ≡ suc c → c ≤ a - 1
room_fits a b c e = omega arith

-- the running task of a root under way, which may go on
module _ (w : World) (P : Project) (root : Task) (base : List Task) (R : Task → Option Record) (names : List Task) (fs : List Frame) (f : Frame)
    (U : UnderWay w P root base R names fs f) (n : ℕ) (left : f.left ≡ suc n) where
  -- what follows is what the next event gives
  abbrev follows : ModelEvent → Trace
  follows e = on_event w P (evaluation_with U.room w P (f.task ∷ tasks_of fs)) f.task f.progress (rest_of_run w P U.room (tasks_of fs) f.task n) e

  asked_next : (p : Path) (e : ModelEvent) → P.next f.task f.progress.answers ≡ e → among p (paths_asked (observations_of w (follows e))) ≡ true
      → Sees p (trace_of (evaluation w P f.task))
  asked_next p e is h =
      seen_alone w P (tasks_of fs) f.task p U.room (w.most_tasks - 1) (most_tasks_are w.most_tasks (length (tasks_of fs)) U.room U.is_room)
      (room_fits w.most_tasks (length (tasks_of fs)) U.room U.is_room)
      (subst (λ z. among p z ≡ true) (paths_of-observations w (trace_of (evaluation_with (suc U.room) w P (tasks_of fs) f.task)))
      (subst (λ z. among p (paths_asked z) ≡ true)
      (sym ((runs_with w P root base R names fs f U n left).observations ∙ ap (λ z. f.seen ++ observations_of w (follows z)) is))
      (asked_behind p f.seen (observations_of w (follows e)) h)))

  looked_first : (l : Look) (p : Path) (s : Seen)
      → among p (paths_asked (observations_of w (on_seen w f.task l p f.progress (rest_of_run w P U.room (tasks_of fs) f.task n) s))) ≡ true
  looked_first l p Nothing = among_here p _
  looked_first l p (Holds b m) = among_here p _
  looked_first l p Clashing = among_here p []

  listed_first : (d : Path) (es : Option (List Path))
      → among d (paths_asked (observations_of w (on_listing f.task d f.progress (rest_of_run w P U.room (tasks_of fs) f.task n) es))) ≡ true
  listed_first d None = among_here d []
  listed_first d (Some es) = among_here d _

  pub next_looked : (l : Look) (p : Path) → P.next f.task f.progress.answers ≡ model.LookAt l p → Sees p (trace_of (evaluation w P f.task))
  next_looked l p is = asked_next p (model.LookAt l p) is (looked_first l p (visible_at P.file f.progress.own f.progress.kids p))

  pub next_listed : (d : Path) → P.next f.task f.progress.answers ≡ model.ListOf d → Sees d (trace_of (evaluation w P f.task))
  next_listed d is = asked_next d (model.ListOf d) is (listed_first d (listing w P d))

-- ---- the running task of a build

over_none : (n : ℕ) → 0 < n → (m : ℕ) × (n ≡ suc m)
over_none zero h = absurd (omega (arith, h))
over_none (suc m) h = (m, refl)

module _ (s : Site) (b : Builder) (w : Waiting) (e : Event) (A : IsAsking s b w e) (some : 0 < w.notes.left) where
  left : (m : ℕ) × (A.means.running.left ≡ suc m)
  left = let n = over_none w.notes.left some in (n.0, A.means.top.left ∙ n.1)

  looked : (l : Look) (p : List ℕ) → effect_of e ≡ model.LookAt l p → is_source p ≡ true → Observes s w.notes.task p
  looked l p is source = (
    subst (λ t. Sees p (trace_of (evaluation world (project_of s) t))) A.means.top.task
        (next_looked world (project_of s) s.root s.base (table_of b.ledger) (names_of b.ledger) A.means.waiting A.means.running A.means.under left.0 left.1 l p
        (A.asks ∙ is)),
    source,
  )

  listed : (d : List ℕ) → effect_of e ≡ model.ListOf d → is_source d ≡ true → Observes s w.notes.task d
  listed d is source = (
    subst (λ t. Sees d (trace_of (evaluation world (project_of s) t))) A.means.top.task
        (next_listed world (project_of s) s.root s.base (table_of b.ledger) (names_of b.ledger) A.means.waiting A.means.running A.means.under left.0 left.1 d
        (A.asks ∙ is)),
    source,
  )

  observed : (x : Event) → x ≡ e → (p : List ℕ) → IsAskedBy x p → Observes s w.notes.task p
  observed (events.Exists path) is p at = subst (Observes s w.notes.task) (sym at.0) (looked looks_by.Exists path (ap effect_of (sym is)) at.1)
  observed (events.Read path by) is p at = subst (Observes s w.notes.task) (sym at.0) (looked (look_by by) path (ap effect_of (sym is)) at.1)
  observed (events.Digest path) is p at = subst (Observes s w.notes.task) (sym at.0) (looked looks_by.Digest path (ap effect_of (sym is)) at.1)
  observed (events.List dir) is p at =
      subst (Observes s w.notes.task) (sym at.0)
      (listed dir (ap effect_of (sym is) ∙ ap (λ c. cond c (model.ListOf dir) (model.Fail model_faults.BadList)) at.1) at.1)
  observed (events.Write path bytes) is p at = absurd at
  observed (events.Require task how) is p at = absurd at
  observed (events.Done value) is p at = absurd at
  observed (events.Fail kind) is p at = absurd at

-- a step asks for what its event asks for
pub turn_asks : (held : Option Directory) (b : Builder) (f : RunningTask) (w : Waiting) (e : Event) (asked asked_now : Option (List Call))
    → Comes f.notes (Asks w e) → ComesWith f (Asks w e) → AsksFor (IsAskedBy e) asked asked_now → TurnsAsking held b f asked asked_now
turn_asks held b f w e asked asked_now comes came asks s h M =
    asks_as (IsAskedBy e) (Observes s f.notes.task) asked asked_now
    (λ p at. subst (λ (n : Noted). Observes s n.task p) comes.1
    (observed s b w e (comes_asking s b f M w e comes.1 (came _ M.top.follows)) comes.0.left e refl p at)) asks

pub turn_asks_none : (held : Option Directory) (b : Builder) (f : RunningTask) (asked : Option (List Call)) → TurnsAsking held b f asked asked
turn_asks_none held b f asked s h M = asks_none (Observes s f.notes.task) asked
