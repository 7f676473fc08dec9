-- What a row requires are union edges of its task, while it waits too.
use Rattle.std.proofs.Common.{◌≡◌, ◌⊎◌, ℕ, Bool, true, false, List, [], ◌∷◌, ◌++◌, map, reverse, Option, None, Some, refl, sym, ap, ◌∙◌, subst, inl, inr}
use Rattle.std.specs.Prelude.{slice_get, option_map, take, drop}
use Rattle.std.specs.List.{Contains}
use Rattle.std.proofs.lemmas.List.{take-append-drop, reverse-append}
use Rattle.std.proofs.lemmas.List.Elements.{All-contains, Contains-append_left, Contains-append_right, Contains-append_cases}
use Rattle.pie_value.specs.declared.task.Task.{Task}
use Rattle.pie_value.specs.Canonical.{enc_task}
use Rattle.pie_graph.specs.declared.edges.TaskNo.{TaskNo}
use Rattle.pie_graph.specs.Rows.{row_at, Calls}
use Rattle.pie_record.specs.declared.dep.Dep.{Dep}
use Rattle.pie_record.specs.declared.task_record.TaskRecord.{TaskRecord}
use Rattle.pie_record.specs.inner.Records.{record_of as kept_of}
use Rattle.pie_walk.specs.Marks.{mark_of, IsSettled}
use Rattle.pie_walk.specs.Standing.{Stands}
use Rattle.pie_running.specs.declared.frame.Caller.{Caller}
use Rattle.pie_frames.specs.declared.parked.Parked.{Parked}
use Rattle.pie_frames.specs.inner.Standing.{Holds, IsParked, number_of, numbers_up}
use Rattle.pie_order.specs.Cycles.{WouldCall}
use Rattle.pie_model.specs.Paths.{among}
use Rattle.pie_model.specs.Records.{needs_of}
use Rattle.pie_model.specs.Changes.{IsUnionEdge}
use Rattle.pie_model.specs.inner.Stack.{Frame}
use Rattle.pie_model.specs.inner.Present.Way.{here as arrived}
use Rattle.pie_model.specs.inner.RecordLaws.{Passes}
use Rattle.pie_model.proofs.Basics.{clash}
use Rattle.pie_model_pipeline.specs.Rows.{record_of, observation_of}
use Rattle.pie_model_pipeline.specs.Words.{how_of}
use Rattle.pie_model_pipeline.specs.World.{world}
use Rattle.pie_check_laws.proofs.Members.{none_in, only_one, here, there, here_or_there, into_map, from_map}
use Rattle.pie_settle_laws.specs.Going.{before_wait}
use Rattle.pie_builder_laws.specs.Names.{called_in}
use Rattle.pie_builder_laws.specs.Tables.{recorded}
use Rattle.pie_builder_laws.specs.Views.{AreNumbersOf}
use Rattle.pie_builder_laws.proofs.Naming.{named_back}
use Rattle.pie_builder_laws.proofs.Tabled.{needs_called, record_by_number}
use Rattle.pie_earlier_laws.proofs.Edging.{recorded_edge, answered_required, next_required}
use Rattle.pie_compare_laws.proofs.Ways.{one_some, task_of}
use Rattle.pie_core_laws.specs.Update.{Update, present, old_record}
use Rattle.pie_core_laws.specs.Exact.{runs, busy_by}
use Rattle.pie_core_laws.specs.Keeping.{Separates}
use Rattle.pie_core_laws.proofs.Exactly.{Stage, stage_of, idle_not_settled, settled_not_runs}
use Rattle.pie_core_laws.proofs.Exactly.Stage.{idle, going, done}
use Rattle.pie_core_laws.proofs.Kept.{settled_known}
use Rattle.pie_core_laws.proofs.Moved.{runs_waits}
use Rattle.pie_task_laws.specs.Sites.{Site, Build}
use Rattle.pie_task_laws.specs.Frames.{IsCaller, AreCallers}
use Rattle.pie_task_laws.specs.Going.{GoesAbove, AllGo}
use Rattle.pie_bottomup.specs.declared.state.Core.{Core}
use Rattle.pie_bottomup.specs.inner.Causes.{HasUnionEdge}
use Rattle.pie_bottomup.specs.inner.Exact.{IsExactCore, BeginsAsOld, WaitsAsOld}
use Rattle.pie_bottomup.specs.inner.Going.{site_of, build_of, callers_up, MayMeet}
use Rattle.pie_bottomup.specs.inner.Running.{IsCaller as IsCallerOf}
use Rattle.pie_bottomup.specs.inner.States.{IsOwn, IsSite}

-- ---- lists

pub within_reversed : {A : Type 0} (xs : List A) (x : A) → Contains xs x → Contains (reverse xs) x
within_reversed [] x h = h
within_reversed (y ∷ ys) x h =
    subst (λ zs. Contains zs x) (sym (reverse-append (y ∷ []) ys)) (elim (here_or_there y x ys h) [
      | inl e ↦ Contains-append_right (reverse ys) (y ∷ []) x (subst (Contains (y ∷ [])) e (here y []))
      | inr later ↦ Contains-append_left (reverse ys) (y ∷ []) x (within_reversed ys x later)
    ])

pub from_reversed : {A : Type 0} (xs : List A) (x : A) → Contains (reverse xs) x → Contains xs x
from_reversed [] x h = h
from_reversed (y ∷ ys) x h =
    elim (Contains-append_cases (reverse ys) (y ∷ []) x (subst (λ zs. Contains zs x) (reverse-append (y ∷ []) ys) h)) [
      | inl front ↦ there y x ys (from_reversed ys x front)
      | inr last ↦ subst (Contains (y ∷ ys)) (only_one y x last) (here y ys)
    ]

-- a number among those of what was observed is that of a task which the model requires
listed : (names : List Task) (ns : List ℕ) (deps : List Dep) (b : ℕ) (v : Task) → AreNumbersOf names ns (called_in deps) → Contains ns b
    → slice_get names b ≡ Some v → among (enc_task v) (needs_of (map observation_of deps)) ≡ true
listed names ns deps b v are within named =
    let m = task_of names ns (called_in deps) b are within in
    subst (λ xs. among (enc_task v) xs ≡ true) (sym (needs_called deps))
    (named_back (called_in deps) v (subst (Contains (called_in deps)) (one_some m.task v (sym m.named ∙ named)) m.listed))

-- ---- records

module _ (u : Update) (c : Core) (e : IsExactCore u c) where
  -- an old record requires it
  old_edge : (a b : ℕ) (t v : Task) (rec : TaskRecord) → kept_of c.tables.records a ≡ Some rec → slice_get c.tables.names a ≡ Some t
      → (IsSettled c.frames.walk.marks a → ⊥) → among (enc_task v) (needs_of (map observation_of rec.deps)) ≡ true → HasUnionEdge u t v
  old_edge a b t v rec kept named unsettled within =
      let its : rec.task ≡ t = one_some rec.task t (sym (e.are.tables.named a rec kept) ∙ named) in
      inl (record_of rec, ap (λ (x : Task). old_record u (enc_task x)) (sym its) ∙ (e.are.tables.old a rec kept unsettled).left, within)

  -- so does the one of a settled task
  settled_edge : Separates u → Stands c.frames.walk → (a b : ℕ) (t v : Task) (rec : TaskRecord) → kept_of c.tables.records a ≡ Some rec
      → slice_get c.tables.names a ≡ Some t → IsSettled c.frames.walk.marks a → among (enc_task v) (needs_of (map observation_of rec.deps)) ≡ true
      → HasUnionEdge u t v
  settled_edge apart stands a b t v rec kept named settled within =
      recorded_edge world (present u) (old_record u) (recorded c.tables.names c.tables.records) (enc_task t) (record_of rec) (enc_task v)
      (record_by_number c.tables.names c.tables.records a t e.are.tables.tasks named ∙ ap (option_map record_of) kept)
      (inr ((settled_known u c.tables.names c.tables.records c.frames.walk a t e.are.tables stands apart named settled).known.right (enc_task t) arrived)) within

  -- a task that doesn't run requires by its row what its record does
  pub resting_edge : Separates u → Stands c.frames.walk → (a b : ℕ) (t v : Task) (rec : TaskRecord) → kept_of c.tables.records a ≡ Some rec
      → runs (mark_of c.frames.walk.marks a) ≡ false → slice_get c.tables.names a ≡ Some t → slice_get c.tables.names b ≡ Some v
      → Calls c.frames.walk.rows a b → HasUnionEdge u t v
  resting_edge apart stands a b t v rec kept rests from to calls = by (stage_of c.frames.walk.marks a)
    where
      within : among (enc_task v) (needs_of (map observation_of rec.deps)) ≡ true
      within = listed c.tables.names (row_at c.frames.walk.rows a).needs rec.deps b v (e.are.tables.rows a rec kept rests).0 calls to

      by : Stage c.frames.walk.marks a → HasUnionEdge u t v
      by (idle i) = old_edge a b t v rec kept from (idle_not_settled c.frames.walk.marks a i) within
      by (going r m) = clash (runs (mark_of c.frames.walk.marks a)) r rests
      by (done s) = settled_edge apart stands a b t v rec kept from s within

-- ---- tasks that wait

-- a task that waits is a frame that goes on
pub record HasFrame (x : Site) (b : Build) (d : Caller) : Type 0 where
  pub frame : Frame
  pub below : List Frame
  pub is : IsCaller x b frame d
  pub goes : GoesAbove x b below (before_wait frame)

pub has_frame : (x : Site) (b : Build) (fs : List Frame) (cs : List Caller) → AreCallers x b fs cs → AllGo x b fs → (d : Caller) → Contains cs d → HasFrame x b d
has_frame x b [] [] mean go d h = absurd (none_in d h)
has_frame x b [] (k ∷ cs) mean go d h = absurd mean
has_frame x b (g ∷ gs) [] mean go d h = absurd mean
has_frame x b (g ∷ gs) (k ∷ cs) mean go d h = by (λ later. has_frame x b gs cs mean.1 go.1 d later) (here_or_there k d cs h)
  where
    by : (Contains cs d → HasFrame x b d) → (k ≡ d) ⊎ Contains cs d → HasFrame x b d
    by older (inl same) = record { frame = g; below = gs; is = subst (IsCaller x b g) same mean.0; goes = go.0 }
    by older (inr later) = older later

module _ (u : Update) (c : Core) (d : Caller) (has : HasFrame (site_of u c) (build_of c) d) where
  its_task : (a : ℕ) (t : Task) → d.waiting.notes.number ≡ a → slice_get c.tables.names a ≡ Some t → has.frame.task ≡ enc_task t
  its_task a t number named =
      has.is.frame.task
      ∙ ap enc_task (one_some d.waiting.notes.task t (sym has.is.frame.named ∙ ap (slice_get c.tables.names) number ∙ named))

  -- what it required so far
  noted_edge : (a b : ℕ) (t v : Task) → d.waiting.notes.number ≡ a → slice_get c.tables.names a ≡ Some t → slice_get c.tables.names b ≡ Some v
      → Contains d.waiting.notes.needs b → HasUnionEdge u t v
  noted_edge a b t v number from to within =
      subst (λ x. IsUnionEdge world (present u) (old_record u) x (enc_task v)) (its_task a t number from)
      (inr (answered_required world (present u) (recorded c.tables.names c.tables.records) (Passes (busy_by c.tables.names c.frames.walk)) has.goes.base
      (take has.goes.depth has.below) (before_wait has.frame) has.goes.goes (enc_task v)
      (subst (λ os. among (enc_task v) (needs_of os) ≡ true) has.is.frame.seen
      (listed c.tables.names d.waiting.notes.needs d.waiting.notes.deps b v has.is.frame.needs within to))))

  -- and the task for which it waits
  next_edge : (a : ℕ) (t : Task) → d.waiting.notes.number ≡ a → slice_get c.tables.names a ≡ Some t → HasUnionEdge u t d.required
  next_edge a t number from =
      subst (λ x. IsUnionEdge world (present u) (old_record u) x (enc_task d.required)) (its_task a t number from)
      (inr (next_required world (present u) (recorded c.tables.names c.tables.records) (Passes (busy_by c.tables.names c.frames.walk)) has.goes.base
      (take has.goes.depth has.below) (before_wait has.frame) has.goes.goes has.frame.left refl (how_of d.how) (enc_task d.required) has.is.waits))

  -- its row has these after what its old record requires
  pub waits_edge : IsExactCore u c → (a from : ℕ) → d.waiting.notes.number ≡ a → runs (mark_of c.frames.walk.marks a) ≡ true
      → BeginsAsOld c.tables c.frames.walk.rows a from → (b : ℕ) (t v : Task) → slice_get c.tables.names a ≡ Some t → slice_get c.tables.names b ≡ Some v
      → (Contains (drop from (row_at c.frames.walk.rows a).needs) b → Contains d.waiting.notes.needs b ⊎ (d.required ≡ v)) → Calls c.frames.walk.rows a b
      → HasUnionEdge u t v
  waits_edge e a from number run begins b t v named to rest calls =
      by
      (Contains-append_cases (take from (row_at c.frames.walk.rows a).needs) (drop from (row_at c.frames.walk.rows a).needs) b
      (subst (λ ns. Contains ns b) (sym (take-append-drop from (row_at c.frames.walk.rows a).needs)) calls))
    where
      before : (o : Option TaskRecord) → kept_of c.tables.records a ≡ o → Contains (take from (row_at c.frames.walk.rows a).needs) b → HasUnionEdge u t v
      before None none h = absurd (none_in b (subst (λ ns. Contains ns b) (begins.new none) h))
      before (Some rec) kept h =
          old_edge u c e a b t v rec kept named (λ s. clash (runs (mark_of c.frames.walk.marks a)) run (settled_not_runs (mark_of c.frames.walk.marks a) s))
          (listed c.tables.names (take from (row_at c.frames.walk.rows a).needs) rec.deps b v (begins.old rec kept) h to)

      after : Contains d.waiting.notes.needs b ⊎ (d.required ≡ v) → HasUnionEdge u t v
      after (inl noted) = noted_edge a b t v number named to noted
      after (inr next) = subst (HasUnionEdge u t) next (next_edge a t number named)

      by : Contains (take from (row_at c.frames.walk.rows a).needs) b ⊎ Contains (drop from (row_at c.frames.walk.rows a).needs) b → HasUnionEdge u t v
      by (inl h) = before (kept_of c.tables.records a) refl h
      by (inr h) = after (rest h)

-- ---- all rows

module _ (u : Update) (c : Core) (no : TaskNo) (from : ℕ) (w : Caller) (callee : ℕ) (e : IsExactCore u c) (apart : Separates u) (site : IsSite c)
    (holds : Holds no c.frames) (own : IsOwn c no from w.waiting.notes) (begins : BeginsAsOld c.tables c.frames.walk.rows no.0 from)
    (may : MayMeet u c (w ∷ callers_up c.frames.parked.items) callee) where
  frame_of : (d : Caller) → Contains (w ∷ callers_up c.frames.parked.items) d → HasFrame (site_of u c) (build_of c) d
  frame_of d h = has_frame (site_of u c) (build_of c) may.rest.wait.frames (w ∷ callers_up c.frames.parked.items) may.rest.wait.mean may.rest.wait.go d h

  -- the task in hand
  hand_edge : (a b : ℕ) (t v : Task) → no.0 ≡ a → runs (mark_of c.frames.walk.marks a) ≡ true → slice_get c.tables.names a ≡ Some t
      → slice_get c.tables.names b ≡ Some v → Calls c.frames.walk.rows a b → HasUnionEdge u t v
  hand_edge a b t v is run named to calls =
      waits_edge u c w (frame_of w (here w (callers_up c.frames.parked.items))) e a from (own.number ∙ is) run
      (subst (λ k. BeginsAsOld c.tables c.frames.walk.rows k from) is begins) b t v named to
      (λ h. inl (subst (λ ns. Contains ns b) (ap (λ k. drop from (row_at c.frames.walk.rows k).needs) (sym is) ∙ own.row.same) h)) calls

  -- one that waits
  parked_edge : (p : Parked) → Contains c.frames.parked.items p → (a b : ℕ) (t v : Task) → number_of p ≡ a → runs (mark_of c.frames.walk.marks a) ≡ true
      → slice_get c.tables.names a ≡ Some t → slice_get c.tables.names b ≡ Some v → Calls c.frames.walk.rows a b → HasUnionEdge u t v
  parked_edge p h a b t v is run named to calls =
      waits_edge u c p.caller
      (frame_of p.caller (there w p.caller (callers_up c.frames.parked.items)
      (within_reversed (map (λ (q : Parked). q.caller) c.frames.parked.items) p.caller (into_map (λ (q : Parked). q.caller) c.frames.parked.items p h))))
      e a p.from is run
      (subst (λ k. BeginsAsOld c.tables c.frames.walk.rows k p.from) is
      (All-contains (WaitsAsOld c.tables c.frames.walk.rows) c.frames.parked.items p e.parked h)) b t v named to
      (λ k. after (Contains-append_cases p.caller.waiting.notes.needs (p.callee.0 ∷ []) b (subst (λ ns. Contains ns b) row k))) calls
    where
      row : drop p.from (row_at c.frames.walk.rows a).needs ≡ p.caller.waiting.notes.needs ++ p.callee.0 ∷ []
      row =
          ap (λ k. drop p.from (row_at c.frames.walk.rows k).needs) (sym is)
          ∙ (All-contains (IsParked c.frames.walk.rows) c.frames.parked.items p holds.taken.each h).row.same

      required : slice_get c.tables.names p.callee.0 ≡ Some p.caller.required
      required =
          (All-contains (IsCallerOf c.plan c.tables.names c.tables.records c.frames.walk.marks) c.frames.parked.items p site.agree.callers h).required

      after : Contains p.caller.waiting.notes.needs b ⊎ Contains (p.callee.0 ∷ []) b → Contains p.caller.waiting.notes.needs b ⊎ (p.caller.required ≡ v)
      after (inl noted) = inl noted
      after (inr one) =
          inr (one_some p.caller.required v (sym required ∙ ap (slice_get c.tables.names) (only_one p.callee.0 b one) ∙ to))

  -- what a row requires is a union edge
  pub calls_edge : (a b : ℕ) (t v : Task) → slice_get c.tables.names a ≡ Some t → slice_get c.tables.names b ≡ Some v → Calls c.frames.walk.rows a b
      → HasUnionEdge u t v
  calls_edge a b t v named to calls = by (runs (mark_of c.frames.walk.marks a)) refl
    where
      rested : runs (mark_of c.frames.walk.marks a) ≡ false → (o : Option TaskRecord) → kept_of c.tables.records a ≡ o → HasUnionEdge u t v
      rested rests None none =
          absurd (none_in b (subst (λ ns. Contains ns b) (may.alone a (record { task = t; named = named; unrecorded = none; idle = rests })).1 calls))
      rested rests (Some rec) kept = resting_edge u c e apart holds.taken.stands a b t v rec kept rests named to calls

      waits : runs (mark_of c.frames.walk.marks a) ≡ true → (no.0 ≡ a) ⊎ Contains (numbers_up c.frames.parked.items) a → HasUnionEdge u t v
      waits run (inl is) = hand_edge a b t v is run named to calls
      waits run (inr up) =
          let m = from_map number_of c.frames.parked.items a (from_reversed (map number_of c.frames.parked.items) a up) in
          parked_edge m.0 m.1 a b t v m.2 run named to calls

      by : (r : Bool) → runs (mark_of c.frames.walk.marks a) ≡ r → HasUnionEdge u t v
      by false rests = rested rests (kept_of c.tables.records a) refl
      by true run =
          waits run (here_or_there no.0 a (numbers_up c.frames.parked.items)
          (subst (λ ns. Contains ns a) (sym holds.taken.tied) (runs_waits c.frames.walk holds.taken.stands a run)))

  -- and so is what the task in hand would require
  pub would_edge : slice_get c.tables.names callee ≡ Some w.required → (a b : ℕ) → WouldCall c.frames.walk.rows no.0 callee a b → (t v : Task)
      → slice_get c.tables.names a ≡ Some t → slice_get c.tables.names b ≡ Some v → HasUnionEdge u t v
  would_edge required a b (inl calls) t v named to = calls_edge a b t v named to calls
  would_edge required a b (inr is) t v named to =
      subst (HasUnionEdge u t) (one_some w.required v (sym required ∙ ap (slice_get c.tables.names) (sym is.1) ∙ to))
      (next_edge u c w (frame_of w (here w (callers_up c.frames.parked.items))) a t (own.number ∙ sym is.0) named)
