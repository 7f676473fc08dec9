-- Each task that a build knows is tried: it is an old one or a root, or union edges lead to it from one, in whose evaluation it stands.
use Rattle.std.proofs.Common.{◌≡◌, ◌⊎◌, ℕ, suc, ◌-◌, ◌<◌, Bool, true, List, [], ◌∷◌, ◌++◌, map, cond, get_or, Option, None, Some, refl, sym, ap, ◌∙◌, subst, inl, inr, arith}
use Rattle.std.specs.Prelude.{slice_get, is_some, option_map, take, IsSome}
use Rattle.std.specs.List.{All}
use Rattle.std.proofs.lemmas.List.{take_all, take-append-le, length_push}
use Rattle.std.proofs.lemmas.List.Elements.{All-contains, All-push, All-weaker}
use Rattle.std.proofs.lemmas.Option.{slice_get-get_or}
use Rattle.pie_value.specs.declared.task.Task.{Task}
use Rattle.pie_value.specs.declared.event.Event.TheVariants as events
use Rattle.pie_value.specs.declared.event.How.{How}
use Rattle.pie_value.specs.Canonical.{enc_task, IsCanonicalTask}
use Rattle.pie_value.specs.Limits.{is_small_task}
use Rattle.pie_running.specs.declared.frame.Waiting.{Waiting}
use Rattle.pie_walk.specs.Standing.{Stands}
use Rattle.pie_model.specs.Paths.{among}
use Rattle.pie_model.specs.Trees.{Node, Trace, HasTask, trace_of, outcome_of, required_by}
use Rattle.pie_model.specs.Evaluation.{World, Project, on_event, on_outcome, evaluation_with, evaluation}
use Rattle.pie_model.specs.Records.{Record, needs_of, observations_of}
use Rattle.pie_model.specs.Running.{rest_of_run}
use Rattle.pie_model.specs.Forest.{entered_tasks}
use Rattle.pie_model.specs.Changes.{IsUnionEdge}
use Rattle.pie_model.specs.inner.Stack.{Frame}
use Rattle.pie_model.specs.declared.words.Event.{Event as ModelEvent}
use Rattle.pie_model.specs.declared.words.Event.TheVariants as model
use Rattle.pie_model.specs.declared.words.How.{How as ModelHow}
use Rattle.pie_model.specs.declared.words.FaultKind.TheVariants as model_faults
use Rattle.pie_model.specs.inner.RecordLaws.{Passes}
use Rattle.pie_model.proofs.Rooms.{evaluation_room, has_task}
use Rattle.pie_model.proofs.Ways.{needs_of-observations, stands_itself, task_of-evaluation}
use Rattle.pie_step_laws.proofs.StepLemmas.{needs_of-append}
use Rattle.pie_settle_laws.specs.Going.{IsGoing}
use Rattle.pie_settle_laws.proofs.Goings.{alone_with}
use Rattle.pie_settle_laws.proofs.Leaving.{required_has}
use Rattle.pie_model_pipeline.specs.Rows.{record_of}
use Rattle.pie_model_pipeline.specs.Words.{how_of}
use Rattle.pie_model_pipeline.specs.World.{world}
use Rattle.pie_builder_laws.specs.Tables.{recorded}
use Rattle.pie_builder_laws.proofs.Naming.{among_at, canonical_at, placed}
use Rattle.pie_builder_laws.proofs.Tabled.{record_by_number, record_has_number}
use Rattle.pie_earlier_laws.proofs.Edging.{next_required}
use Rattle.pie_earlier_laws.proofs.OldRows.{row_entered}
use Rattle.pie_entering_laws.specs.inner.Laws.{HasFunction}
use Rattle.pie_entering_laws.proofs.Known.{required_known, roots_known}
use Rattle.pie_core_laws.specs.Update.{Update, earlier, present, old_record}
use Rattle.pie_core_laws.specs.Exact.{busy_by}
use Rattle.pie_bottomup.specs.declared.state.Core.{Core}
use Rattle.pie_task_laws.specs.Going.{Runs}
use Rattle.pie_bottomup.specs.inner.Causes.{AreTried, HasUnionEdge, IsKnownTask, IsOldTask, IsTried, IsTypedUpdate, Leads, StandsNow}
use Rattle.pie_bottomup.specs.inner.Exact.{IsExactCore, IsLoadedCore}
use Rattle.pie_bottomup.specs.inner.Going.{IsAskingNow, IsBuildNow, build_of, callers_up, site_of}
use Rattle.pie_bottomup.specs.inner.States.{IsSite}
use Rattle.pie_bottomup.proofs.Rings.{leads_on}
use Rattle.pie_bottomup.proofs.Speaking.{speaks_settled}

-- ---- one task

-- a task stands in its own evaluation
own_stands : (u : Update) (x : List ℕ) → HasTask x (evaluation world (present u) x)
own_stands u x =
    subst (λ z. HasTask z (evaluation world (present u) x)) (task_of-evaluation world (present u) x)
    (has_task (evaluation world (present u) x) (evaluation world (present u) x) (stands_itself (evaluation world (present u) x)))

-- an old task is an old live one
old_live : (u : Update) (x : List ℕ) (o : Option Record) → old_record u x ≡ o → IsSome o → among x (entered_tasks world (earlier u) u.old_roots) ≡ true
old_live u x None is some = cc
old_live u x (Some r) is some = (row_entered world (earlier u) u.old_roots x r is).0

pub old_tried : (u : Update) (t : Task) → IsOldTask u t → IsTried u t
old_tried u t is = record {
  base = t;
  is_base = inl is;
  leads = inl refl;
  stands = record {
    base = enc_task t;
    is_base = inl (old_live u (enc_task t) (old_record u (enc_task t)) refl is);
    stands = own_stands u (enc_task t);
  };
  known = inl is;
}

pub root_tried : (u : Update) (t : Task) → among (enc_task t) u.roots ≡ true → IsTried u t
root_tried u t is = record {
  base = t;
  is_base = inr is;
  leads = inl refl;
  stands = record { base = enc_task t; is_base = inr is; stands = own_stands u (enc_task t) };
  known = inr (λ y canonical.
      roots_known u.functions y.roots t y.typed y.all canonical (subst (λ (bs : List (List ℕ)). among (enc_task t) bs ≡ true) (sym y.are) is));
}

-- one edge more
pub tried_next : (u : Update) (t v : Task) → IsTried u t → HasUnionEdge u t v → StandsNow u v → IsKnownTask u v → IsTried u v
tried_next u t v is edge stands known =
    record { base = is.base; is_base = is.is_base; leads = inr (by is.leads); stands = stands; known = known }
  where
    by : (is.base ≡ t) ⊎ ((between : List Task) × Leads (HasUnionEdge u) is.base between t)
        → (between : List Task) × Leads (HasUnionEdge u) is.base between v
    by (inl e) = ([], subst (λ (x : Task). HasUnionEdge u x v) (sym e) edge)
    by (inr l) = (l.0 ++ t ∷ [], leads_on (HasUnionEdge u) is.base l.0 t v l.1 edge)

-- ---- the tasks that are known

-- the old ones
module _ (u : Update) (c : Core) (l : IsLoadedCore u c) where
  old_at : (n : ℕ) (t : Task) → slice_get c.tables.names n ≡ Some t → IsOldTask u t
  old_at n t named =
      let kept = l.loaded.whole n t named in
      ap is_some (sym (l.loaded.old (enc_task t)) ∙ record_by_number c.tables.names c.tables.records n t l.loaded.tasks named ∙ ap (option_map record_of) kept.1)

  all_old : All (IsOldTask u) c.tables.names
  all_old i d inside = old_at i (get_or c.tables.names i d) (slice_get-get_or c.tables.names i d inside)

  has_name : (bytes : List ℕ) (o : Option Record) → old_record u bytes ≡ o → IsSome o → among bytes (map enc_task c.tables.names) ≡ true
  has_name bytes None is some = cc
  has_name bytes (Some r) is some =
      let n = record_has_number c.tables.names c.tables.records bytes r (l.loaded.old bytes ∙ is) in
      subst (λ x. among x (map enc_task c.tables.names) ≡ true) (sym n.bytes) (among_at c.tables.names n.number n.task n.named)

  first_all : take c.earlier c.tables.names ≡ c.tables.names
  first_all = take_all c.earlier c.tables.names (omega (arith, l.sized))

  pub tried_loaded : AreTried u c.earlier c.tables.names
  tried_loaded = record {
    inside = omega (arith, l.sized);
    old = subst (All (IsOldTask u)) (sym first_all) all_old;
    all = λ bytes some.
        subst (λ (ts : List Task). among bytes (map enc_task ts) ≡ true) (sym first_all) (has_name bytes (old_record u bytes) refl some);
    tried = All-weaker (IsOldTask u) (IsTried u) (old_tried u) c.tables.names all_old;
  }

-- one more
pub tried_more : (u : Update) (earlier : ℕ) (names : List Task) (t : Task) → AreTried u earlier names → IsTried u t → AreTried u earlier (names ++ t ∷ [])
tried_more u earlier names t are is =
    let same : take earlier (names ++ t ∷ []) ≡ take earlier names = take-append-le earlier names (t ∷ []) are.inside in
    record {
      inside = omega (arith, are.inside, length_push names t);
      old = subst (All (IsOldTask u)) (sym same) are.old;
      all = λ bytes some. subst (λ (ts : List Task). among bytes (map enc_task ts) ≡ true) (sym same) (are.all bytes some);
      tried = All-push (IsTried u) names t are.tried is;
    }

-- ---- a task that the one in hand requires

-- what a running task requires before and next is what its evaluation requires first
module _ (w : World) (P : Project) (R : List ℕ → Option Record) (busy : List ℕ → Type 0) (base : List ℕ) (fs : List Frame) (f : Frame)
    (G : IsGoing w P R busy base fs f) (n : ℕ) (left : f.left ≡ suc n) (h : ModelHow) (v : List ℕ) (asks : P.next f.task f.progress.answers ≡ model.Require h v)
  where
    -- what follows is what the next event gives
    abbrev follows : ModelEvent → Trace
    follows e = on_event w P (evaluation_with G.whole_room w P (f.task ∷ [])) f.task f.progress (rest_of_run w P G.whole_room [] f.task n) e

    seen_front : observations_of w (trace_of (evaluation w P f.task)) ≡ f.seen ++ observations_of w (follows (model.Require h v))
    seen_front =
        ap (λ (m : Node). observations_of w (trace_of m)) (evaluation_room w P f.task ∙ ap (λ (k : ℕ). evaluation_with k w P [] f.task) G.is_whole_room)
        ∙ (alone_with w P R busy base fs f G n left).observations ∙ ap (λ (e : ModelEvent). f.seen ++ observations_of w (follows e)) asks

    needs_front : (back : List (List ℕ)) × (required_by (trace_of (evaluation w P f.task)) ≡ needs_of f.seen ++ v ∷ back)
    needs_front = (
      needs_of (observations_of w (on_outcome h f.progress (evaluation_with G.whole_room w P (f.task ∷ []) v) (rest_of_run w P G.whole_room [] f.task n)
          (outcome_of (evaluation_with G.whole_room w P (f.task ∷ []) v)))),
      sym (needs_of-observations w (trace_of (evaluation w P f.task))) ∙ ap needs_of seen_front
          ∙ needs_of-append f.seen (observations_of w (follows (model.Require h v))),
    )

module _ (u : Update) (c : Core) (w : Waiting) (t : Task) (how : How) (now : IsBuildNow u c.plan) (site : IsSite c) (up : Stands c.frames.walk)
    (e : IsExactCore u c) (left : 0 < w.notes.left) (small : is_small_task t ≡ true) (asks : IsAskingNow u c w (events.Require t how)) where
  hand_tried : IsTried u w.notes.task
  hand_tried =
      All-contains (IsTried u) c.tables.names w.notes.task e.tried.tried
      (placed c.tables.names w.notes.number w.notes.task asks.asking.runs.means.named)

  one_left : (n : ℕ) → 0 < n → n ≡ suc (n - 1)
  one_left n l = omega (arith, l)

  abbrev runs : Runs (site_of u c) (build_of c) (callers_up c.frames.parked.items) w.code.now w.machine w.notes
  runs = asks.asking.runs

  -- it asks for this task, in the model
  its_event : (present u).next runs.frame.task runs.frame.progress.answers ≡ model.Require (how_of how) (enc_task t)
  its_event = asks.asking.asks ∙ ap (λ (b : Bool). cond b (model.Require (how_of how) (enc_task t)) (model.Fail model_faults.Big)) small

  one_more : runs.frame.left ≡ suc (w.notes.left - 1)
  one_more = runs.means.left ∙ one_left w.notes.left left

  hand_edge : HasUnionEdge u w.notes.task t
  hand_edge =
      subst (λ x. IsUnionEdge world (present u) (old_record u) x (enc_task t)) runs.means.task
      (inr (next_required world (present u) (recorded c.tables.names c.tables.records) (Passes (busy_by c.tables.names c.frames.walk)) runs.goes.base
      (take runs.goes.depth runs.below) runs.frame runs.goes.goes (w.notes.left - 1) one_more (how_of how) (enc_task t) its_event))

  -- it stands in the evaluation in which the task in hand runs
  its_stand : StandsNow u t
  its_stand = record {
    base = runs.goes.base;
    is_base = runs.goes.is_base;
    stands = required_has world (present u) (recorded c.tables.names c.tables.records) (Passes (busy_by c.tables.names c.frames.walk)) runs.goes.base
        (take runs.goes.depth runs.below) runs.frame runs.goes.goes (w.notes.left - 1) (how_of how) (enc_task t) one_more its_event;
  }

  its_front : (back : List (List ℕ))
      × (required_by (trace_of (evaluation world (present u) runs.frame.task)) ≡ needs_of runs.frame.seen ++ enc_task t ∷ back)
  its_front =
      needs_front world (present u) (recorded c.tables.names c.tables.records) (Passes (busy_by c.tables.names c.frames.walk)) runs.goes.base
      (take runs.goes.depth runs.below) runs.frame runs.goes.goes (w.notes.left - 1) one_more (how_of how) (enc_task t) its_event

  -- it is of a function, as the task in hand is
  its_function : IsTypedUpdate u → IsCanonicalTask t (enc_task t) → HasFunction u.functions t
  its_function y canonical =
      required_known u.functions u.directory w.notes.task t (needs_of runs.frame.seen) its_front.0 y.typed
      (canonical_at c.tables.names e.are.tables.tasks w.notes.number w.notes.task runs.means.named) canonical (runs.means.function, runs.means.found)
      (subst (λ (x : List ℕ). required_by (trace_of (evaluation world (present u) x)) ≡ needs_of runs.frame.seen ++ enc_task t ∷ its_front.0) runs.means.task
      its_front.1)
      (λ x i. speaks_settled u c site e up now.apart x (runs.goes.goes.settled x i))

  pub tried_required : IsTried u t
  tried_required = tried_next u w.notes.task t hand_tried hand_edge its_stand (inr its_function)
