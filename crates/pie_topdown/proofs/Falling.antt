-- A task failed: those of the checks that wait start, each for a reason, since each requires one that doesn't end with a value.
use Rattle.std.proofs.Common.{◌≡◌, ◌⊎◌, inl, inr, ℕ, true, false, List, [], ◌∷◌, ◌++◌, Option, None, Some, Box, Vec, length, refl, sym, ap, subst, ◌∙◌}
use Rattle.std.specs.declared.alloc.Global.{Global}
use Rattle.std.specs.Prelude.{slice_get, take, drop, map}
use Rattle.std.specs.Option.{option_to_list}
use Rattle.pie_value.specs.declared.task.Task.{Task}
use Rattle.pie_value.specs.Canonical.{enc_task}
use Rattle.pie_graph.specs.Numbers.{numbers, IsMarked}
use Rattle.pie_record.specs.inner.Records.{record_of as kept_of}
use Rattle.pie_running.specs.declared.frame.Caller.{Caller}
use Rattle.pie_running.specs.declared.frame.RunningTask.{RunningTask}
use Rattle.pie_store.specs.inner.Offers.{Offered}
use Rattle.pie_model.specs.declared.words.How.{How}
use Rattle.pie_model.specs.declared.words.Event.TheVariants.{Require}
use Rattle.pie_model.specs.Paths.{among}
use Rattle.pie_model.specs.Trees.{is_done, outcome_of}
use Rattle.pie_model.specs.Evaluation.{evaluation}
use Rattle.pie_model.specs.Reasons.RunReason.{stamp}
use Rattle.pie_model.specs.inner.Stack.{Frame as ModelFrame, tasks_of, IsWaiting}
use Rattle.pie_model.specs.inner.Stack.IsWaiting.{waits}
use Rattle.pie_model.proofs.Basics.{among_here, among_split, clash}
use Rattle.pie_settle_laws.specs.Going.{before_wait}
use Rattle.pie_model_pipeline.specs.Rows.{observation_of, record_of}
use Rattle.pie_model_pipeline.specs.World.{world}
use Rattle.pie_model_pipeline.proofs.Joining.{tasks_told}
use Rattle.pie_builder_laws.proofs.Naming.{canonical_at, one_place}
use Rattle.pie_core_laws.specs.Update.{Update, present}
use Rattle.pie_core_laws.proofs.Exactly.{same_or_not}
use Rattle.pie_topdown_laws.specs.Ledgers.{setting}
use Rattle.pie_topdown_laws.specs.Running.{IsTop}
use Rattle.pie_topdown_laws.specs.Whole.{AreEntries, WaitsAt}
use Rattle.pie_topdown_laws.proofs.Building.{required_reason}
use Rattle.pie_topdown_laws.proofs.Lower.{waiting_undone}
use Rattle.pie_topdown_laws.proofs.Stacking.{falls}
use Rattle.pie_topdown.specs.declared.builder.Builder.{Builder}
use Rattle.pie_topdown.specs.declared.hand.Check.{Check}
use Rattle.pie_topdown.specs.declared.hand.Frame.{Frame}
use Rattle.pie_topdown.specs.declared.hand.Frame.TheVariants as frames
use Rattle.pie_topdown.specs.inner.Calling.{HasBegun}
use Rattle.pie_topdown.specs.inner.Due.{IsDue, IsDueAt, IsDueBy}
use Rattle.pie_topdown.specs.inner.Effects.{HasStarted}
use Rattle.pie_topdown.specs.inner.Frames.{IsFrame, IsSite}
use Rattle.pie_topdown.specs.inner.Ledgers.{Grows}
use Rattle.pie_topdown.specs.inner.Marks.{RunsOne}
use Rattle.pie_topdown.specs.inner.Ran.{FallsOn, FallsWhole, HasRunSo}
use Rattle.pie_topdown.specs.inner.Trying.{AreHonestTo, NoneStands}
use Rattle.pie_topdown.specs.inner.Right.{site_of, build_of, names_of, records_of, entries_up, AreWaiting, IsFalling, IsPlanNow, IsRightSite}
use Rattle.pie_topdown.proofs.Keeping.{same_grows}
use Rattle.pie_topdown.proofs.Marking.{marks_one, ran_stays, starts_marked, stays_same}
use Rattle.pie_topdown.proofs.Resumed.{both, empty_of, rest_waits, split, ups}
use Rattle.pie_topdown.proofs.Stacking.{popped_frame, popped_site}
use Rattle.pie_topdown.proofs.Honest.{undone_none}
use Rattle.pie_topdown.proofs.Started.{start_same, others_stay, is_started}
use Rattle.pie_topdown.proofs.Topmost.{one_some, own_site, own_waiting}
use Rattle.pie_topdown.proofs.Touched.{kept_is, restacked_site, touched_top}

-- a frame requires a task
record Requires (u : Update) (g : ModelFrame) (x : List ℕ) : Type 0 where
  how : How
  next : (present u).next g.task g.progress.answers ≡ Require how x

-- the newest that waits requires the task on top
required_by : (u : Update) (root : List ℕ) (g : ModelFrame) (gs : List ModelFrame) (x : List ℕ) → IsWaiting world (present u) root (g ∷ gs) x → Requires u g x
required_by u root g gs x (waits h room is_room run next below) = record { how = h; next = next }

-- ---- the newest that waits is taken from what does

module _ (u : Update) (done : List (List ℕ)) (root : List ℕ) (b : Builder) (popped : Vec Frame Global) (e : Frame)
    (items : b.stack.items ≡ popped.items ++ option_to_list (Some e)) (plan : IsPlanNow u b.plan) (is : IsSite b) where
  abbrev after : Builder
  after = record b { stack = popped }

  -- there are frames, of which it is the first
  record Taken (F : IsFalling u done root b) : Type 0 where
    g : ModelFrame
    gs : List ModelFrame
    are : F.fs ≡ g ∷ gs
    waiting : AreWaiting u b root (g ∷ gs)
    goes : IsTop (site_of u b) (build_of b) root (g ∷ gs) F.top

  module _ (F : IsFalling u done root b) where
    taken : Taken F
    taken = by F.fs refl
      where
        by : (fs : List ModelFrame) → F.fs ≡ fs → Taken F
        by [] same =
            absurd (subst (λ es. AreEntries (site_of u b) (build_of b) root es []) (ups b popped e items) (subst (AreWaiting u b root) same F.waiting).entries)
        by (g ∷ gs) same = record {
          g = g;
          gs = gs;
          are = same;
          waiting = subst (AreWaiting u b root) same F.waiting;
          goes = subst (λ fs. IsTop (site_of u b) (build_of b) root fs F.top) same F.goes;
        }

    abbrev g : ModelFrame
    g = taken.g

    abbrev gs : List ModelFrame
    gs = taken.gs

    site_after : IsRightSite u done root after
    site_after = restacked_site b popped u done root F.site

    waits_after : AreWaiting u after root gs
    waits_after = rest_waits b popped e items u root g gs taken.waiting

    goes_after : IsTop (site_of u after) (build_of after) root gs (before_wait g)
    goes_after = falls (setting u) (records_of b) (names_of b) root gs g F.top taken.goes

    undone_after : is_done (outcome_of (evaluation world (present u) g.task)) ≡ false
    undone_after = waiting_undone (setting u) (records_of b) root (names_of b) (g ∷ gs) F.top taken.goes g.task (among_here g.task (tasks_of gs)) F.undone

    -- a task without a record is its, waits below it, or has run
    parted : (n : ℕ) (t : Task) → slice_get b.ledger.tables.names n ≡ Some t → kept_of b.ledger.tables.records n ≡ None
        → (enc_task t ≡ g.task) ⊎ ((among (enc_task t) (tasks_of gs) ≡ true) ⊎ IsMarked b.ledger.tables.ran.items n)
    parted n t at none = by (F.marked n t at none)
      where
        first : (enc_task t ≡ g.task) ⊎ (among (enc_task t) (tasks_of gs) ≡ true)
            → (enc_task t ≡ g.task) ⊎ ((among (enc_task t) (tasks_of gs) ≡ true) ⊎ IsMarked b.ledger.tables.ran.items n)
        first (inl q) = inl q
        first (inr q) = inr (inl q)

        by : (among (enc_task t) (tasks_of F.fs) ≡ true) ⊎ IsMarked b.ledger.tables.ran.items n
            → (enc_task t ≡ g.task) ⊎ ((among (enc_task t) (tasks_of gs) ≡ true) ⊎ IsMarked b.ledger.tables.ran.items n)
        by (inr m) = inr (inr m)
        by (inl i) = first (among_split (enc_task t) g.task (tasks_of gs) (subst (λ fs. among (enc_task t) (tasks_of fs) ≡ true) taken.are i))

    -- a task with these bytes has this number
    its_number : (n k : ℕ) (t v : Task) → slice_get b.ledger.tables.names n ≡ Some t → slice_get b.ledger.tables.names k ≡ Some v → enc_task t ≡ enc_task v → n ≡ k
    its_number n k t v at named same =
        one_place b.ledger.tables.names F.site.ledger.tasks n k v
        (at ∙ ap Some (tasks_told t v (canonical_at b.ledger.tables.names F.site.ledger.tasks n t at)
        (canonical_at b.ledger.tables.names F.site.ledger.tasks k v named) same)) named

    -- ---- a task that runs

    module _ (c : Caller) (is_one : e ≡ frames.Waits c) where
      popped_caller : b.stack.items ≡ popped.items ++ option_to_list (Some (frames.Waits c))
      popped_caller = subst (λ x. b.stack.items ≡ popped.items ++ option_to_list (Some x)) is_one items

      pub caller_falls : slice_get b.ledger.tables.names c.waiting.notes.number ≡ Some c.waiting.notes.task → IsFalling u done root after
      caller_falls named = record {
        site = site_after;
        fs = gs;
        waiting = waits_after;
        top = before_wait g;
        goes = goes_after;
        undone = undone_after;
        marked = λ n t at none. by n t at (parted n t at none);
      }
        where
          its : g.task ≡ enc_task c.waiting.notes.task
          its = (both b popped (frames.Waits c) popped_caller u root g gs taken.waiting).0.frame.task

          ran : IsMarked b.ledger.tables.ran.items c.waiting.notes.number
          ran = (split b popped (frames.Waits c) popped_caller u root g gs taken.waiting).1

          by : (n : ℕ) (t : Task) → slice_get b.ledger.tables.names n ≡ Some t
              → (enc_task t ≡ g.task) ⊎ ((among (enc_task t) (tasks_of gs) ≡ true) ⊎ IsMarked b.ledger.tables.ran.items n)
              → (among (enc_task t) (tasks_of gs) ≡ true) ⊎ IsMarked b.ledger.tables.ran.items n
          by n t at (inr q) = q
          by n t at (inl same) =
              inr (subst (IsMarked b.ledger.tables.ran.items) (sym (its_number n c.waiting.notes.number t c.waiting.notes.task at named (same ∙ its))) ran)

    -- ---- a check: its task starts

    module _ (c : Check) (box : Box Check Global) (is_box : box.value ≡ c) (is_one : e ≡ frames.Checks box) where
      popped_check : b.stack.items ≡ popped.items ++ option_to_list (Some (frames.Checks box))
      popped_check = subst (λ x. b.stack.items ≡ popped.items ++ option_to_list (Some x)) is_one items

      abbrev k : Check
      k = box.value

      waits_at : WaitsAt (site_of u b) (build_of b) root gs k.rec k.at (numbers k.required.items) g
      waits_at = (both b popped (frames.Checks box) popped_check u root g gs taken.waiting).0

      its_task : g.task ≡ enc_task k.rec.task
      its_task = ap (λ (z : ModelFrame). z.task) waits_at.is ∙ waits_at.of_record.check.checked.task

      rested : IsPlanNow u b.plan → IsDueBy u b.plan k.rec k.contents
      rested p = (split b popped (frames.Checks box) popped_check u root g gs taken.waiting).1.due

      due : IsDue u b.plan k.rec.task
      due = by k.contents (rested plan)
        where
          requires : Requires u g F.top.task
          requires = required_by u root g gs F.top.task taken.goes.goes.waits

          by : (o : Option (Vec (Vec ℕ Global) Global)) → IsDueBy u b.plan k.rec o → IsDue u b.plan k.rec.task
          by (Some contents) d = d
          by None own = λ funcs digests knows.
              stamp (record_of k.rec) (plan.old own.number k.rec own.kept).left
              (required_reason (setting u) waits_at.of_record.before (records_of b) root gs (enc_task k.rec.task) (record_of k.rec)
              (map observation_of (take k.at k.rec.deps)) (map observation_of (drop k.at k.rec.deps)) waits_at.of_record.check.checked requires.how F.top.task
              (subst (λ (z : ModelFrame). (present u).next z.task z.progress.answers ≡ Require requires.how F.top.task) waits_at.is requires.next) F.undone)

      module _ (d : Builder) (named : slice_get b.ledger.tables.names k.no.0 ≡ Some k.rec.task) (ledger : HasStarted b.ledger k.no.0 d.ledger)
          (rest : d ≡ record after { ledger = d.ledger }) (site : IsSite after) where
        due_at : IsDueAt u after k.no.0
        due_at = record { task = k.rec.task; named = named; due = due }

        pub check_falls : IsFalling u done root d
        check_falls = record {
          site = own_site u done root after gs (before_wait g) k.no.0 k.rec.task site_after goes_after its_task named d
              (start_same after d k.no.0 k.rec.task ledger rest named site) (others_stay after d k.no.0 k.rec.task ledger rest named site) (λ so. due_at);
          fs = gs;
          waiting = own_waiting u done root after gs (before_wait g) k.no.0 k.rec.task site_after goes_after its_task named d
              (start_same after d k.no.0 k.rec.task ledger rest named site) (others_stay after d k.no.0 k.rec.task ledger rest named site) (λ so. due_at) site
              waits_after;
          top = before_wait g;
          goes = touched_top after d (start_same after d k.no.0 k.rec.task ledger rest named site) u root gs (before_wait g) goes_after;
          undone = undone_after;
          marked = λ n t at none.
              by n t (subst (λ (ts : List Task). slice_get ts n ≡ Some t) ledger.names at)
              (parted n t (subst (λ (ts : List Task). slice_get ts n ≡ Some t) ledger.names at)
              (sym (kept_is after d (start_same after d k.no.0 k.rec.task ledger rest named site) n) ∙ none));
        }
          where
            started : (n : ℕ) → n ≡ k.no.0 → IsMarked d.ledger.tables.ran.items n
            started n same =
                subst (IsMarked d.ledger.tables.ran.items) (sym same) (is_started after d k.no.0 k.rec.task ledger rest named site)

            still : (n : ℕ) → IsMarked b.ledger.tables.ran.items n → (n ≡ k.no.0) ⊎ (n ≡ k.no.0 → ⊥) → IsMarked d.ledger.tables.ran.items n
            still n was (inl same) = started n same
            still n was (inr apart) = (others_stay after d k.no.0 k.rec.task ledger rest named site n apart).flag ∙ was

            by : (n : ℕ) (t : Task) → slice_get b.ledger.tables.names n ≡ Some t
                → (enc_task t ≡ g.task) ⊎ ((among (enc_task t) (tasks_of gs) ≡ true) ⊎ IsMarked b.ledger.tables.ran.items n)
                → (among (enc_task t) (tasks_of gs) ≡ true) ⊎ IsMarked d.ledger.tables.ran.items n
            by n t at (inl same) = inr (started n (its_number n k.no.0 t k.rec.task at named (same ∙ its_task)))
            by n t at (inr (inl on)) = inl on
            by n t at (inr (inr was)) = inr (still n was (same_or_not k.no.0 n))

        pub check_ran : (offers : Task → List Offered) (first now later : List Task) → AreHonestTo u offers → Grows after.ledger d.ledger → d.reused ≡ b.reused
            → later ≡ now ++ k.rec.task ∷ [] → HasRunSo u offers b first now → HasRunSo u offers d first later
        check_ran offers first now later honest grows reused added so =
            marks_one u offers after d k.no.0 first now later grows F.site.ledger.tasks
            (split b popped (frames.Checks box) popped_check u root g gs taken.waiting).1.untouched.rested
            (inr (record {
              one = one;
              none = subst (NoneStands u offers) (one_some k.rec.task one.marks.task (sym named ∙ one.marks.named))
                  (undone_none u offers k.rec.task honest
                  (subst (λ x. is_done (outcome_of (evaluation world (present u) x)) ≡ false) its_task undone_after));
            }))
            (ran_stays u offers b after first now (same_grows b.ledger b.ledger refl refl) (stays_same b after refl refl) so)
          where
            one : RunsOne after k.no.0 d now later
            one = starts_marked after d k.no.0 k.rec.task now later is.ledger.tables named ledger.ran added (ap (λ v. v.items) reused)

-- ---- from frame to frame

pub falls_first : (b : Builder) (runs : List Task) → FallsOn b b runs runs
falls_first b runs u done root offers plan honest F first so = (F, so)

-- a task that runs waits
pub falls_caller : (a b : Builder) (popped : Vec Frame Global) (c : Caller) (before now : List Task)
    → b.stack.items ≡ popped.items ++ option_to_list (Some (frames.Waits c)) → b.plan ≡ a.plan → IsSite b → IsFrame b.ledger (frames.Waits c)
    → FallsOn a b before now → FallsOn a (record b { stack = popped }) before now
falls_caller a b popped c before now items same is frame sofar u done root offers plan honest F first so =
    let q = sofar u done root offers plan honest F first so in (
      caller_falls u done root b popped (frames.Waits c) items (subst (IsPlanNow u) (sym same) plan) is q.0 c refl frame.noted.task,
      ran_stays u offers b (record b { stack = popped }) first now (same_grows b.ledger b.ledger refl refl) (stays_same b (record b { stack = popped }) refl refl) q.1,
    )

-- a check waits: its task starts
pub falls_check : (a b d : Builder) (popped : Vec Frame Global) (k : Box Check Global) (before now later : List Task)
    → b.stack.items ≡ popped.items ++ option_to_list (Some (frames.Checks k)) → b.plan ≡ a.plan → IsSite b → IsFrame b.ledger (frames.Checks k)
    → HasStarted b.ledger k.value.no.0 d.ledger → Grows b.ledger d.ledger → d ≡ record b { stack = popped; ledger = d.ledger } → IsSite (record b { stack = popped })
    → later ≡ now ++ k.value.rec.task ∷ [] → FallsOn a b before now → FallsOn a d before later
falls_check a b d popped k before now later items same is frame ledger grows rest site added sofar u done root offers plan honest F first so =
    let q = sofar u done root offers plan honest F first so in
    let p = subst (IsPlanNow u) (sym same) plan in (
      check_falls u done root b popped (frames.Checks k) items p is q.0 k.value k refl refl d frame.named ledger rest site,
      check_ran u done root b popped (frames.Checks k) items p is q.0 k.value k refl refl d frame.named ledger rest site offers first now
          later honest grows (ap (λ x. x.reused) rest) added q.1,
    )

-- so it is with one whose machine has begun
pub falls_begun : (a b d : Builder) (popped : Vec Frame Global) (k : Box Check Global) (c : Check) (f : RunningTask) (before now later : List Task)
    → b.stack.items ≡ popped.items ++ option_to_list (Some (frames.Checks k)) → b.plan ≡ a.plan → IsSite b → c ≡ k.value → HasStarted b.ledger c.no.0 d.ledger
    → Grows b.ledger d.ledger → d ≡ record b { stack = popped; ledger = d.ledger } → HasBegun (record b { stack = popped }) c.no.0 c.code.now now later f
    → FallsOn a b before now → FallsOn a d before later
falls_begun a b d popped k c f before now later items same is one ledger grows rest begun sofar =
    falls_check a b d popped k before now later items same is frame (subst (λ (x : Check). HasStarted b.ledger x.no.0 d.ledger) one ledger) grows rest
    (popped_site b (record b { stack = popped }) (Some (frames.Checks k)) is refl refl items)
    (begun.added ∙ ap (λ (t : Task). now ++ t ∷ []) its) sofar
  where
    frame : IsFrame b.ledger (frames.Checks k)
    frame = popped_frame b popped.items (Some (frames.Checks k)) is items

    its : begun.task ≡ k.value.rec.task
    its = one_some begun.task k.value.rec.task (sym begun.named ∙ ap (λ (x : Check). slice_get b.ledger.tables.names x.no.0) one ∙ frame.named)

-- ---- only what waits and the ledger change

pub rest_then : (a b d : Builder) (popped : Vec Frame Global) → b ≡ record a { ledger = b.ledger; stack = b.stack }
    → d ≡ record b { stack = popped; ledger = d.ledger } → d ≡ record a { ledger = d.ledger; stack = d.stack }
rest_then a b d popped first then =
    then ∙ ap (λ (x : Builder). record x { stack = popped; ledger = d.ledger }) first
    ∙ (λ i. record a { ledger = d.ledger; stack = sym (ap (λ (x : Builder). x.stack) then) i })

-- ---- nothing waits any more

pub falls_whole : (a b : Builder) (popped : Vec Frame Global) (before now : List Task) → length b.stack.items ≡ 0 → FallsOn a b before now
    → FallsWhole a (record b { stack = popped }) before now
falls_whole a b popped before now none sofar u done root offers plan honest F first so =
    let q = sofar u done root offers plan honest F first so in (
      record { site = restacked_site b popped u done root q.0.site; marked = λ n t at rest. by q.0 n t (q.0.marked n t at rest) },
      ran_stays u offers b (record b { stack = popped }) first now (same_grows b.ledger b.ledger refl refl) (stays_same b (record b { stack = popped }) refl refl) q.1,
    )
  where
    by : (G : IsFalling u done root b) (n : ℕ) (t : Task) → (among (enc_task t) (tasks_of G.fs) ≡ true) ⊎ IsMarked b.ledger.tables.ran.items n
        → IsMarked b.ledger.tables.ran.items n
    by G n t (inr m) = m
    by G n t (inl i) =
        absurd (no_frames G.fs (subst (λ es. AreEntries (site_of u b) (build_of b) root (entries_up es) G.fs) (empty_of b.stack.items none) G.waiting.entries) i)
      where
        no_frames : (fs : List ModelFrame) → AreEntries (site_of u b) (build_of b) root [] fs → among (enc_task t) (tasks_of fs) ≡ true → ⊥
        no_frames [] h i = clash {A = ⊥} (among (enc_task t) []) i refl
        no_frames (f ∷ fs) h i = absurd h
