-- Which tasks an evaluation runs, and why.
use Rattle.std.proofs.Common.{◌≡◌, ◌≢◌, ◌⊎◌, inl, inr, ℕ, ◌<◌, ◌≤◌, Bool, true, false, List, [], ◌∷◌, ◌++◌, length, get_or, drop, Option, None, Some, Vec, Global, refl, sym, ap, subst, ◌∙◌, arith}
use Rattle.std.specs.Prelude.{slice_get, slice_index_or, All, Contains}
use Rattle.std.proofs.lemmas.Bool.{false≢true}
use Rattle.std.proofs.Math.Seq.{drop-append_seam}
use Rattle.std.proofs.lemmas.List.{append-nil, append_assoc}
use Rattle.std.proofs.lemmas.List.Elements.{All-nil, All-push, All-weaker, Contains-append_left, Contains-push}
use Rattle.std.proofs.lemmas.List.Quantifiers.{all_pairs_push}
use Rattle.std.proofs.lemmas.Option.{slice_get-get_or, slice_get_within}
use Rattle.pie_bottomup.specs.declared.plan.Plan.{Plan}
use Rattle.pie_bottomup.specs.declared.state.Core.{Core}
use Rattle.pie_bottomup.specs.declared.state.First.{First}
use Rattle.pie_bottomup.specs.declared.state.First.TheVariants.{Tests, TooMany, Done}
use Rattle.pie_bottomup.specs.declared.state.Turn.{Turn}
use Rattle.pie_bottomup.specs.declared.state.Turn.TheVariants.{Went, Settled, StartAfresh}
use Rattle.pie_bottomup.specs.inner.Exact.{IsLoadedCore, IsSiteNow}
use Rattle.pie_bottomup.specs.inner.Going.{IsBuildNow, IsWhole, StandsWhole, StepsWhole, TurnIsWhole}
use Rattle.pie_bottomup.specs.inner.Loaded.{IsStoredIn}
use Rattle.pie_bottomup.specs.inner.Causes.{HasRunAs, HasRunIfKnown, HasRunNone, IsCauseOf, IsOldTask, IsReached}
use Rattle.pie_bottomup.specs.inner.Many.{StartsNoneForMany}
use Rattle.pie_bottomup.specs.inner.Ran.{BeginsKnowing, HasReason, IsEntered, IsKnownAs, KnowsCode, RunsFor, RunsNone, SettlesFor, StartsFor, StepsFor}
use Rattle.pie_bottomup.specs.inner.States.{HasSettled, KeepsTasks}
use Rattle.pie_builder_laws.specs.Events.{AreCompiled}
use Rattle.pie_builder_laws.specs.Names.{AreTasks}
use Rattle.pie_builder_laws.proofs.Naming.{one_place}
use Rattle.pie_code.specs.declared.code.Code.{Code}
use Rattle.pie_core_laws.specs.Update.{Update, present}
use Rattle.pie_entering_laws.specs.Entering.{Enters}
use Rattle.pie_files.specs.Directory.{Directory}
use Rattle.pie_graph.specs.Numbers.{IsMarked}
use Rattle.pie_model.specs.Forest.{entered_tasks}
use Rattle.pie_model.specs.Paths.{among}
use Rattle.pie_model_pipeline.specs.World.{world}
use Rattle.pie_old.specs.inner.Code.{is_same_code}
use Rattle.pie_parser.specs.FunctionTrees.{FunctionTree}
use Rattle.pie_report.specs.declared.report.Report.{Report}
use Rattle.pie_store.specs.declared.cause.Cause.{Cause}
use Rattle.pie_store.specs.declared.cause.Cause.TheVariants as causes
use Rattle.pie_store.specs.declared.cause.Cause.TheVariants.{UnionMany}
use Rattle.pie_store.specs.declared.image.StoreImage.{StoreImage}
use Rattle.pie_tables.specs.declared.tables.Tables.{Tables}
use Rattle.pie_types.specs.Whole.{number_from}
use Rattle.pie_value.specs.Canonical.{enc_task, IsCanonicalTask}
use Rattle.pie_value.specs.declared.task.Task.{Task}
use Rattle.pie_incremental.specs.inner.Evaluated.{BeginsNow, IsUpdateHere, StaysStanding}
use Rattle.pie_incremental.specs.inner.Ran.{AllAreDue, AreDue, BeginsEach, HasRun, HaveBegun, HaveReasons, HaveRun, IsOneOf, Knows, KnowsFirst, NoneRan, RanOf}
use Rattle.pie_incremental.specs.inner.Ran.{RunsBefore, RunsEach, RunsOn, RunsWhole, StaysMany}
use Rattle.pie_incremental.proofs.Entered.{of_function}

-- ---- more tasks

names_longer : (old new : List Task) → ((n : ℕ) (t : Task) → slice_get old n ≡ Some t → slice_get new n ≡ Some t) → length old ≤ length new
names_longer [] new keeps = omega arith
names_longer (t ∷ ts) new keeps =
    let last : slice_get (t ∷ ts) (length ts) ≡ Some (get_or (t ∷ ts) (length ts) t) = slice_get-get_or (t ∷ ts) (length ts) t (omega arith) in
    let within : length ts < length new = slice_get_within new (length ts) (get_or (t ∷ ts) (length ts) t) (keeps (length ts) (get_or (t ∷ ts) (length ts) t) last) in
    omega (arith, within)

module _ (u : Update) (funcs digests : List (List ℕ × List ℕ)) (same : List Bool) (a b : Tables) (k : KeepsTasks a b) (knows : KnowsCode u funcs digests same a) where
  known_as : (bytes : List ℕ) → IsKnownAs a (length same) bytes → IsKnownAs b (length same) bytes
  known_as bytes is = record {
    number = is.number;
    task = is.task;
    old = is.old;
    named = k.names is.number is.task is.named;
    is = is.is;
    recorded = k.recorded is.number is.recorded;
  }

  each_same : (n : ℕ) (task : Task) → n < length same → slice_get b.names n ≡ Some task → slice_index_or same n false ≡ is_same_code funcs digests task.func
  each_same n task old named =
      let few : length same ≤ length a.names = knows.few in
      let t : Task = get_or a.names n task in
      let at : slice_get a.names n ≡ Some t = slice_get-get_or a.names n task (omega (arith, old, few)) in
      let both : Some t ≡ Some task = sym (k.names n t at) ∙ named in
      let is : t ≡ task = cc in
      knows.each n t old at ∙ ap (λ (x : Task). is_same_code funcs digests x.func) is

  -- it is still known of each old task whether its code is as it was
  pub still_known : KnowsCode u funcs digests same b
  still_known = record {
    few = let longer : length a.names ≤ length b.names = names_longer a.names b.names k.names in omega (arith, longer, knows.few);
    each = each_same;
    olds = λ bytes some. known_as bytes (knows.olds bytes some);
  }

-- ---- the tasks that ran

run_still : (a b : Tables) → KeepsTasks a b → (task : Task) → HasRun a task → HasRun b task
run_still a b k task r = record { number = r.number; named = k.names r.number task r.named; marked = k.ran r.number r.marked }

none_ran : (u : Update) (funcs digests : List (List ℕ × List ℕ)) → HaveReasons u funcs digests []
none_ran u funcs digests = record {
  once = λ i j d lt within. absurd (omega (arith, within));
  reasons = λ i d within. absurd (omega (arith, within));
  reached = λ i d within. absurd (omega (arith, within));
}

-- each of these tasks stands at one place
abbrev IsAtOne : List Task → Type 0
IsAtOne names = (i j : ℕ) (t : Task) → slice_get names i ≡ Some t → slice_get names j ≡ Some t → i ≡ j

one_before : (a b : Tables) → KeepsTasks a b → AreTasks b.names → IsAtOne a.names
one_before a b k tasks i j t p q = one_place b.names tasks i j t (k.names i t p) (k.names j t q)

module _ (u : Update) (funcs digests : List (List ℕ × List ℕ)) (first a b : Tables) (k : KeepsTasks a b) (one : IsAtOne a.names)
    (before mid after : List Task) (h : HaveRun u funcs digests first a before mid) where
  -- one of those that ran is one of more, by its number still
  one_still : (more : List Task) → ((t : Task) → Contains h.gained t → Contains more t) → (n : ℕ)
      → IsMarked first.ran.items n ⊎ IsOneOf a h.gained n → IsMarked first.ran.items n ⊎ IsOneOf b more n
  one_still more into n (inl was) = inl was
  one_still more into n (inr one) = inr (record { task = one.task; listed = into one.task one.listed; named = k.names n one.task one.named })

  -- none more
  same_run : RunsNone a b mid after → HaveRun u funcs digests first b before after
  same_run none = record {
    gained = h.gained;
    is = none.0 ∙ h.is;
    ran = h.ran;
    marked = All-weaker (HasRun a) (HasRun b) (run_still a b k) h.gained h.marked;
    only = λ n is. one_still h.gained (λ t i. i) n (h.only n (none.1 n is));
  }

  -- a task that starts hadn't run
  other : (s : StartsFor u funcs digests a b mid after) (task : Task) → HasRun a task → task ≢ s.task
  other s task r is =
      let same : r.number ≡ s.number = one r.number s.number task r.named (s.named ∙ ap Some (sym is)) in
      false≢true (sym s.rested ∙ subst (IsMarked a.ran.items) same r.marked)

  only_one : (s : StartsFor u funcs digests a b mid after) (n : ℕ) → IsMarked b.ran.items n
      → IsMarked first.ran.items n ⊎ IsOneOf b (h.gained ++ s.task ∷ []) n
  only_one s n is = by (s.alone n is)
    where
      by : IsMarked a.ran.items n ⊎ (n ≡ s.number) → IsMarked first.ran.items n ⊎ IsOneOf b (h.gained ++ s.task ∷ []) n
      by (inl was) = one_still (h.gained ++ s.task ∷ []) (λ t i. Contains-append_left h.gained (s.task ∷ []) t i) n (h.only n was)
      by (inr e) = inr (record {
        task = s.task;
        listed = Contains-push h.gained s.task;
        named = k.names n s.task (ap (slice_get a.names) e ∙ s.named);
      })

  one_run : StartsFor u funcs digests a b mid after → HaveRun u funcs digests first b before after
  one_run s = record {
    gained = h.gained ++ s.task ∷ [];
    is = s.added ∙ ap (λ (ts : List Task). ts ++ s.task ∷ []) h.is ∙ append_assoc before h.gained (s.task ∷ []);
    ran = record {
      once = all_pairs_push (λ (t v : Task). t ≢ v) h.gained s.task h.ran.once (λ i d within. other s (get_or h.gained i d) (h.marked i d within));
      reasons = All-push (HasReason u funcs digests) h.gained s.task h.ran.reasons s.reason;
      reached = All-push (IsReached u) h.gained s.task h.ran.reached s.reached;
    };
    marked = All-push (HasRun b) h.gained s.task (All-weaker (HasRun a) (HasRun b) (run_still a b k) h.gained h.marked)
        (record { number = s.number; named = k.names s.number s.task s.named; marked = s.ran });
    only = only_one s;
  }

  more_run : RunsFor u funcs digests a b mid after → HaveRun u funcs digests first b before after
  more_run (inl none) = same_run none
  more_run (inr s) = one_run s

-- ---- what a cause tells of them

-- one of a ring, and those that came of too many
told_of : (u : Update) (c : Core) (cause : Cause) (gained : List Task) → ((task : Task) → HasRunAs c.tables task → Contains gained task)
    → All (HasRun c.tables) gained → IsCauseOf u c cause → RanOf u cause gained
told_of u c causes.Interrupted gained within marked is = tt
told_of u c causes.NoStore gained within marked is = tt
told_of u c (causes.Damaged fault) gained within marked is = tt
told_of u c causes.BadPending gained within marked is = tt
told_of u c (causes.UnionCycle tasks) gained within marked is =
    record { task = is.ran.task; listed = is.ran.listed; has = within is.ran.task is.ran.has }
told_of u c (causes.UnionMany old new task) gained within marked is = record {
  many = record { olds = is.1.olds; news = is.1.news; these = is.1.these };
  only =
      All-weaker (HasRun c.tables) (λ v. IsOldTask u v ⊎ Contains is.1.news v)
      (λ v run. is.1.only v (record { number = run.number; named = run.named; ran = run.marked })) gained marked;
  has = All-weaker (HasRunIfKnown u c.tables) (λ v. Contains gained v ⊎ (number_from 0 u.functions v ≡ None)) by is.1.news is.1.ran;
}
  where
    by : (v : Task) → HasRunIfKnown u c.tables v → Contains gained v ⊎ (number_from 0 u.functions v ≡ None)
    by v (inl ran) = inl (within v ran)
    by v (inr lost) = inr lost

-- of too many old ones none came, and none ran
told_many : (u : Update) (c : Core) (cause : Cause) (task : Task) (gained : List Task) → cause ≡ UnionMany 50000 0 task → All (λ v. ⊥) gained
    → IsCauseOf u c cause → RanOf u cause gained
told_many u c cause task gained same none is = subst (λ x. RanOf u x gained) (sym same) (by (subst (IsCauseOf u c) same is))
  where
    by : IsCauseOf u c (UnionMany 50000 0 task) → RanOf u (UnionMany 50000 0 task) gained
    by many = record {
      many = record { olds = many.1.olds; news = many.1.news; these = many.1.these };
      only = All-weaker (λ v. ⊥) (λ v. IsOldTask u v ⊎ Contains many.1.news v) (λ v no. absurd no) gained none;
      has = λ i d inside. absurd (omega (arith, inside, many.1.these.came));
    }

-- ---- steps

pub runs_first : (held : Option Directory) (c : Core) (runs : List Task) → RunsOn held c c runs runs
runs_first held c runs u funcs digests site now stands knows = (
  knows,
  record {
    gained = [];
    is = none_more runs;
    ran = none_ran u funcs digests;
    marked = λ i d within. absurd (omega (arith, within));
    only = λ n is. inl is;
  },
)
  where
    none_more : (ts : List Task) → ts ≡ ts ++ []
    none_more [] = refl
    none_more (t ∷ ts) = ap (λ (xs : List Task). t ∷ xs) (none_more ts)

module _ (held mid : Option Directory) (a b c : Core) (turn : Turn) (r s t : List Task) (same : mid ≡ held) (first : b.plan ≡ a.plan) (then : c.plan ≡ b.plan)
    (tasks : KeepsTasks b.tables c.tables) (stands : StaysStanding held a b) (before : RunsOn held a b r s) (whole : StepsWhole mid b c turn)
    (step : StepsFor mid b c s t) where
  module _ (u : Update) (funcs digests : List (List ℕ × List ℕ)) (site : IsSiteNow u held) (now : IsBuildNow u a.plan) (begins : StandsWhole u a)
      (knows : Knows u funcs digests a) where
    at : IsBuildNow u b.plan
    at = subst (λ (p : Plan). IsBuildNow u p) (sym first) now

    turned : TurnIsWhole u c turn
    turned = subst (λ m. StepsWhole m b c turn) same whole u at site (stands u site now begins)

    so_far : Knows u funcs digests b × HaveRun u funcs digests a.tables b.tables r s
    so_far = before u funcs digests site now begins knows

    runs : RunsFor u funcs digests b.tables c.tables s t
    runs = subst (λ m. StepsFor m b c s t) same step u funcs digests at site (stands u site now begins) so_far.0

    knows_on : Knows u funcs digests c
    knows_on = subst (λ (p : Plan). KnowsCode u funcs digests p.same.items c.tables) (sym then)
        (still_known u funcs digests b.plan.same.items b.tables c.tables tasks so_far.0)

    ran_on : IsWhole u c → Knows u funcs digests c × HaveRun u funcs digests a.tables c.tables r t
    ran_on w =
        (knows_on, more_run u funcs digests a.tables b.tables c.tables tasks (one_before b.tables c.tables tasks w.exact.are.tables.tasks) r s t so_far.1 runs)

    -- a task that has run is among those
    ran_in : NoneRan a → (h : HaveRun u funcs digests a.tables c.tables r t) → (task : Task) → HasRunAs c.tables task → Contains h.gained task
    ran_in none h task run = by (h.only run.number run.ran)
      where
        by : IsMarked a.tables.ran.items run.number ⊎ IsOneOf c.tables h.gained run.number → Contains h.gained task
        by (inl was) = absurd (false≢true (sym (none run.number) ∙ was))
        by (inr one) = subst (Contains h.gained) (let both : Some one.task ≡ Some task = sym one.named ∙ run.named in cc) one.listed

    -- so they begun where it has to start afresh
    begun_by : (cause : Cause) → IsCauseOf u c cause → NoneRan a → AreTasks b.tables.names → HaveBegun u funcs digests cause r t
    begun_by cause is none names =
        let h = more_run u funcs digests a.tables b.tables c.tables tasks (one_place b.tables.names names) r s t so_far.1 runs in
        record { gained = h.gained; is = h.is; ran = h.ran; told = told_of u c cause h.gained (ran_in none h) h.marked is }

    begun_now : (cause : Cause) → IsCauseOf u c cause → NoneRan a → ((task : Task) → b.first ≡ TooMany task → cause ≡ UnionMany 50000 0 task)
        → StartsNoneForMany b s t → HaveBegun u funcs digests cause r t
    begun_now cause is none many idle = by (stands u site now begins)
      where
        first_by : (f : First) → b.first ≡ f → (b.first ≡ Done → ⊥) → (b.first ≡ Tests → IsLoadedCore u b)
            → ((task : Task) → b.first ≡ TooMany task → HasRunNone b.tables) → HaveBegun u funcs digests cause r t
        first_by Tests at fresh loads idles = begun_by cause is none (loads at).loaded.tasks
        first_by (TooMany task) at fresh loads idles = record {
          gained = so_far.1.gained;
          is = idle task at ∙ so_far.1.is;
          ran = so_far.1.ran;
          told =
              told_many u c cause task so_far.1.gained (many task at)
              (All-weaker (HasRun b.tables) (λ v. ⊥) (λ v run. idles task at v (record { number = run.number; named = run.named; ran = run.marked }))
              so_far.1.gained so_far.1.marked) is;
        }
        first_by Done at fresh loads idles = absurd (fresh at)

        by : StandsWhole u b → HaveBegun u funcs digests cause r t
        by (inl loaded) = first_by b.first refl loaded.0 loaded.1 (λ task at. (loaded.2 task at).1)
        by (inr w) = begun_by cause is none w.exact.are.tables.tasks

    -- once the roots are settled, each task with a reason that a clean build enters is among those that ran
    due : turn ≡ Settled → SettlesFor c turn → NoneRan a → (h : HaveRun u funcs digests a.tables c.tables r t) → (task : Task) → IsEntered u task
        → HasReason u funcs digests task → Contains h.gained task
    due settled all none h task entered reason =
        let at : IsBuildNow u c.plan = subst (λ (p : Plan). IsBuildNow u p) (sym (then ∙ first)) now in
        let whole : IsWhole u c = subst (TurnIsWhole u c) settled turned in
        ran_in none h task (subst (SettlesFor c) settled all u funcs digests at whole.exact knows_on task entered reason)

  -- so each task that a clean build enters is of a function of the pipeline, and is among them if it has a reason
  all_due : (u : Update) (funcs digests : List (List ℕ × List ℕ)) (site : IsSiteNow u held) (now : IsBuildNow u a.plan) (begins : StandsWhole u a)
      (knows : Knows u funcs digests a) → turn ≡ Settled → HasSettled c → SettlesFor c turn → NoneRan a → (h : HaveRun u funcs digests a.tables c.tables r t)
      → AllAreDue u funcs digests h.gained
  all_due u funcs digests site now begins knows settled over all none h roots same types are x enters =
      let at : IsBuildNow u c.plan = subst (λ (p : Plan). IsBuildNow u p) (sym (then ∙ first)) now in
      let whole : IsWhole u c = subst (TurnIsWhole u c) settled (turned u funcs digests site now begins knows) in
      let of = of_function u c over at whole.exact roots same types are x enters in
      let entered : IsEntered u of.task = record {
        canonical = subst (IsCanonicalTask of.task) of.canonical.bytes of.canonical;
        entered = subst (λ (bs : List (List ℕ)). among (enc_task of.task) (entered_tasks world (present u) bs) ≡ true) same
            (subst (Enters u.functions u.directory roots) of.canonical.bytes enters);
        number = of.number;
        function = of.function;
      } in
      (of, λ reason. due u funcs digests site now begins knows settled all none h of.task entered reason)

  pub runs_on : turn ≡ Went → RunsOn held a c r t
  runs_on went u funcs digests site now begins knows =
      ran_on u funcs digests site now begins knows (subst (TurnIsWhole u c) went (turned u funcs digests site now begins knows))

  pub runs_end : turn ≡ Settled → RunsOn held a c r t
  runs_end settled u funcs digests site now begins knows =
      ran_on u funcs digests site now begins knows (subst (TurnIsWhole u c) settled (turned u funcs digests site now begins knows))

  -- of a core that isn't of too many old tasks, once the roots are settled
  pub settles_runs : turn ≡ Settled → StaysMany a b → ((task : Task) → b.first ≡ TooMany task → turn ≡ StartAfresh (UnionMany 50000 0 task))
      → SettlesFor c turn → HasSettled c → RunsWhole held a r t
  settles_runs settled stays many all over = record {
    few = λ task is. absurd (never (sym settled ∙ many task (stays task is)));
    each = λ u funcs digests site now begins knows none.
        let h = (runs_end settled u funcs digests site now begins knows).1 in record {
          gained = h.gained;
          is = h.is;
          ran = record { have = h.ran; all = all_due u funcs digests site now begins knows settled over all none h };
        };
  }
    where
      never : {cause : Cause} → Settled ≡ StartAfresh cause → ⊥
      never e = cc

  -- of a core that has to start afresh for a cause
  pub stops_runs : (cause : Cause) → turn ≡ StartAfresh cause → StaysMany a b
      → ((task : Task) → b.first ≡ TooMany task → turn ≡ StartAfresh (UnionMany 50000 0 task)) → StartsNoneForMany a r s → StartsNoneForMany b s t
      → RunsBefore held a cause r t
  stops_runs cause stops stays many none idle = record { each = λ u funcs digests site now begins knows. by u funcs digests site now begins knows a.first refl }
    where
      one : (x y : Cause) → StartAfresh x ≡ StartAfresh y → x ≡ y
      one x y e = cc

      caused : (task : Task) → b.first ≡ TooMany task → cause ≡ UnionMany 50000 0 task
      caused task is = one cause (UnionMany 50000 0 task) (sym stops ∙ many task is)

      holds : (u : Update) → IsSiteNow u held → IsBuildNow u a.plan → StandsWhole u a → IsCauseOf u c cause
      holds u site now begins =
          subst (TurnIsWhole u c) stops
          (subst (λ m. StepsWhole m b c turn) same whole u (subst (λ (p : Plan). IsBuildNow u p) (sym first) now) site (stands u site now begins))

      by : (u : Update) (funcs digests : List (List ℕ × List ℕ)) → IsSiteNow u held → IsBuildNow u a.plan → StandsWhole u a → KnowsFirst u funcs digests a
          → (f : First) → a.first ≡ f → HaveBegun u funcs digests cause r t
      by u funcs digests site now begins knows (TooMany task) is = record {
        gained = [];
        is = idle task (stays task is) ∙ none task is ∙ sym (append-nil r);
        ran = none_ran u funcs digests;
        told = told_many u c cause task [] (caused task (stays task is)) (All-nil (λ (v : Task). ⊥)) (holds u site now begins);
      }
      by u funcs digests site now begins knows Tests is =
          let has = knows (λ task many. apart_tests task (sym is ∙ many)) in
          begun_now u funcs digests site now begins has.0 cause (holds u site now begins) has.1 caused idle
        where
          apart_tests : (task : Task) → Tests ≡ TooMany task → ⊥
          apart_tests task e = cc
      by u funcs digests site now begins knows Done is =
          let has = knows (λ task many. apart_done task (sym is ∙ many)) in
          begun_now u funcs digests site now begins has.0 cause (holds u site now begins) has.1 caused idle
        where
          apart_done : (task : Task) → Done ≡ TooMany task → ⊥
          apart_done task e = cc

-- ---- too many old tasks

pub many_first : (c : Core) → StaysMany c c
many_first c task is = is

pub many_on : (a b c : Core) (turn : Turn) → StaysMany a b → ((task : Task) → b.first ≡ TooMany task → turn ≡ StartAfresh (UnionMany 50000 0 task))
    → turn ≡ Went → StaysMany a c
many_on a b c turn stays many went task is = absurd (never (sym went ∙ many task (stays task is)))
  where
    never : {cause : Cause} → Went ≡ StartAfresh cause → ⊥
    never e = cc

pub none_first : (c : Core) (before : List Task) → StartsNoneForMany c before before
none_first c before task is = refl

pub none_on : (a b : Core) (turn : Turn) (r t : List Task) → StaysMany a b → ((task : Task) → b.first ≡ TooMany task → turn ≡ StartAfresh (UnionMany 50000 0 task))
    → turn ≡ Went → StartsNoneForMany a r t
none_on a b turn r t stays many went task is = absurd (never (sym went ∙ many task (stays task is)))
  where
    never : {cause : Cause} → Went ≡ StartAfresh cause → ⊥
    never e = cc

-- ---- an evaluation

pub begins_by : (c : Core) → (c.first ≡ Done → ⊥) → ((task : Task) → c.first ≡ TooMany task → ⊥) → c.first ≡ Tests
begins_by c fresh few = by c.first refl
  where
    by : (f : First) → c.first ≡ f → c.first ≡ Tests
    by Tests is = is
    by (TooMany task) is = absurd (few task is)
    by Done is = absurd (fresh is)

pub none_yet : (u : Update) (c : Core) → (c.first ≡ Done → ⊥) → c.first ≡ Tests → StandsWhole u c → NoneRan c
none_yet u c fresh tests (inl begins) n = ((begins.1 tests).unstarted n).rested
none_yet u c fresh tests (inr whole) n = absurd (fresh whole.exact.tested)

pub runs_each : (held : Option Directory) (fs : List FunctionTree) (codes : List Code) (digests : List (List ℕ × List ℕ)) (roots : List Task) (s : StoreImage)
    (names : List (List ℕ)) (c : Core) (before after : List Task) → AreCompiled fs codes → BeginsNow fs codes roots s.funcs digests s.rows names c
    → (c.first ≡ Done → ⊥) → BeginsKnowing s.funcs digests s.rows names c → RunsWhole held c before after
    → RunsEach held fs digests roots s names before after
runs_each held fs codes digests roots s names c before after compiled begins fresh knows runs = record {
  each = λ u here stored.
      let begun = begins.each u held here compiled stored in
      let site : IsSiteNow u held = record { holds = here.holds; apart = here.separates; besides = here.met } in
      let tests = begins_by c fresh runs.few in
      runs.each u s.funcs digests site begun.0 begun.1 (knows u stored tests) (none_yet u c fresh tests begun.1);
}

-- where it has to start afresh for a cause
pub begins_each : (held : Option Directory) (fs : List FunctionTree) (codes : List Code) (digests : List (List ℕ × List ℕ)) (roots : List Task)
    (s : StoreImage) (names : List (List ℕ)) (c : Core) (cause : Cause) (before after : List Task) → AreCompiled fs codes
    → BeginsNow fs codes roots s.funcs digests s.rows names c → (c.first ≡ Done → ⊥) → BeginsKnowing s.funcs digests s.rows names c
    → RunsBefore held c cause before after → BeginsEach held fs digests roots s names cause before after
begins_each held fs codes digests roots s names c cause before after compiled begins fresh knows runs = record {
  each = λ u here stored.
      let begun = begins.each u held here compiled stored in
      let site : IsSiteNow u held = record { holds = here.holds; apart = here.separates; besides = here.met } in
      runs.each u s.funcs digests site begun.0 begun.1
      (λ few. let tests = begins_by c fresh few in (knows u stored tests, none_yet u c fresh tests begun.1));
}

-- what a report tells of them
pub told_reasons : (held : Option Directory) (fs : List FunctionTree) (digests : List (List ℕ × List ℕ)) (roots : List Task) (s : StoreImage)
    (names : List (List ℕ)) (n : ℕ) (old new : List Task) (ran : Vec Task Global) (r : Report) → n ≡ length old
    → RunsEach held fs digests roots s names old new → ran.items ≡ drop n new → r.ran ≡ ran
    → (u : Update) → IsUpdateHere u held fs roots → IsStoredIn u s.funcs digests s.rows names → AreDue u s.funcs digests r.ran.items
told_reasons held fs digests roots s names n old new ran r is runs behind same u here stored =
    let h = runs.each u here stored in
    let gained : drop n new ≡ h.gained = ap (λ k. drop k new) is ∙ ap (drop (length old)) h.is ∙ drop-append_seam old h.gained in
    let these : r.ran.items ≡ h.gained = ap (λ (v : Vec Task Global). v.items) same ∙ behind ∙ gained in
    subst (AreDue u s.funcs digests) (sym these) h.ran
