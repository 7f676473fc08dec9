-- There are too many tasks that are tried where a build starts afresh for that.
use Rattle.std.proofs.Common.{◌≡◌, ◌≢◌, ◌⊎◌, ℕ, ◌+◌, ◌-◌, ◌<◌, ◌≤◌, Bool, true, false, List, [], ◌∷◌, ◌++◌, length, map, cond, get_or, Option, None, Some, refl, sym, ap, ◌∙◌, subst, inl, inr, arith}
use Rattle.std.specs.Prelude.{bytes_eq, slice_get, slice_index_or, is_some, drop, take, IsSome}
use Rattle.std.specs.List.{All, AllPairs, Contains}
use Rattle.std.proofs.lemmas.List.{append-nil, get_or-drop, get_or-take, length-drop, length-take-le, take-append-drop}
use Rattle.std.proofs.lemmas.List.Elements.{All-contains, All-nil, All-weaker, Contains-append_cases}
use Rattle.std.proofs.lemmas.Option.{get_or_from_slice_get, slice_get-get_or, slice_get_within}
use Rattle.pie_value.specs.declared.task.Task.{Task}
use Rattle.pie_value.specs.Canonical.{enc_task}
use Rattle.pie_files.specs.Directory.{Directory}
use Rattle.pie_graph.specs.Numbers.{IsMarked}
use Rattle.pie_record.specs.declared.task_record.TaskRecord.{TaskRecord}
use Rattle.pie_record.specs.inner.Records.{record_of as kept_of}
use Rattle.pie_store.specs.Canonical.{AreInOrder, tasks_in}
use Rattle.pie_store.specs.declared.cause.Cause.TheVariants.{UnionMany}
use Rattle.pie_tables.specs.declared.tables.Tables.{Tables}
use Rattle.pie_types.specs.Whole.{number_from}
use Rattle.pie_old.proofs.Earlier.{distinct_in}
use Rattle.pie_walk.specs.Marks.{mark_of, IsIdle, IsSettled}
use Rattle.pie_walk.specs.Standing.{Stands}
use Rattle.pie_model.proofs.Basics.{bytes_same, clash}
use Rattle.pie_model_pipeline.specs.Rows.{record_of}
use Rattle.pie_model_pipeline.proofs.Joining.{tasks_told}
use Rattle.pie_check_laws.proofs.Members.{none_in, here_or_there}
use Rattle.pie_builder_laws.proofs.Naming.{among_from, canonical_at, one_place, placed}
use Rattle.pie_compare_laws.proofs.Ways.{one_some}
use Rattle.pie_earlier_laws.specs.Rows.{record_among}
use Rattle.pie_entering_laws.specs.inner.Laws.{HasFunction}
use Rattle.pie_core_laws.specs.Comparing.{IsOld}
use Rattle.pie_core_laws.specs.Update.{Update}
use Rattle.pie_core_laws.specs.Exact.{is_busy, runs}
use Rattle.pie_core_laws.proofs.Exactly.{Stage, stage_of, idle_not_runs, idle_not_settled, settled_not_busy}
use Rattle.pie_core_laws.proofs.Exactly.Stage.{idle, going, done}
use Rattle.pie_task_laws.specs.Whole.{NoneIsNew}
use Rattle.pie_bottomup.specs.declared.state.Core.{Core}
use Rattle.pie_bottomup.specs.declared.state.First.TheVariants.{TooMany, Done}
use Rattle.pie_bottomup.specs.declared.state.Turn.TheVariants.{StartAfresh}
use Rattle.pie_bottomup.specs.inner.Causes.{AreManyOld, AreTooMany, HadTooMany, HasAllTasks, HasRunIfKnown, HasRunNone, IsKnownTask, IsOldTask, IsTried, IsTypedUpdate}
use Rattle.pie_bottomup.specs.inner.Exact.{IsExactCore}
use Rattle.pie_bottomup.specs.inner.Going.{build_of, StandsWhole, StepsWhole}
use Rattle.pie_bottomup.specs.inner.Loaded.{IsPastLimit, IsStoredIn, BeginsMany}
use Rattle.pie_bottomup.proofs.Trying.{old_tried}

-- ---- more came than may be

module _ (u : Update) (c : Core) (e : IsExactCore u c) (w : Stands c.frames.walk) (none : NoneIsNew (build_of c))
    (marked : (n : ℕ) → runs (mark_of c.frames.walk.marks n) ≡ true → IsMarked c.tables.ran.items n) where
  abbrev names : List Task
  names = c.tables.names

  -- one past the old ones isn't old
  is_new : (n : ℕ) (t : Task) → c.earlier ≤ n → slice_get names n ≡ Some t → IsOldTask u t → ⊥
  is_new n t past named old =
      let m = among_from (take c.earlier names) (enc_task t) (e.tried.all (enc_task t) old) in
      let low : m.number < c.earlier =
      omega (arith, slice_get_within (take c.earlier names) m.number m.task m.named, length-take-le c.earlier names e.tried.inside) in
      let at : get_or names m.number t ≡ m.task =
      sym (get_or-take c.earlier names m.number t low) ∙ get_or_from_slice_get (take c.earlier names) m.number m.task t m.named in
      let there : slice_get names m.number ≡ Some m.task =
      slice_get-get_or names m.number t (omega (arith, low, e.tried.inside)) ∙ ap Some at in
      let same : t ≡ m.task =
      tasks_told t m.task (canonical_at names e.are.tables.tasks n t named) (canonical_at names e.are.tables.tasks m.number m.task there) m.bytes in
      let one : m.number ≡ n = one_place names e.are.tables.tasks m.number n m.task there (named ∙ ap Some same) in
      absurd (omega (arith, one, low, past))

  -- it has run, or is of no function
  has_run : (n : ℕ) (t : Task) → slice_get names n ≡ Some t → (IsOldTask u t → ⊥) → HasRunIfKnown u c.tables t
  has_run n t named new = by (stage_of c.frames.walk.marks n)
    where
      run_at : IsMarked c.tables.ran.items n → HasRunIfKnown u c.tables t
      run_at flag = inl (record { number = n; named = named; ran = flag })

      its : (rec : TaskRecord) → kept_of c.tables.records n ≡ Some rec → rec.task ≡ t
      its rec kept = one_some rec.task t (sym (e.are.tables.named n rec kept) ∙ named)

      not_old : (rec : TaskRecord) → kept_of c.tables.records n ≡ Some rec → IsOld u rec → ⊥
      not_old rec kept old = new (subst (IsOldTask u) (its rec kept) (ap is_some old.left))

      unmet : IsIdle c.frames.walk.marks n → (o : Option TaskRecord) → kept_of c.tables.records n ≡ o → HasRunIfKnown u c.tables t
      unmet i None is =
          absurd (none n (record { task = t; named = named; unrecorded = is; idle = idle_not_runs c.frames.walk.marks n i }))
      unmet i (Some rec) is = absurd (not_old rec is (e.are.tables.old n rec is (idle_not_settled c.frames.walk.marks n i)))

      calm : IsSettled c.frames.walk.marks n → (b : Bool) → is_busy c.frames.walk n ≡ b → is_busy c.frames.walk n ≡ false
      calm s true busy = absurd (settled_not_busy c.frames.walk w n s busy)
      calm s false rests = rests

      rested : IsSettled c.frames.walk.marks n → (rec : TaskRecord) → kept_of c.tables.records n ≡ Some rec → (b : Bool)
          → slice_index_or c.tables.ran.items n false ≡ b → HasRunIfKnown u c.tables t
      rested s rec kept true flag = run_at flag
      rested s rec kept false flag =
          elim (e.are.unchanged n rec (calm s (is_busy c.frames.walk n) refl) flag kept) [
            | inl same ↦ absurd (not_old rec kept same.old)
            | inr lost ↦ inr (ap (number_from 0 u.functions) (sym (its rec kept)) ∙ lost)
          ]

      by : Stage c.frames.walk.marks n → HasRunIfKnown u c.tables t
      by (idle i) = unmet i (kept_of c.tables.records n) refl
      by (going r m) = run_at (marked n r)
      by (done s) =
          let ended = e.are.tables.ended n s in rested s ended.0 ended.1 (slice_index_or c.tables.ran.items n false) refl

  -- it is of a function of a typed pipeline
  is_known : IsTypedUpdate u → (n : ℕ) (t : Task) → slice_get names n ≡ Some t → (IsOldTask u t → ⊥) → HasFunction u.functions t
  is_known y n t named new = by (All-contains (IsTried u) names t e.tried.tried (placed names n t named)).known
    where
      by : IsKnownTask u t → HasFunction u.functions t
      by (inl old) = absurd (new old)
      by (inr known) = known y (canonical_at names e.are.tables.tasks n t named)

  whole : take c.earlier names ++ drop c.earlier names ≡ names
  whole = take-append-drop c.earlier names

  behind : (i : ℕ) (d : Task) → i < length (drop c.earlier names) → slice_get names (c.earlier + i) ≡ Some (get_or (drop c.earlier names) i d)
  behind i d inside =
      slice_get-get_or names (c.earlier + i) d (omega (arith, inside, length-drop c.earlier names))
      ∙ ap Some (sym (get_or-drop c.earlier names i d))

  pub too_many : (t : Task) → length c.frames.walk.rows ≡ 50000 → (Contains names t → ⊥) → IsTried u t
      → AreTooMany u c.tables c.earlier (length c.frames.walk.rows - c.earlier) t
  too_many t all other one = record {
    olds = take c.earlier names;
    news = drop c.earlier names;
    these = record {
      left = length-take-le c.earlier names e.tried.inside;
      came = length-drop c.earlier names ∙ ap (λ k. k - c.earlier) (sym e.are.tables.as_many);
      full = omega (arith, all, e.are.tables.as_many, e.tried.inside);
      once = subst (AllPairs (λ v w. v ≢ w)) (sym whole) e.are.tables.tasks.distinct;
      are_old = e.tried.old;
      are_new = λ i d inside. is_new (c.earlier + i) (get_or (drop c.earlier names) i d) (omega arith) (behind i d inside);
      known = λ y i d inside.
          is_known y (c.earlier + i) (get_or (drop c.earlier names) i d) (behind i d inside)
          (is_new (c.earlier + i) (get_or (drop c.earlier names) i d) (omega arith) (behind i d inside));
      tried = subst (All (IsTried u)) (sym whole) e.tried.tried;
      none = λ within. other (subst (λ xs. Contains xs t) whole within);
      one = one;
    };
    ran = λ i d inside.
        has_run (c.earlier + i) (get_or (drop c.earlier names) i d) (behind i d inside)
        (is_new (c.earlier + i) (get_or (drop c.earlier names) i d) (omega arith) (behind i d inside));
    only = λ v run.
        elim (Contains-append_cases (take c.earlier names) (drop c.earlier names) v
        (subst (λ (xs : List Task). Contains xs v) (sym whole) (placed names run.number v run.named))) [
          | inl within ↦ inl (All-contains (IsOldTask u) (take c.earlier names) v e.tried.old within)
          | inr came ↦ inr came
        ];
  }

-- ---- there were more old ones

some_row : (kept : List TaskRecord) (t : Task) → Contains (tasks_in kept) t → IsSome (record_among (map record_of kept) (enc_task t))
some_row [] t h = absurd (none_in t h)
some_row (r ∷ rs) t h = by (bytes_eq (enc_task t) (enc_task r.task)) refl (λ later. some_row rs t later)
  where
    by : (b : Bool) → bytes_eq (enc_task t) (enc_task r.task) ≡ b
        → (Contains (tasks_in rs) t → IsSome (record_among (map record_of rs) (enc_task t))) → IsSome (record_among (map record_of (r ∷ rs)) (enc_task t))
    by true is below = ap (λ (b : Bool). is_some (cond b (Some (record_of r)) (record_among (map record_of rs) (enc_task t)))) is
    by false is below =
        elim (here_or_there r.task t (tasks_in rs) h) [
          | inl same ↦ clash (bytes_eq (enc_task t) (enc_task r.task)) (ap (λ (x : Task). bytes_eq (enc_task t) (enc_task x)) same ∙ bytes_same (enc_task t)) is
          | inr later ↦ ap (λ (b : Bool). is_some (cond b (Some (record_of r)) (record_among (map record_of rs) (enc_task t)))) is ∙ below later
        ]

module _ (u : Update) (funcs digests : List (List ℕ × List ℕ)) (kept : List TaskRecord) (changes : List (List ℕ)) (order : AreInOrder kept)
    (stored : IsStoredIn u funcs digests kept changes) (task : Task) (past : slice_get (tasks_in kept) 50000 ≡ Some task) where
  row_old : (t : Task) → Contains (tasks_in kept) t → IsOldTask u t
  row_old t h = subst (λ rows. IsSome (record_among rows (enc_task t))) stored.rows (some_row kept t h)

  long : 50000 < length (tasks_in kept)
  long = slice_get_within (tasks_in kept) 50000 task past

  as_many : length (take 50000 (tasks_in kept)) ≡ 50000
  as_many = length-take-le 50000 (tasks_in kept) (omega (arith, long))

  taken_at : (i : ℕ) (d : Task) → i < 50000 → get_or (take 50000 (tasks_in kept)) i d ≡ get_or (tasks_in kept) i d
  taken_at i d inside = get_or-take 50000 (tasks_in kept) i d inside

  many_old : AreManyOld u task
  many_old = record {
    tasks = take 50000 (tasks_in kept);
    many = as_many;
    once = λ i j d less inside same.
        distinct_in kept order i j d less (omega (arith, inside, as_many, long))
        (sym (taken_at i d (omega (arith, less, inside, as_many))) ∙ same ∙ taken_at j d (omega (arith, inside, as_many)));
    old = λ i d inside.
        subst (IsOldTask u) (sym (taken_at i d (omega (arith, inside, as_many))))
        (row_old (get_or (tasks_in kept) i d)
        (placed (tasks_in kept) i (get_or (tasks_in kept) i d) (slice_get-get_or (tasks_in kept) i d (omega (arith, inside, as_many, long)))));
    none = λ within.
        distinct_in kept order within.0 50000 task (omega (arith, within.1, as_many)) long
        (sym (taken_at within.0 task (omega (arith, within.1, as_many))) ∙ within.2
        ∙ sym (get_or_from_slice_get (tasks_in kept) 50000 task task past));
    one = row_old task (placed (tasks_in kept) 50000 task past);
  }

pub begins_many : (funcs digests : List (List ℕ × List ℕ)) (kept : List TaskRecord) (changes : List (List ℕ)) (c : Core) → AreInOrder kept
    → IsPastLimit kept c.first → ((n : ℕ) → slice_index_or c.tables.ran.items n false ≡ false) → BeginsMany funcs digests kept changes c
begins_many funcs digests kept changes c order past rested = λ u stored task is. (
  many_old u funcs digests kept changes order stored task (subst (IsPastLimit kept) is past),
  λ v run. (let clash : true ≡ false = sym run.ran ∙ rested run.number in cc),
)

many_tried : (u : Update) (t : Tables) (task : Task) → AreManyOld u task → HasRunNone t → AreTooMany u t 50000 0 task
many_tried u t task are none = record {
  olds = are.tasks;
  news = [];
  these = record {
    left = are.many;
    came = refl;
    full = refl;
    once = subst (AllPairs (λ v w. v ≢ w)) (sym (append-nil are.tasks)) are.once;
    are_old = are.old;
    are_new = All-nil (λ v. IsOldTask u v → ⊥);
    known = λ y. All-nil (HasFunction u.functions);
    tried = subst (All (IsTried u)) (sym (append-nil are.tasks)) (All-weaker (IsOldTask u) (IsTried u) (old_tried u) are.tasks are.old);
    none = λ within. are.none (subst (λ xs. Contains xs task) (append-nil are.tasks) within);
    one = old_tried u task are.one;
  };
  ran = All-nil (HasRunIfKnown u t);
  only = λ v run. absurd (none v run);
}

-- its first step starts afresh for that
pub many_whole : (held : Option Directory) (c : Core) (task told : Task) → c.first ≡ TooMany task → told ≡ task
    → StepsWhole held c c (StartAfresh (UnionMany 50000 0 told))
many_whole held c task told first same = λ u now site stands. by u stands
  where
    is : c.first ≡ TooMany told
    is = first ∙ ap TooMany (sym same)

    apart : Done ≡ TooMany told → ⊥
    apart e = cc

    by : (u : Update) → StandsWhole u c
        → (HasAllTasks u c 50000 0 told ⊎ HadTooMany c 50000 0 told) × AreTooMany u c.tables 50000 0 told
    by u (inl begins) = (inr (record { first = is; all = refl; none = refl }), many_tried u c.tables told (begins.2 told is).0 (begins.2 told is).1)
    by u (inr whole) = absurd (apart (sym whole.exact.tested ∙ is))
