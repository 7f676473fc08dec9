-- The tables of a build without a list whose tasks have all ended are those of an exact build.
use Rattle.std.proofs.Common.{◌≡◌, ◌≢◌, ◌⊎◌, inl, inr, ℕ, zero, suc, ◌<◌, ◌-◌, true, false, Some, None, List, [], map, length, replicate, refl, sym, ap, subst, ◌∙◌, arith}
use Rattle.std.specs.Prelude.{slice_get, slice_index_or, Contains, option_map}
use Rattle.std.proofs.lemmas.List.{length-replicate}
use Rattle.std.proofs.lemmas.Option.{slice_get_within}
use Rattle.pie_value.specs.declared.task.Task.{Task}
use Rattle.pie_value.specs.Canonical.{enc_task}
use Rattle.pie_check_laws.proofs.Members.{into_map, from_map}
use Rattle.pie_graph.specs.Numbers.{IsMarked}
use Rattle.pie_graph.specs.Rows.{Row, row_at, Calls}
use Rattle.pie_reach.proofs.WalkSteps.{caller_below}
use Rattle.pie_record.specs.declared.records.Records.{Records}
use Rattle.pie_record.specs.declared.task_record.TaskRecord.{TaskRecord}
use Rattle.pie_record.specs.inner.Records.{record_of as kept_of}
use Rattle.pie_walk.specs.declared.marks.Mark.TheVariants.{New, Settled}
use Rattle.pie_walk.specs.Marks.{mark_of, IsSettled}
use Rattle.pie_walk.specs.States.{WalkState}
use Rattle.pie_walk.specs.Standing.{Stands}
use Rattle.pie_model.specs.Paths.{among}
use Rattle.pie_model.specs.Trees.{outcome_of, trace_of, is_done as ends_well, is_plain, HasTask, StandsIn}
use Rattle.pie_model.specs.Evaluation.{World, Project, evaluation}
use Rattle.pie_model.specs.Records.{Record}
use Rattle.pie_model.specs.inner.Consistent.{IsRecorded}
use Rattle.pie_model.specs.Separate.{AllMet}
use Rattle.pie_model.proofs.Basics.{clash}
use Rattle.pie_model.proofs.Rooms.{Standing, standing, all_plain, node_alone}
use Rattle.pie_model.proofs.SecondLaw.{done_plain}
use Rattle.pie_model_pipeline.specs.Rows.{record_of}
use Rattle.pie_model_pipeline.specs.World.{world}
use Rattle.pie_builder_laws.specs.Names.{called_in}
use Rattle.pie_builder_laws.specs.Tables.{recorded}
use Rattle.pie_builder_laws.proofs.Naming.{among_from, placed}
use Rattle.pie_builder_laws.proofs.Tabled.{record_by_number}
use Rattle.pie_earlier_laws.proofs.Meeting.{tried_met}
use Rattle.pie_core_laws.specs.Update.{Update, MetIn, earlier, present}
use Rattle.pie_core_laws.specs.Exact.{runs, is_busy, RestsOnIn, IsExact}
use Rattle.pie_core_laws.proofs.Exactly as exactly
use Rattle.pie_topdown_result_laws.specs.Settled.{all_settled, AreSettledTables}

-- ---- lists of one thing

one_mark : (count n : ℕ) → n < count → mark_of (replicate count Settled) n ≡ Settled
one_mark zero n l = absurd (omega arith)
one_mark (suc count) zero l = refl
one_mark (suc count) (suc n) l = one_mark count n (omega (arith, l))

past_mark : (count n : ℕ) → (mark_of (replicate count Settled) n ≡ New) ⊎ (mark_of (replicate count Settled) n ≡ Settled)
past_mark zero n = inl refl
past_mark (suc count) zero = inr refl
past_mark (suc count) (suc n) = past_mark count n

none_marked : (count n : ℕ) → slice_index_or (replicate count false) n false ≡ false
none_marked zero n = refl
none_marked (suc count) zero = refl
none_marked (suc count) (suc n) = none_marked count n

unmarked : (count n : ℕ) → IsMarked (replicate count false) n → ⊥
unmarked count n h = clash (slice_index_or (replicate count false) n false) h (none_marked count n)

-- ---- what stands in a tree that ended with a value

pub stands_whole : (w : World) (P : Project) (r x : List ℕ) → ends_well (outcome_of (evaluation w P r)) ≡ true → HasTask x (evaluation w P r)
    → StandsIn (evaluation w P x) (evaluation w P r)
stands_whole w P r x done has = by (standing x (evaluation w P r) has)
  where
    plain : is_plain (outcome_of (evaluation w P r)) ≡ true
    plain = done_plain (outcome_of (evaluation w P r)) done

    by : Standing x (evaluation w P r) → StandsIn (evaluation w P x) (evaluation w P r)
    by f =
        let p = all_plain (w.most_tasks - length {A = List ℕ} []) w P [] r f.found plain f.stands in
        let e = node_alone (w.most_tasks - length {A = List ℕ} []) w P [] r f.found (omega arith) f.stands p in
        subst (λ m. StandsIn m (evaluation w P r)) (e ∙ ap (evaluation w P) f.is) f.stands

module _ (u : Update) (names : List Task) (records : Records) (rows : List Row) (places : List ℕ) (roots : List Task)
    (a : AreSettledTables u names records rows places roots) where
  abbrev s : WalkState
  s = all_settled rows places

  -- ---- marks

  pub inside : (n : ℕ) → n < length names → IsSettled s.marks n
  inside n l = one_mark (length rows) n (subst (λ m. n < m) (sym a.as_many) l)

  settled_inside : (n : ℕ) → IsSettled s.marks n → n < length names
  settled_inside n h = subst (λ m. n < m) (length-replicate (length rows) Settled ∙ a.as_many) (exactly.settled_inside s.marks n h)

  none_runs : (n : ℕ) → runs (mark_of s.marks n) ≡ true → ⊥
  none_runs n h = by (past_mark (length rows) n)
    where
      by : (mark_of s.marks n ≡ New) ⊎ (mark_of s.marks n ≡ Settled) → ⊥
      by (inl e) = clash (runs (mark_of s.marks n)) h (ap runs e)
      by (inr e) = clash (runs (mark_of s.marks n)) h (ap runs e)

  -- a number with a task
  some_inside : (n : ℕ) (t : Task) → slice_get names n ≡ Some t → n < length names
  some_inside n t e = slice_get_within names n t e

  pub kept_inside : (n : ℕ) (rec : TaskRecord) → kept_of records n ≡ Some rec → n < length names
  kept_inside n rec k = some_inside n rec.task (a.named n rec k)

  -- what an entered task requires was entered
  called_inside : (n k : ℕ) → Calls rows n k → k < length names
  called_inside n k c =
      let l : n < length names = subst (λ m. n < m) a.as_many (caller_below rows n k c) in
      let r = a.whole n l in
      let i = into_map (slice_get names) (row_at rows n).needs k c in
      let m = from_map Some (called_in r.0.deps) (slice_get names k) (subst (λ xs. Contains xs (slice_get names k)) (a.rows_are n r.0 r.1).0 i) in
      some_inside k m.0 (sym m.2)

  stands : Stands s
  stands = record {
    holds = record {
      marks_sized = length-replicate (length rows) Settled;
      scheduled_sized = length-replicate (length rows) false;
      agrees = a.agree;
      entries = tt;
      stands = λ n met unsettled. absurd (either n met unsettled (past_mark (length rows) n));
      closed = λ n k h c. inside k (called_inside n k c);
      calm = λ n h. absurd (unmarked (length rows) n h);
    };
    swept = record {
      looks_sized = length-replicate (length rows) false;
      swept_sized = length-replicate (length rows) false;
      up = λ n k h c idle. absurd (unmarked (length rows) n h);
      flags = λ k h idle looks. absurd (unmarked (length rows) k h);
    };
  }
    where
      either : (n : ℕ) → mark_of s.marks n ≢ New → mark_of s.marks n ≢ Settled → (mark_of s.marks n ≡ New) ⊎ (mark_of s.marks n ≡ Settled) → ⊥
      either n met unsettled (inl e) = met e
      either n met unsettled (inr e) = unsettled e

  -- ---- what the records say

  root_recorded : (x : List ℕ) → among x u.roots ≡ true → IsRecorded (recorded names records) x
  root_recorded x i =
      let m = among_from roots x (subst (λ xs. among x xs ≡ true) (sym a.are_roots) i) in
      let r = a.ended m.task (placed roots m.number m.task m.named) in
      record {
        kept = record_of r.rec;
        is = ap (recorded names records) m.bytes ∙ record_by_number names records r.number m.task a.tasks r.named ∙ ap (option_map record_of) r.kept;
      }

  root_done : (x : List ℕ) → among x u.roots ≡ true → ends_well (outcome_of (evaluation world (present u) x)) ≡ true
  root_done x i = let k = root_recorded x i in a.table.done x k.kept k.is

  counted : (x : List ℕ) (r : Record) → recorded names records x ≡ Some r → among x (map enc_task names) ≡ true
  counted x r h = a.table.counted x r h

  met : (x : List ℕ) (r : Record) → recorded names records x ≡ Some r → AllMet world (MetIn u) (trace_of (evaluation world (present u) x))
  met x r h =
      let k = a.stand x (counted x r h) in
      tried_met world (earlier u) (present u) u.old_roots u.roots u.besides k.from (evaluation world (present u) x) (inr k.listed)
      (stands_whole world (present u) k.from x (root_done k.from k.listed) k.stands)

  plain : (x : List ℕ) (r : Record) → recorded names records x ≡ Some r → is_plain r.outcome ≡ true
  plain x r h = ap (λ (z : Record). is_plain z.outcome) (a.table.right x r h) ∙ done_plain (outcome_of (evaluation world (present u) x)) (a.table.done x r h)

  runs_at : (n : ℕ) (rec : TaskRecord) (y : Task) → kept_of records n ≡ Some rec → runs (mark_of s.marks n) ≡ true → Contains (called_in rec.deps) y
      → RestsOnIn names s n y
  runs_at n rec y k r c = absurd (none_runs n r)

  all_recorded : (n : ℕ) → n < length names → kept_of records n ≡ None → is_busy s n ≡ true
  all_recorded n l e = let r = a.whole n l in absurd (none_some r.0 (sym e ∙ r.1))
    where
      none_some : (rec : TaskRecord) → None ≡ Some rec → ⊥
      none_some rec e = cc

  exact : IsExact u names records s
  exact = record {
    tasks = a.tasks;
    as_many = a.as_many;
    named = a.named;
    ended = λ n h. a.whole n (settled_inside n h);
    fresh = all_recorded;
    rows = λ n rec k r. a.rows_are n rec k;
    running = runs_at;
    old = λ n rec k h. absurd (h (inside n (kept_inside n rec k)));
    looks = λ n rec k h f. absurd (h (inside n (kept_inside n rec k)));
    consistent = λ told tells. record {
      few = a.table.few;
      counted = counted;
      closed = a.table.closed;
      lower = exactly.lower_by names records s a.tasks (λ n rec k r. a.rows_are n rec k) runs_at a.agree;
      plain = plain;
      met = met;
      telling = tells;
      current = λ x r h calm. inl (a.table.right x r h);
    };
  }

  pub settled_exact : IsExact u names records s × Stands s
  settled_exact = (exact, stands)
