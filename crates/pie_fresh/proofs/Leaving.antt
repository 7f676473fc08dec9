-- A task that ends leaves its record as in the model, and the one that waits for it goes on.
use Rattle.std.proofs.Common.{◌≡◌, ◌⊎◌, inl, inr, ℕ, suc, ◌-◌, ◌<◌, ◌≤◌, Bool, true, false, cond, Some, List, [], ◌∷◌, map}
use Rattle.std.proofs.Common.{length, reverse, refl, sym, ap, subst, ◌∙◌, arith}
use Rattle.std.specs.Prelude.{slice_get, slice_set, IfSome, IfOk, Result, Ok, Err}
use Rattle.std.specs.Ordering.{nat_cmp, is_eq}
use Rattle.std.specs.Cmp.{Equal-is}
use Rattle.std.specs.FinMap.{nat_cmp-IsAntisymmetric}
use Rattle.std.proofs.lemmas.Option.{slice_get_within}
use Rattle.pie_base.specs.declared.fault.FaultKind.TheVariants as faults
use Rattle.pie_value.specs.declared.task.Task.{Task}
use Rattle.pie_value.specs.declared.value.Value.{Value}
use Rattle.pie_value.specs.declared.verdict.Refusal.TheVariants.{Fault}
use Rattle.pie_value.specs.Values.{tree_of}
use Rattle.pie_value.specs.Limits.{is_small}
use Rattle.pie_value.specs.Canonical.{enc, enc_task, IsCanonical}
use Rattle.pie_code.specs.declared.code.Code.{Code}
use Rattle.pie_vm.specs.Machines.{Standing}
use Rattle.pie_view.specs.Content.{content}
use Rattle.pie_record.specs.declared.records.Records.{Records}
use Rattle.pie_record.specs.declared.task_record.TaskRecord.{TaskRecord}
use Rattle.pie_record.specs.inner.Records.{record_of as kept_of, Puts}
use Rattle.pie_model.specs.declared.words.Event.TheVariants.{Done, Fail}
use Rattle.pie_model.specs.declared.words.FaultKind.TheVariants as model_faults
use Rattle.pie_model.specs.declared.words.Outcome.TheVariants.{Ended, Failed}
use Rattle.pie_model.specs.Trees.{trace_of, writes_of}
use Rattle.pie_model.specs.Seen.{first_write}
use Rattle.pie_model.specs.Evaluation.{evaluation}
use Rattle.pie_model.specs.inner.Steps.{ChangesAt}
use Rattle.pie_model.specs.inner.Stack.{Frame as ModelFrame}
use Rattle.pie_step_laws.specs.Frames.{record_left, was_answered}
use Rattle.pie_step_laws.specs.Table.{Rests as TableRests}
use Rattle.pie_step_laws.specs.UnderWay.{UnderWay, HasEnded}
use Rattle.pie_step_laws.proofs.EndLemmas.{failed, task_ends, frame_waits, own_writes, root_rests, root_ends}
use Rattle.pie_model_pipeline.specs.Rows.{record_of, observation_of}
use Rattle.pie_model_pipeline.specs.World.{world}
use Rattle.pie_types.specs.Headings.{function_in}
use Rattle.pie_type_laws.specs.Fitting.{OutputFits}
use Rattle.pie_builder_laws.specs.Names.{AreTasks}
use Rattle.pie_builder_laws.specs.Tables.{recorded}
use Rattle.pie_builder_laws.specs.Views.{IsGraphOf, IsStaged}
use Rattle.pie_builder_laws.proofs.Tabled.{record_put}
use Rattle.pie_builder_laws.proofs.Provided.{graph_changes}
use Rattle.pie_fresh.specs.declared.ledger.Ledger.{Ledger}
use Rattle.pie_fresh.specs.declared.builder.Builder.{Builder}
use Rattle.pie_fresh.specs.declared.turn.Turn.{Turn}
use Rattle.pie_fresh.specs.declared.turn.Turn.TheVariants.{Stops}
use Rattle.pie_running.specs.inner.Noted.{Noted}
use Rattle.pie_fresh.specs.inner.Kept.{ended_with, row_ended, HasOutput}
use Rattle.pie_fresh.specs.inner.Means.{Site, project_of, table_of, names_of, IsKeptOutput, FitsAs, MeansTable, MeanCallers, Means, EndsWith, GoesOnAfter}
use Rattle.pie_fresh.specs.inner.Means.{HasFinished, FinishesAs, ResumesAs}
use Rattle.pie_fresh.specs.inner.Means.{IsThere, RefusesAs, TurnMeans}
use Rattle.pie_running.proofs.Fitting.{output_has}
use Rattle.pie_fresh.proofs.Moving.{callers_move}
use Rattle.pie_running.proofs.FrameLemmas.{one_less}
use Rattle.pie_running.proofs.Firsts.{same_number, other_number}
use Rattle.pie_builder_laws.proofs.Naming.{canonical_at}

-- ---- records that were put

module _ (old new : Records) (n : ℕ) (rec : TaskRecord) (puts : Puts old new n rec) where
  put_here : kept_of new n ≡ Some rec
  put_here = puts n ∙ ap (λ b. cond b (Some rec) (kept_of old n)) (same_number n)

  put_elsewhere : (m : ℕ) → (m ≡ n → ⊥) → kept_of new m ≡ kept_of old m
  put_elsewhere m d = puts m ∙ ap (λ b. cond b (Some rec) (kept_of old m)) (other_number n m d)

same_or_not : (n m : ℕ) → (n ≡ m) ⊎ (n ≡ m → ⊥)
same_or_not n m = by (is_eq (nat_cmp m n)) refl
  where
    by : (b : Bool) → is_eq (nat_cmp m n) ≡ b → (n ≡ m) ⊎ (n ≡ m → ⊥)
    by true e = inl (sym (nat_cmp-IsAntisymmetric m n ((Equal-is (nat_cmp m n)).0 e)))
    by false e = inr (λ h. apart (sym (subst (λ k. is_eq (nat_cmp m k) ≡ true) (sym h) (same_number m)) ∙ e))
      where
        apart : true ≡ false → ⊥
        apart g = cc

some_is : {X : Type 0} {x y : X} → Some x ≡ Some y → x ≡ y
some_is h = cc

-- ---- the table after a task has ended

module _ (s : Site) (b : Builder) (code : Code) (m : Standing) (n : Noted) (M : Means s b code m n) (v : Value) (next : Ledger)
    (ends_so : (project_of s).next M.running.task M.running.progress.answers ≡ Done (enc (tree_of v))) (left : 0 < n.left)
    (canonical : IsCanonical (tree_of v) (enc (tree_of v))) (output : OutputFits (function_in n.task.func s.headings) (tree_of v))
    (names : next.names ≡ b.ledger.names)
    (puts : Puts b.ledger.records next.records n.number (ended_with n v)) (rows : next.rows ≡ slice_set b.ledger.rows n.number (row_ended n))
    (stage : next.stage ≡ b.ledger.stage) where
  some_left : M.running.left ≡ suc (n.left - 1)
  some_left = M.top.left ∙ one_less n.left left

  inside : n.number < length b.ledger.names
  inside = slice_get_within b.ledger.names n.number n.task M.top.named

  inside_rows : n.number < length b.ledger.rows
  inside_rows = subst (λ k. n.number < k) (sym M.table.graph.as_many) inside

  -- its record is the one that the frame leaves
  leaves : record_of (ended_with n v) ≡ record_left world M.running (enc (tree_of v))
  leaves =
      ap (λ t. record { task = t; observations = map observation_of n.deps; writes = n.writes; outcome = Ended (enc (tree_of v)) }) (sym M.top.task)
      ∙ ap (λ os. record { task = M.running.task; observations = os; writes = n.writes; outcome = Ended (enc (tree_of v)) }) M.top.seen
      ∙ ap (λ ws. record { task = M.running.task; observations = M.running.seen; writes = ws; outcome = Ended (enc (tree_of v)) }) M.top.writes

  -- the table changes at the task
  changes : ChangesAt (table_of b.ledger) (table_of next) M.running.task (record_left world M.running (enc (tree_of v)))
  changes =
      subst (λ ns. ChangesAt (table_of b.ledger) (recorded ns next.records) M.running.task (record_left world M.running (enc (tree_of v)))) (sym names)
      (subst (λ t. ChangesAt (table_of b.ledger) (recorded b.ledger.names next.records) t (record_left world M.running (enc (tree_of v)))) (sym M.top.task)
      (subst (λ r. ChangesAt (table_of b.ledger) (recorded b.ledger.names next.records) (enc_task n.task) r) leaves
      (record_put b.ledger.names b.ledger.records next.records n.number n.task (ended_with n v) M.table.tasks M.top.named puts)))

  graph_after : IsGraphOf b.ledger.names next.records next.rows
  graph_after =
      subst (IsGraphOf b.ledger.names next.records) (sym rows)
      (graph_changes b.ledger.names b.ledger.records next.records b.ledger.rows n.number (row_ended n) (ended_with n v) M.table.graph puts inside_rows
      (M.top.needs, refl))

  staged_after : IsStaged world (project_of s) b.ledger.names next.records (content b.ledger.stage)
  staged_after k t rec e h p = by (same_or_not k n.number)
    where
      by : (k ≡ n.number) ⊎ (k ≡ n.number → ⊥) → content b.ledger.stage k p ≡ first_write p
          (writes_of (trace_of (evaluation world (project_of s) (enc_task t))))
      by (inl i) =
          ap (λ z. content b.ledger.stage z p) i ∙ M.top.staged p
          ∙ ap (first_write p) (sym (own_writes world (project_of s) s.root s.base (table_of b.ledger) (names_of b.ledger) M.waiting M.running M.under
          (n.left - 1) (enc (tree_of v)) some_left ends_so))
          ∙ ap (λ x. first_write p (writes_of (trace_of (evaluation world (project_of s) x))))
          (M.top.task ∙ ap enc_task (some_is (sym M.top.named ∙ ap (slice_get b.ledger.names) (sym i) ∙ e)))
      by (inr d) = M.table.staged k t rec e (sym (put_elsewhere b.ledger.records next.records n.number (ended_with n v) puts k d) ∙ h) p

  past_apart : (k : ℕ) → length b.ledger.names ≤ k → k ≡ n.number → ⊥
  past_apart k h i = omega (arith, h, i, inside)

  outputs_after : (k : ℕ) → IfSome (kept_of next.records k) (λ r. IsKeptOutput r.outcome)
  outputs_after k = by (same_or_not k n.number)
    where
      by : (k ≡ n.number) ⊎ (k ≡ n.number → ⊥) → IfSome (kept_of next.records k) (λ r. IsKeptOutput r.outcome)
      by (inl i) = subst (λ o. IfSome o (λ r. IsKeptOutput r.outcome))
          (sym (ap (kept_of next.records) i ∙ put_here b.ledger.records next.records n.number (ended_with n v) puts)) canonical
      by (inr d) = subst (λ o. IfSome o (λ r. IsKeptOutput r.outcome))
          (sym (put_elsewhere b.ledger.records next.records n.number (ended_with n v) puts k d)) (M.table.outputs k)

  fits_after : (k : ℕ) (t : Task) (r : TaskRecord) → slice_get b.ledger.names k ≡ Some t → kept_of next.records k ≡ Some r → FitsAs s.headings t r.outcome
  fits_after k t r e h = by (same_or_not k n.number)
    where
      by : (k ≡ n.number) ⊎ (k ≡ n.number → ⊥) → FitsAs s.headings t r.outcome
      by (inl i) = subst (λ (x : TaskRecord). FitsAs s.headings t x.outcome)
          (some_is (sym (put_here b.ledger.records next.records n.number (ended_with n v) puts) ∙ sym (ap (kept_of next.records) i) ∙ h))
          (subst (λ (x : Task). OutputFits (function_in x.func s.headings) (tree_of v))
          (some_is (sym M.top.named ∙ ap (slice_get b.ledger.names) (sym i) ∙ e)) output)
      by (inr d) = M.table.fits k t r e (sym (put_elsewhere b.ledger.records next.records n.number (ended_with n v) puts k d) ∙ h)

  pub table_after : MeansTable s next
  table_after = record {
    tasks = subst (λ ns. AreTasks ns) (sym names) M.table.tasks;
    graph = subst (λ ns. IsGraphOf ns next.records next.rows) (sym names) graph_after;
    staged = subst (λ st. IsStaged world (project_of s) next.names next.records (content st)) (sym stage)
        (subst (λ ns. IsStaged world (project_of s) ns next.records (content b.ledger.stage)) (sym names) staged_after);
    unused = λ k h.
        let past : length b.ledger.names ≤ k = subst (λ ns. length ns ≤ k) names h in
        record {
          unrecorded = put_elsewhere b.ledger.records next.records n.number (ended_with n v) puts k (past_apart k past) ∙ (M.table.unused k past).unrecorded;
          unstaged = λ p. ap (λ z. content z k p) stage ∙ (M.table.unused k past).unstaged p;
        };
    outputs = outputs_after;
    fits = subst (λ ns. (k : ℕ) (t : Task) (r : TaskRecord) → slice_get ns k ≡ Some t → kept_of next.records k ≡ Some r → FitsAs s.headings t r.outcome)
        (sym names) fits_after;
  }

  callers_after : MeanCallers s next M.waiting (reverse b.stack.items)
  callers_after =
      callers_move s b.ledger next M.waiting _ (record {
        named = λ k t h. subst (λ ns. slice_get ns k ≡ Some t) (sym names) h;
        numbers = λ ks ts h. subst (λ ns. map (slice_get ns) ks ≡ map Some ts) (sym names) h;
      }) (λ k t e i p. ap (λ z. content z k p) stage) M.stack

  names_same : names_of next ≡ names_of b.ledger
  names_same = ap (map enc_task) names

  goes_after : (c : Builder) → c.ledger ≡ next → GoesOnAfter s c M.running.task (enc (tree_of v)) M.waiting
  goes_after c e = by M.waiting M.under
    where
      by : (gs : List ModelFrame) → UnderWay world (project_of s) s.root s.base (table_of b.ledger) (names_of b.ledger) gs M.running
          → GoesOnAfter s c M.running.task (enc (tree_of v)) gs
      by [] U = (
        subst (λ l. TableRests world (project_of s) (table_of l) (names_of l)) (sym e)
            (subst (TableRests world (project_of s) (table_of next)) (sym names_same)
            (root_rests world (project_of s) s.root s.base (table_of b.ledger) (table_of next) (names_of b.ledger) M.running (n.left - 1) (enc (tree_of v)) U
            some_left ends_so changes)),
        subst (λ l. HasEnded world (project_of s) s.root s.base (names_of l) (Ended (enc (tree_of v)))) (sym e)
            (subst (λ ns. HasEnded world (project_of s) s.root s.base ns (Ended (enc (tree_of v)))) (sym names_same)
            (root_ends world (project_of s) s.root s.base (table_of b.ledger) (table_of b.ledger) (names_of b.ledger) M.running (n.left - 1) (enc (tree_of v)) U
            some_left ends_so)),
      )
      by (g ∷ gs) U = (
        frame_waits world (project_of s) s.root g gs M.running.task U.waits,
        λ h q.
            subst (λ l. UnderWay world (project_of s) s.root s.base (table_of l) (names_of l) gs
            (was_answered world (project_of s) g g.left h M.running.task (enc (tree_of v)))) (sym e)
            (subst (λ ns. UnderWay world (project_of s) s.root s.base (table_of next) ns gs
            (was_answered world (project_of s) g g.left h M.running.task (enc (tree_of v)))) (sym names_same)
            (task_ends world (project_of s) s.root s.base (table_of b.ledger) (table_of next) (names_of b.ledger) M.running (n.left - 1) (enc (tree_of v))
            g gs U some_left ends_so changes h q)),
      )

  -- the build after the task has ended
  pub finished : (c : Builder) → c.ledger ≡ next → c.stack ≡ b.stack → IsThere s c → HasFinished s c n.number v
  finished c e stack there = record {
    there = there;
    table = subst (MeansTable s) (sym e) table_after;
    task = n.task;
    named = subst (λ l. slice_get l.names n.number ≡ Some n.task) (sym e) (subst (λ ns. slice_get ns n.number ≡ Some n.task) (sym names) M.top.named);
    output = subst (λ l. HasOutput l.records n.number v) (sym e)
        (record { rec = ended_with n v; kept = put_here b.ledger.records next.records n.number (ended_with n v) puts; outcome = refl });
    waiting = M.waiting;
    stack = subst (λ cs. MeanCallers s c.ledger M.waiting (reverse cs.items)) (sym stack)
        (subst (λ l. MeanCallers s l M.waiting (reverse b.stack.items)) (sym e) callers_after);
    goes = subst (λ t. GoesOnAfter s c t (enc (tree_of v)) M.waiting) M.top.task (goes_after c e);
  }

pub finishes : (s : Site) (b c : Builder) (n : Noted) (v : Value) → EndsWith s b n v → is_small (tree_of v) ≡ true
    → IsCanonical (tree_of v) (enc (tree_of v)) → c.ledger.names ≡ b.ledger.names → Puts b.ledger.records c.ledger.records n.number (ended_with n v)
    → c.ledger.rows ≡ slice_set b.ledger.rows n.number (row_ended n) → c.ledger.stage ≡ b.ledger.stage → c.stack ≡ b.stack → IsThere s c
    → HasFinished s c n.number v
finishes s b c n v E small canonical names puts rows stage stack there =
    finished s b E.code E.machine n E.means v c.ledger (E.ends ∙ ap (λ z. cond z (Done (enc (tree_of v))) (Fail model_faults.Big)) small) E.left canonical
    (output_has s.functions s.headings s.codes E.means.there.compiled b.ledger.names b.ledger.stage E.code E.machine n n.left E.means.running E.means.top
    E.means.there.headings v E.came) names puts rows stage c refl stack there

-- a value past the limits is a fault
pub too_big : (s : Site) (b : Builder) (n : Noted) (v : Value) (t : Turn) (task : Task) → EndsWith s b n v → is_small (tree_of v) ≡ false
    → t ≡ Stops (Fault (record { task = task; kind = faults.Big })) → task ≡ n.task → TurnMeans s b t
too_big s b n v t task E small e same =
    subst (TurnMeans s b) (sym e) (subst (λ x. RefusesAs s b.ledger (Fault (record { task = x; kind = faults.Big }))) (sym same) (
      subst (λ x. HasEnded world (project_of s) s.root s.base (names_of b.ledger) (Failed x model_faults.Big)) E.means.top.task
          (failed world (project_of s) s.root s.base (table_of b.ledger) (names_of b.ledger) E.means.waiting E.means.running E.means.under
          (n.left - 1) model_faults.Big
          (E.means.top.left ∙ one_less n.left E.left) (E.ends ∙ ap (λ z. cond z (Done (enc (tree_of v))) (Fail model_faults.Big)) small)),
      canonical_at b.ledger.names E.means.table.tasks n.number n.task E.means.top.named,
    ))

pub finishes_as : (b mid : Builder) (n : Noted) (v u : Value) (number : ℕ) (bytes : List ℕ) → is_small (tree_of v) ≡ true
    → IsCanonical (tree_of v) bytes → bytes ≡ enc (tree_of v) → mid.ledger.names ≡ b.ledger.names
    → Puts b.ledger.records mid.ledger.records n.number (ended_with n v) → mid.ledger.rows ≡ slice_set b.ledger.rows n.number (row_ended n)
    → mid.ledger.stage ≡ b.ledger.stage → mid.stack ≡ b.stack → mid.typed ≡ b.typed → mid.code ≡ b.code → number ≡ n.number → u ≡ v
    → (new : Builder) (t : Turn) → ResumesAs mid new number u t → FinishesAs b new n v t
finishes_as b mid n v u number bytes small canonical same names puts rows stage stack typed code place copy new t goes s E =
    goes s (subst (λ k. HasFinished s mid k u) (sym place) (subst (HasFinished s mid n.number) (sym copy)
    (finishes s b mid n v E small (subst (IsCanonical (tree_of v)) same canonical) names puts rows stage stack (record {
      functions = ap (λ x. x.now) typed ∙ E.means.there.functions;
      codes = ap (λ x. x.now) code ∙ E.means.there.codes;
      compiled = E.means.there.compiled;
      headings = E.means.there.headings;
    }))))

-- a fact on an answer, from another
pub if_ok : {A : Type 0} {E : Type 0} (P Q : A → Type 0) (r : Result A E) → ((a : A) → P a → Q a) → IfOk r P → IfOk r Q
if_ok P Q (Ok a) f h = f a h
if_ok P Q (Err e) f h = h
