-- What holds after some records of a walk.
use Rattle.std.proofs.Common.{◌≡◌, ℕ, zero, suc, ◌+◌, ◌<◌, ◌≤◌, Bool, true, false, cond, List, [], ◌∷◌, ◌++◌, length, get_or, take}
use Rattle.std.proofs.Common.{refl, sym, ap, subst, ◌∙◌, arith}
use Rattle.std.specs.Prelude.{All, Contains, Option, Some, None}
use Rattle.std.proofs.lemmas.List.{get_or-map, get_or-take, get_or_default, length-map, length-take, map-append, take_more, take_all}
use Rattle.std.proofs.lemmas.List.Elements.{All-nil, All-push}
use Rattle.pie_value.specs.declared.task.Task.{Task}
use Rattle.pie_value.specs.Canonical.{enc_task}
use Rattle.pie_value.specs.Order.{byte_order}
use Rattle.pie_record.specs.declared.dep.Dep.{Dep}
use Rattle.pie_record.specs.declared.task_record.TaskRecord.{TaskRecord}
use Rattle.pie_store.specs.Canonical.{tasks_in, AreInOrder}
use Rattle.pie_store.specs.Ranks.{Ranked, same_task, rank_in, is_before, follows, comes_last, height_after, IsStored, IsStoredOn}
use Rattle.pie_store.specs.inner.Reading.{rows_of}
use Rattle.pie_store.proofs.Ranking.{same_refl}
use Rattle.pie_store.proofs.Pairs.{last_is, ahead_on}
use Rattle.pie_store.proofs.Admitted.{Admits as IsAdmitted, AreKept, admits_on, kept_none, kept_push, kept_in_order}
use Rattle.pie_store.proofs.StoreTexts.{firsts_all}
use Rattle.pie_store.proofs.ReadAgain.{ranked, rank_missing, above_again}
use Rattle.pie_store.proofs.RowsAgain.{task_at_place}
use Rattle.pie_storable.specs.declared.heights.Heights.{Heights}
use Rattle.pie_storable.specs.inner.Heights.{AreHeights, Adds, Bars, MayFollow, AreWalked, HasRank}
use Rattle.pie_storable.proofs.Placing.{all_more}

abbrev pub AreDeps : TaskRecord → Type 0
AreDeps r = All (λ (d : Dep). IsStoredOn d.what) r.deps

-- the heights are those of the first records, and the only ones where all records are in order
pub record Walked (test : List ℕ → Bool) (all : List TaskRecord) (i : ℕ) (h : Heights) : Type 0 where
  pub rows : Ranked
  pub same : rows_of rows ≡ take i all
  pub heights : AreHeights rows h
  pub kept : AreKept test rows
  pub stored : All IsStored (tasks_in (take i all))
  pub deps : All AreDeps (take i all)
  pub only : (m : MayFollow test all) → rows ≡ ranked m.order.height (take i all)

pub walked_none : (test : List ℕ → Bool) (all : List TaskRecord) (h : Heights) → AreHeights [] h → Walked test all 0 h
walked_none test all h e = record {
  rows = [];
  same = refl;
  heights = e;
  kept = kept_none test;
  stored = All-nil IsStored;
  deps = All-nil AreDeps;
  only = λ m. refl;
}

-- a record in its place among records in order is admitted, with the height of the order
admitted_again : (test : List ℕ → Bool) (all : List TaskRecord) (i : ℕ) (e : TaskRecord) (o : AreInOrder all) → All IsStored (tasks_in (take i all))
    → IsStored (get_or all i e).task → test (get_or all i e).task.func ≡ true → i < length all
    → IsAdmitted test (ranked o.height (take i all)) (get_or all i e) (o.height (get_or all i e).task)
admitted_again test all i e o front own func lt = record {
  fresh = rank_missing o.height (take i all) r.task front own (λ c.
      let short : c.0 < i = omega (arith, c.1, length-map (take i all) (λ (x : TaskRecord). x.task), length-take i all) in
      let in_front : c.0 < length (take i all) = omega (arith, c.1, length-map (take i all) (λ (x : TaskRecord). x.task)) in
      o.once c.0 i r short lt
      (sym (ap (λ (x : TaskRecord). x.task) (get_or-take i all c.0 r short)) ∙ sym (task_at_place (take i all) c.0 r in_front) ∙ c.2
      ∙ ap (λ (x : TaskRecord). x.task) (get_or_default all i e r lt)));
  height = above_again o.height (take i all) r.deps 0 front (o.earlier i e lt) ∙ ap (λ (n : ℕ). Some n) (sym (o.heights i e lt));
  last = by i lt;
  func = func;
}
  where
    r : TaskRecord
    r = get_or all i e

    by : (k : ℕ) → k < length all → comes_last (ranked o.height (take k all)) (get_or all k e).task (o.height (get_or all k e).task) ≡ true
    by zero h = refl
    by (suc k) h =
        let front = take (suc k) all in
        let x = get_or all (suc k) e in
        let y = get_or all k e in
        let long : suc k ≡ length (ranked o.height front) =
        omega (arith, h, length-take (suc k) all, length-map {B = TaskRecord × ℕ} front (λ (z : TaskRecord). (z, o.height z.task))) in
        let at : get_or (ranked o.height front) k (e, 0) ≡ (y, o.height y.task) =
        get_or-map (λ (z : TaskRecord). (z, o.height z.task)) front k e (e, 0) (omega (arith, h, length-take (suc k) all))
        ∙ ap (λ (z : TaskRecord). (z, o.height z.task)) (get_or-take (suc k) all k e (omega arith)) in
        ap (λ (f : Option (TaskRecord × ℕ)). follows f x.task (o.height x.task)) (last_is (ranked o.height front) k (e, 0) long)
        ∙ ap (λ (z : TaskRecord × ℕ). is_before z.0.task z.1 x.task (o.height x.task)) at
        ∙ ahead_on (o.height y.task) (o.height x.task) (byte_order (enc_task y.task) (enc_task x.task)) (o.ascending k (suc k) e (omega arith) h)

-- the height of the next record, where all are in order
next_height : (test : List ℕ → Bool) (all : List TaskRecord) (i : ℕ) (r : TaskRecord) (h : Heights) (w : Walked test all i h) (m : MayFollow test all)
    → i < length all → r ≡ get_or all i r → IsStored r.task → height_after test w.rows r ≡ Some (m.order.height r.task)
next_height test all i r h w m lt is own =
    let e : height_after test (ranked m.order.height (take i all)) (get_or all i r) ≡ Some (m.order.height (get_or all i r).task) =
    admits_on test (ranked m.order.height (take i all)) (get_or all i r) (m.order.height (get_or all i r).task)
    (admitted_again test all i r m.order w.stored (subst (λ (x : TaskRecord). IsStored x.task) is own) (m.known i r lt) lt) in
    ap (λ (l : Ranked). height_after test l r) (w.only m)
    ∙ subst (λ (x : TaskRecord). height_after test (ranked m.order.height (take i all)) x ≡ Some (m.order.height x.task)) (sym is) e

pub walked_more : (test : List ℕ → Bool) (all : List TaskRecord) (i : ℕ) (r : TaskRecord) (old new : Heights) → Walked test all i old → i < length all
    → r ≡ get_or all i r → IsStored r.task → AreDeps r → Adds test old r new → Walked test all (i + 1) new
walked_more test all i r old new w lt is own deps admits =
    let a = admits w.rows w.heights in
    let more : take (i + 1) all ≡ take i all ++ r ∷ [] = take_more all i r lt ∙ ap (λ (x : TaskRecord). take i all ++ x ∷ []) (sym is) in
    record {
      rows = w.rows ++ (r, a.height) ∷ [];
      same =
          map-append (λ (x : TaskRecord × ℕ). x.0) w.rows ((r, a.height) ∷ []) ∙ ap (λ (l : List TaskRecord). l ++ r ∷ []) w.same ∙ sym more;
      heights = a.heights;
      kept = kept_push test w.rows (r, a.height) w.kept a.passed;
      stored =
          subst (All IsStored) (sym (ap tasks_in more ∙ map-append (λ (x : TaskRecord). x.task) (take i all) (r ∷ [])))
          (All-push IsStored (tasks_in (take i all)) r.task w.stored own);
      deps = all_more AreDeps all i r lt is w.deps deps;
      only = λ m.
          let same : Some a.height ≡ Some (m.order.height r.task) = sym a.passed ∙ next_height test all i r old w m lt is own in
          let height : a.height ≡ m.order.height r.task = cc in
          ap (λ (n : ℕ). w.rows ++ (r, n) ∷ []) height
          ∙ ap (λ (l : Ranked). l ++ (r, m.order.height r.task) ∷ []) (w.only m)
          ∙ sym (map-append {B = TaskRecord × ℕ} (λ (x : TaskRecord). (x, m.order.height x.task)) (take i all) (r ∷ []))
          ∙ ap (ranked m.order.height) (sym more);
    }

-- a record that may not stand after those before it
pub walk_stops : (test : List ℕ → Bool) (all : List TaskRecord) (i : ℕ) (r : TaskRecord) (h : Heights) → Walked test all i h → i < length all
    → r ≡ get_or all i r → IsStored r.task → Bars test h r → ¬ (MayFollow test all)
walk_stops test all i r h w lt is own none m =
    let e : Some (m.order.height r.task) ≡ None = sym (next_height test all i r h w m lt is own) ∙ none w.rows w.heights in absurd (cc)

-- the whole
pub walk_ends : (test : List ℕ → Bool) (all : List TaskRecord) (i : ℕ) (h : Heights) → Walked test all i h → length all ≤ i → AreWalked test all h
walk_ends test all i h w le =
    let whole : take i all ≡ all = take_all i all le in
    let same : rows_of w.rows ≡ all = w.same ∙ whole in
    let stored : All IsStored (tasks_in all) = subst (λ (l : List TaskRecord). All IsStored (tasks_in l)) whole w.stored in
    record {
      ranked = w.rows;
      same = same;
      heights = w.heights;
      stored = stored;
      follow = record {
        order =
            subst AreInOrder same
            (kept_in_order test w.rows w.kept (subst (λ (l : List TaskRecord). All IsStored (tasks_in l)) (sym same) stored)
            (subst (All AreDeps) (sym w.same) w.deps));
        known =
            subst (All (λ (r : TaskRecord). test r.task.func ≡ true)) same
            (firsts_all {B = ℕ} (λ (r : TaskRecord). test r.task.func ≡ true) w.rows (λ j r lt. (w.kept.admitted j r lt).func));
      };
    }

-- ---- roots

has_own : (r : TaskRecord × ℕ) (rows : Ranked) (t : Task) → IsStored t → r.0.task ≡ t → HasRank (r ∷ rows) t
has_own r rows t s is =
    let y : same_task r.0.task t ≡ true = subst (λ (u : Task). same_task r.0.task u ≡ true) is (same_refl r.0.task) in
    record { height = r.1; found = ap (λ (b : Bool). cond b (Some r.1) (rank_in rows t)) y; stored = s }

has_later : (r : TaskRecord × ℕ) (rows : Ranked) (t : Task) → IsStored t → HasRank rows t → HasRank (r ∷ rows) t
has_later r rows t s h = by (same_task r.0.task t) refl
  where
    by : (b : Bool) → same_task r.0.task t ≡ b → HasRank (r ∷ rows) t
    by true e = record { height = r.1; found = ap (λ (x : Bool). cond x (Some r.1) (rank_in rows t)) e; stored = s }
    by false e = record { height = h.height; found = ap (λ (x : Bool). cond x (Some r.1) (rank_in rows t)) e ∙ h.found; stored = s }

-- a task with a record has a height
pub has_of : (rows : Ranked) (t : Task) → IsStored t → Contains (tasks_in (rows_of rows)) t → HasRank rows t
has_of [] t s c = absurd (omega (arith, c.1))
has_of (r ∷ rows) t s (zero, lt, is) = has_own r rows t s is
has_of (r ∷ rows) t s (suc k, lt, is) = has_later r rows t s (has_of rows t s (k, omega (arith, lt), is))
