-- The ledger after each call.
use Rattle.std.proofs.Common.{eqb, ◌≡◌, ◌≢◌, ◌⊎◌, ℕ, zero, suc, ◌<◌, ◌+◌, true, false, cond, List, [], ◌∷◌, ◌++◌, Option, None, Some, length, map, set, slice_index}
use Rattle.std.proofs.Common.{refl, sym, ap, subst, ◌∙◌, inl, inr, arith, length-set}
use Rattle.std.specs.Prelude.{IfSome, slice_get}
use Rattle.std.specs.List.{All, Contains}
use Rattle.std.specs.declared.cmp.Ordering.TheVariants.{Less, Equal, Greater}
use Rattle.std.specs.Ordering.{nat_cmp, is_eq, MatchOrdering}
use Rattle.std.specs.Cmp.{ranks}
use Rattle.std.proofs.lemmas.Bool.Decides.{eqb_tells}
use Rattle.std.proofs.lemmas.List.{append-nil, length_push, length-append, get_or_append_left, get_or-set_same, get_or-set_other}
use Rattle.std.proofs.lemmas.List.Elements.{All-contains, All-weaker}
use Rattle.std.proofs.lemmas.Option.{slice_get-get_or, slice_get_within, get_or_from_slice_get}
use Rattle.pie_check_laws.proofs.Members.{none_in}
use Rattle.pie_value.specs.declared.task.Task.{Task}
use Rattle.pie_graph.specs.Numbers.{AllBelow}
use Rattle.pie_graph.specs.Rows.{Row, row_at, no_edges, Calls}
use Rattle.pie_record.specs.declared.records.Records.{Records}
use Rattle.pie_record.specs.declared.task_record.Outcome.{Outcome}
use Rattle.pie_record.specs.declared.task_record.Outcome.TheVariants as ends
use Rattle.pie_record.specs.declared.task_record.TaskRecord.{TaskRecord}
use Rattle.pie_record.specs.inner.Records.{record_of, Puts}
use Rattle.pie_store.specs.Canonical.{needs}
use Rattle.pie_tables.specs.Tabled.{HasFailed, IsRecordAt, IsTables}
use Rattle.pie_old.specs.inner.Rows.{tasks_at}
use Rattle.pie_results.specs.inner.Failures.{is_done}
use Rattle.pie_topdown.specs.declared.ledger.Ledger.{Ledger}
use Rattle.pie_topdown.specs.inner.Ledgers.{HasOutput, IsLedger, Grows, row_with}

-- ---- names and numbers

-- the number of a name stays
pub named_more : (names more : List Task) (u : Task) (n : ℕ) → slice_get names n ≡ Some u → slice_get (names ++ more) n ≡ Some u
named_more names more u n e =
    let inside : n < length names = slice_get_within names n u e in
    let size : length (names ++ more) ≡ length names + length more = length-append names more in
    slice_get-get_or (names ++ more) n u (omega (arith, inside, size))
    ∙ ap Some (get_or_append_left names more u n inside ∙ get_or_from_slice_get names n u u e)

-- the numbers of names stay
pub all_named_more : (names more : List Task) (ns : List ℕ) (us : List Task) → tasks_at names ns ≡ map Some us → tasks_at (names ++ more) ns ≡ map Some us
all_named_more names more [] us e = e
all_named_more names more (n ∷ ns) [] e = absurd (let long = ap length e in omega (arith, long))
all_named_more names more (n ∷ ns) (u ∷ us) e =
    let first : slice_get names n ≡ Some u = ap (first_or None) e in
    let others : tasks_at names ns ≡ map Some us = ap rest_of e in
    ap (λ (o : Option Task). o ∷ tasks_at (names ++ more) ns) (named_more names more u n first)
    ∙ ap (λ (os : List (Option Task)). Some u ∷ os) (all_named_more names more ns us others)
  where
    first_or : Option Task → List (Option Task) → Option Task
    first_or d [] = d
    first_or d (o ∷ os) = o

    rest_of : List (Option Task) → List (Option Task)
    rest_of [] = []
    rest_of (o ∷ os) = os

-- a task with an output has a name
pub output_inside : (l : Ledger) → IsTables l.tables → (n : ℕ) → HasOutput l.tables.records n → n < length l.tables.names
output_inside l tables n o =
    let at : IsRecordAt l.tables.names n o.rec = subst (λ x. IfSome x (IsRecordAt l.tables.names n)) o.kept (tables.records n) in
    slice_get_within l.tables.names n o.rec.task at.named

-- tasks with outputs have rows
pub needs_inside : (l : Ledger) (ns : List ℕ) → IsLedger l → All (HasOutput l.tables.records) ns → AllBelow (length l.rows) ns
needs_inside l ns is outputs =
    All-weaker (HasOutput l.tables.records) (λ n. n < length l.rows) (λ n o. let at = output_inside l is.tables n o in omega (arith, at, is.rows)) ns outputs

-- ---- records

-- these records are others but for one task
abbrev pub SameBut : Records → Records → ℕ → Type 0
SameBut old new task = (n : ℕ) → n ≢ task → record_of new n ≡ record_of old n

pub put_at : (old new : Records) (n : ℕ) (r : TaskRecord) → Puts old new n r → record_of new n ≡ Some r
put_at old new n r puts = puts n ∙ (elim (nat_cmp n n) as (λ o. MatchOrdering o (n < n) (n ≡ n) (n < n) → cond (is_eq o) (Some r) (record_of old n) ≡ Some r) [
  | Less ↦ λ lt. absurd (omega (arith, lt))
  | Equal ↦ λ e. refl
  | Greater ↦ λ gt. absurd (omega (arith, gt))
]) (ranks n n)

pub put_other : (old new : Records) (n : ℕ) (r : TaskRecord) → Puts old new n r → SameBut old new n
put_other old new n r puts k apart = puts k ∙ (elim (nat_cmp n k) as (λ o. MatchOrdering o (n < k) (n ≡ k) (k < n)
    → cond (is_eq o) (Some r) (record_of old k) ≡ record_of old k) [
      | Less ↦ λ lt. refl
      | Equal ↦ λ e. absurd (apart (sym e))
      | Greater ↦ λ gt. refl
    ]) (ranks n k)

-- a task without a record is none with an output
pub open_apart : (old : Records) (n k : ℕ) → record_of old n ≡ None → HasOutput old k → k ≢ n
open_apart old n k unended o e = let clash : Some o.rec ≡ None = sym o.kept ∙ subst (λ (m : ℕ). record_of old m ≡ None) (sym e) unended in cc

output_stays : (old new : Records) (n k : ℕ) (r : TaskRecord) → Puts old new n r → record_of old n ≡ None → HasOutput old k → HasOutput new k
output_stays old new n k r puts unended o = record {
  rec = o.rec;
  kept = put_other old new n r puts k (open_apart old n k unended o) ∙ o.kept;
  done = o.done;
}

pub not_done : (o : Outcome) → HasFailed o → is_done o ≡ true → ⊥
not_done (ends.Done v) failed is = failed
not_done (ends.Failed fault) failed is = let clash : false ≡ true = is in cc
not_done (ends.Cycled tasks) failed is = let clash : false ≡ true = is in cc

abbrev the_record : TaskRecord → Option TaskRecord → TaskRecord
the_record d None = d
the_record d (Some x) = x

-- ---- rows

-- one task more
pub grown_rows : (old : List Row) (n : ℕ) → row_at (old ++ no_edges ∷ []) n ≡ row_at old n
grown_rows [] zero = refl
grown_rows [] (suc n) = refl
grown_rows (row ∷ rows) zero = refl
grown_rows (row ∷ rows) (suc n) = grown_rows rows n

-- one place more
grown_places : (ps : List ℕ) (n : ℕ) → slice_index (ps ++ 0 ∷ []) n ≡ slice_index ps n
grown_places [] zero = refl
grown_places [] (suc n) = refl
grown_places (p ∷ ps) zero = refl
grown_places (p ∷ ps) (suc n) = grown_places ps n

no_calls : (n k : ℕ) → Calls [] n k → ⊥
no_calls n k h = none_in k h

-- ---- nothing was entered

pub none_ledger : (l : Ledger) → IsTables l.tables → l.tables.names ≡ [] → ((n : ℕ) → record_of l.tables.records n ≡ None) → l.rows ≡ []
    → l.places.items ≡ [] → IsLedger l
none_ledger l tables names records rows places = record {
  tables = tables;
  rows = ap length rows ∙ sym (ap length names);
  places = ap length places ∙ sym (ap length names);
  calls = λ n k h. absurd (no_calls n k (subst (λ (rs : List Row). Calls rs n k) rows h));
  before = λ n k h. absurd (no_calls n k (subst (λ (rs : List Row). Calls rs n k) rows h));
  low = λ n o. absurd (let clash : Some o.rec ≡ None = sym o.kept ∙ records n in cc);
  ended = λ n r kept done. absurd (let clash : Some r ≡ None = sym kept ∙ records n in cc);
}

-- ---- a task is entered

pub added_ledger : (l m : Ledger) (t : Task) → IsLedger l → IsTables m.tables → m.tables.names ≡ l.tables.names ++ t ∷ []
    → m.tables.records ≡ l.tables.records → m.rows ≡ l.rows ++ no_edges ∷ [] → m.places.items ≡ l.places.items ++ 0 ∷ [] → m.order ≡ l.order → IsLedger m
added_ledger l m t is tables names records rows places order = record {
  tables = tables;
  rows =
      let a : length m.rows ≡ length l.rows + 1 = ap length rows ∙ length_push l.rows no_edges in
      let b : length m.tables.names ≡ length l.tables.names + 1 = ap length names ∙ length_push l.tables.names t in
      omega (arith, a, b, is.rows);
  places =
      let a : length m.places.items ≡ length l.places.items + 1 = ap length places ∙ length_push l.places.items 0 in
      let b : length m.tables.names ≡ length l.tables.names + 1 = ap length names ∙ length_push l.tables.names t in
      omega (arith, a, b, is.places);
  calls = λ n k h. subst (λ rs. HasOutput rs k) (sym records) (is.calls n k (old_call n k h));
  before = λ n k h.
      let b = is.before n k (old_call n k h) in
      let x : slice_index m.places.items n ≡ slice_index l.places.items n = place n in
      let y : slice_index m.places.items k ≡ slice_index l.places.items k = place k in
      omega (arith, b, x, y);
  low = λ n o.
      let b = is.low n (subst (λ rs. HasOutput rs n) records o) in
      let x : slice_index m.places.items n ≡ slice_index l.places.items n = place n in
      let y : length m.order.items ≡ length l.order.items = ap (λ v. length v.items) order in
      omega (arith, b, x, y);
  ended = λ n r kept done.
      let old = is.ended n r (subst (λ rs. record_of rs n ≡ Some r) records kept) done in
      subst (λ (row : Row). tasks_at m.tables.names row.needs ≡ map Some (needs r)) (sym (ap (λ rs. row_at rs n) rows ∙ grown_rows l.rows n))
      (subst (λ (ts : List Task). tasks_at ts (row_at l.rows n).needs ≡ map Some (needs r)) (sym names)
      (all_named_more l.tables.names (t ∷ []) (row_at l.rows n).needs (needs r) old));
}
  where
    old_call : (n k : ℕ) → Calls m.rows n k → Calls l.rows n k
    old_call n k h = subst (λ (row : Row). Contains row.needs k) (ap (λ rs. row_at rs n) rows ∙ grown_rows l.rows n) h

    place : (n : ℕ) → slice_index m.places.items n ≡ slice_index l.places.items n
    place n = ap (λ (ps : List ℕ). slice_index ps n) places ∙ grown_places l.places.items n

pub added_grows : (l m : Ledger) (t : Task) → m.tables.names ≡ l.tables.names ++ t ∷ [] → m.tables.records ≡ l.tables.records → Grows l m
added_grows l m t names records = record {
  rest = t ∷ [];
  names = names;
  outputs = λ n o. subst (λ rs. HasOutput rs n) (sym records) o;
}

-- ---- a task starts to run

pub ran_ledger : (l m : Ledger) → IsLedger l → IsTables m.tables → m.tables.names ≡ l.tables.names → m.tables.records ≡ l.tables.records → m.rows ≡ l.rows
    → m.places ≡ l.places → m.order ≡ l.order → IsLedger m
ran_ledger l m is tables names records rows places order = record {
  tables = tables;
  rows = ap length rows ∙ is.rows ∙ sym (ap length names);
  places = ap (λ v. length v.items) places ∙ is.places ∙ sym (ap length names);
  calls = λ n k h. subst (λ rs. HasOutput rs k) (sym records) (is.calls n k (subst (λ (rs : List Row). Calls rs n k) rows h));
  before = λ n k h.
      let b = is.before n k (subst (λ (rs : List Row). Calls rs n k) rows h) in
      let x = ap (λ v. slice_index v.items n) places in
      let y = ap (λ v. slice_index v.items k) places in
      omega (arith, b, x, y);
  low = λ n o.
      let b = is.low n (subst (λ rs. HasOutput rs n) records o) in
      let x = ap (λ v. slice_index v.items n) places in
      let y = ap (λ v. length v.items) order in
      omega (arith, b, x, y);
  ended = λ n r kept done.
      let old = is.ended n r (subst (λ rs. record_of rs n ≡ Some r) records kept) done in
      subst (λ (rs : List Row). tasks_at m.tables.names (row_at rs n).needs ≡ map Some (needs r)) (sym rows)
      (subst (λ (ts : List Task). tasks_at ts (row_at l.rows n).needs ≡ map Some (needs r)) (sym names) old);
}

pub same_grows : (l m : Ledger) → m.tables.names ≡ l.tables.names → m.tables.records ≡ l.tables.records → Grows l m
same_grows l m names records = record {
  rest = [];
  names = names ∙ sym (append-nil l.tables.names);
  outputs = λ n o. subst (λ rs. HasOutput rs n) (sym records) o;
}

-- ---- a task ends

pub ended_grows : (l m : Ledger) (n : ℕ) (r : TaskRecord) → m.tables.names ≡ l.tables.names → Puts l.tables.records m.tables.records n r
    → record_of l.tables.records n ≡ None → Grows l m
ended_grows l m n r names puts unended = record {
  rest = [];
  names = names ∙ sym (append-nil l.tables.names);
  outputs = λ k o. output_stays l.tables.records m.tables.records n k r puts unended o;
}

-- a task that fails
pub failed_ledger : (l m : Ledger) (n : ℕ) (r : TaskRecord) → IsLedger l → IsTables m.tables → m.tables.names ≡ l.tables.names
    → Puts l.tables.records m.tables.records n r → record_of l.tables.records n ≡ None → HasFailed r.outcome → m.rows ≡ l.rows → m.places ≡ l.places
    → m.order ≡ l.order → IsLedger m
failed_ledger l m n r is tables names puts unended failed rows places order = record {
  tables = tables;
  rows = ap length rows ∙ is.rows ∙ sym (ap length names);
  places = ap (λ v. length v.items) places ∙ is.places ∙ sym (ap length names);
  calls = λ i k h. output_stays l.tables.records m.tables.records n k r puts unended (is.calls i k (subst (λ (rs : List Row). Calls rs i k) rows h));
  before = λ i k h.
      let b = is.before i k (subst (λ (rs : List Row). Calls rs i k) rows h) in
      let x = ap (λ v. slice_index v.items i) places in
      let y = ap (λ v. slice_index v.items k) places in
      omega (arith, b, x, y);
  low = λ k o.
      let b = is.low k (was k o) in
      let x = ap (λ v. slice_index v.items k) places in
      let y = ap (λ v. length v.items) order in
      omega (arith, b, x, y);
  ended = λ k s kept done.
      let old = is.ended k s (sym (put_other l.tables.records m.tables.records n r puts k (apart k s kept done)) ∙ kept) done in
      subst (λ (rs : List Row). tasks_at m.tables.names (row_at rs k).needs ≡ map Some (needs s)) (sym rows)
      (subst (λ (ts : List Task). tasks_at ts (row_at l.rows k).needs ≡ map Some (needs s)) (sym names) old);
}
  where
    apart : (k : ℕ) (s : TaskRecord) → record_of m.tables.records k ≡ Some s → is_done s.outcome ≡ true → k ≢ n
    apart k s kept done e =
        let here : record_of m.tables.records k ≡ Some r = subst (λ (i : ℕ). record_of m.tables.records i ≡ Some r) (sym e)
        (put_at l.tables.records m.tables.records n r puts) in
        let one : r ≡ s = ap (the_record r) (sym here ∙ kept) in
        not_done r.outcome failed (ap (λ (x : TaskRecord). is_done x.outcome) one ∙ done)

    was : (k : ℕ) → HasOutput m.tables.records k → HasOutput l.tables.records k
    was k o = record {
      rec = o.rec;
      kept = sym (put_other l.tables.records m.tables.records n r puts k (apart k o.rec o.kept o.done)) ∙ o.kept;
      done = o.done;
    }

-- a task that is done
pub ended_ledger : (l m : Ledger) (n : ℕ) (r : TaskRecord) (ns : List ℕ) (paths : List (List ℕ)) → IsLedger l → IsTables m.tables
    → m.tables.names ≡ l.tables.names → Puts l.tables.records m.tables.records n r → record_of l.tables.records n ≡ None → n < length l.tables.names
    → tasks_at l.tables.names ns ≡ map Some (needs r) → All (HasOutput l.tables.records) ns → m.rows ≡ set l.rows n (row_with ns paths)
    → m.places.items ≡ set l.places.items n (length l.order.items) → length m.order.items ≡ length l.order.items + 1 → IsLedger m
ended_ledger l m n r ns paths is tables names puts unended inside named outputs rows places order = record {
  tables = tables;
  rows = ap length rows ∙ length-set l.rows n (row_with ns paths) ∙ is.rows ∙ sym (ap length names);
  places = ap length places ∙ length-set l.places.items n (length l.order.items) ∙ is.places ∙ sym (ap length names);
  calls = λ i k h. output_stays l.tables.records m.tables.records n k r puts unended (called i k h (eqb_tells i n));
  before = λ i k h. before i k h (eqb_tells i n);
  low = λ k o. low k o (eqb_tells k n);
  ended = λ k s kept done. ended k s kept done (eqb_tells k n);
}
  where
    here : row_at m.rows n ≡ row_with ns paths
    here = ap (λ rs. row_at rs n) rows ∙ get_or-set_same l.rows n (row_with ns paths) no_edges (omega (arith, inside, is.rows))

    there : (i : ℕ) → i ≢ n → row_at m.rows i ≡ row_at l.rows i
    there i apart = ap (λ rs. row_at rs i) rows ∙ get_or-set_other l.rows n i (row_with ns paths) no_edges apart

    place_here : slice_index m.places.items n ≡ length l.order.items
    place_here = ap (λ (ps : List ℕ). slice_index ps n) places
        ∙ get_or-set_same l.places.items n (length l.order.items) 0 (omega (arith, inside, is.places))

    place_there : (i : ℕ) → i ≢ n → slice_index m.places.items i ≡ slice_index l.places.items i
    place_there i apart = ap (λ (ps : List ℕ). slice_index ps i) places ∙ get_or-set_other l.places.items n i (length l.order.items) 0 apart

    Either : ℕ → Type 0
    Either i = ((eqb i n ≡ true) × (i ≡ n)) ⊎ ((eqb i n ≡ false) × (i ≢ n))

    called : (i k : ℕ) → Calls m.rows i k → Either i → HasOutput l.tables.records k
    called i k h (inl e) =
        All-contains (HasOutput l.tables.records) ns k outputs
        (subst (λ (row : Row). Contains row.needs k) (ap (λ (j : ℕ). row_at m.rows j) e.1 ∙ here) h)
    called i k h (inr e) = is.calls i k (subst (λ (row : Row). Contains row.needs k) (there i e.1) h)

    before : (i k : ℕ) → Calls m.rows i k → Either i → slice_index m.places.items k < slice_index m.places.items i
    before i k h (inl e) =
        let o = called i k h (inl e) in
        let low = is.low k o in
        let x = place_there k (open_apart l.tables.records n k unended o) in
        let y : slice_index m.places.items i ≡ length l.order.items = ap (slice_index m.places.items) e.1 ∙ place_here in
        omega (arith, low, x, y)
    before i k h (inr e) =
        let o = called i k h (inr e) in
        let b = is.before i k (subst (λ (row : Row). Contains row.needs k) (there i e.1) h) in
        let x = place_there k (open_apart l.tables.records n k unended o) in
        let y = place_there i e.1 in
        omega (arith, b, x, y)

    low : (k : ℕ) → HasOutput m.tables.records k → Either k → slice_index m.places.items k < length m.order.items
    low k o (inl e) =
        let y : slice_index m.places.items k ≡ length l.order.items = ap (slice_index m.places.items) e.1 ∙ place_here in
        omega (arith, y, order)
    low k o (inr e) =
        let b = is.low k (record {
          rec = o.rec;
          kept = sym (put_other l.tables.records m.tables.records n r puts k e.1) ∙ o.kept;
          done = o.done;
        }) in
        let x = place_there k e.1 in
        omega (arith, b, x, order)

    ended : (k : ℕ) (s : TaskRecord) → record_of m.tables.records k ≡ Some s → is_done s.outcome ≡ true → Either k
        → tasks_at m.tables.names (row_at m.rows k).needs ≡ map Some (needs s)
    ended k s kept done (inl e) =
        let one : r ≡ s = ap (the_record r) (sym (put_at l.tables.records m.tables.records n r puts)
        ∙ subst (λ (j : ℕ). record_of m.tables.records j ≡ Some s) e.1 kept) in
        subst (λ (row : Row). tasks_at m.tables.names row.needs ≡ map Some (needs s)) (sym (ap (λ (j : ℕ). row_at m.rows j) e.1 ∙ here))
        (subst (λ (ts : List Task). tasks_at ts ns ≡ map Some (needs s)) (sym names) (named ∙ ap (λ (x : TaskRecord). map Some (needs x)) one))
    ended k s kept done (inr e) =
        let old = is.ended k s (sym (put_other l.tables.records m.tables.records n r puts k e.1) ∙ kept) done in
        subst (λ (row : Row). tasks_at m.tables.names row.needs ≡ map Some (needs s)) (sym (there k e.1))
        (subst (λ (ts : List Task). tasks_at ts (row_at l.rows k).needs ≡ map Some (needs s)) (sym names) old)
