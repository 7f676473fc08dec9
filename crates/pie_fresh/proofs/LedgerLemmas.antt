-- What entering and ending a task keep of a ledger.
use Rattle.std.proofs.Common.{◌≡◌, ℕ, ◌+◌, ◌<◌, ◌≤◌, cond, List, [], ◌∷◌, ◌++◌, length, get_or, set, Option, Some, None}
use Rattle.std.proofs.Common.{sym, ap, subst, ◌∙◌, arith}
use Rattle.std.specs.Prelude.{IfSome, slice_get}
use Rattle.std.specs.Ordering.{nat_cmp, is_eq}
use Rattle.std.proofs.lemmas.List.{get_or-set_same, get_or-set_other, length-set, length-append, get_or_append_left}
use Rattle.std.proofs.lemmas.Option.{slice_get_within}
use Rattle.pie_value.specs.declared.task.Task.{Task}
use Rattle.pie_record.specs.declared.task_record.TaskRecord.{TaskRecord}
use Rattle.pie_record.specs.Canonical.{IsStorable}
use Rattle.pie_record.specs.inner.Records.{record_of, Puts}
use Rattle.pie_fresh.specs.declared.ledger.Ledger.{Ledger}
use Rattle.pie_store.specs.Canonical.{needs}
use Rattle.pie_fresh.specs.inner.Ledgers.{IsLedger, IsRecorded, Rises}
use Rattle.pie_fresh.proofs.Rising.{KeepsHeights, by_equality, get_kept, recorded_with, rises_kept, entered_keeps, ended_keeps}

low_after : (hs : List ℕ) (n height ended : ℕ) (o : Option TaskRecord) (r : TaskRecord) (k : ℕ) → n < length hs → height ≤ ended
    → IfSome o (λ _. get_or hs k 0 < ended)
    → IfSome (cond (is_eq (nat_cmp n k)) (Some r) o) (λ _. get_or (set hs n height) k 0 < ended + 1)
low_after hs n height ended o r k inside low before =
    by_equality (λ b. IfSome (cond b (Some r) o) (λ _. get_or (set hs n height) k 0 < ended + 1)) n k
    (λ e.
    let at : get_or (set hs n height) k 0 ≡ height
    = subst (λ j. get_or (set hs n height) j 0 ≡ height) e (get_or-set_same hs n height 0 inside) in
    omega (arith, at, low))
    (λ apart. elim o as (λ p. IfSome p (λ _. get_or hs k 0 < ended) → IfSome p (λ _. get_or (set hs n height) k 0 < ended + 1)) [
      | None ↦ λ _. tt
      | Some s ↦ λ lt. let at : get_or (set hs n height) k 0 ≡ get_or hs k 0 = get_or-set_other hs n k height 0 (λ e. apart (sym e)) in omega (arith, at, lt)
    ] before)

storable_after : (n k : ℕ) (o : Option TaskRecord) (r : TaskRecord) → IsStorable r → IfSome o IsStorable
    → IfSome (cond (is_eq (nat_cmp n k)) (Some r) o) IsStorable
storable_after n k o r storable before = by_equality (λ b. IfSome (cond b (Some r) o) IsStorable) n k (λ _. storable) (λ _. before)

-- ---- a task is entered

low_entered : (l m : Ledger) (n : ℕ) (o : Option TaskRecord) → length l.heights.items ≡ length l.names → m.heights.items ≡ l.heights.items ++ 0 ∷ []
    → m.ended ≡ l.ended → IfSome o (IsRecorded l n) → IfSome o (λ _. get_or l.heights.items n 0 < l.ended)
    → IfSome o (λ _. get_or m.heights.items n 0 < m.ended)
low_entered l m n None size heights ended is low = tt
low_entered l m n (Some r) size heights ended is low =
    let inside : n < length l.names = slice_get_within l.names n r.task is.named in
    let same : get_or m.heights.items n 0 ≡ get_or l.heights.items n 0
    = ap (λ hs. get_or hs n 0) heights ∙ get_or_append_left l.heights.items (0 ∷ []) 0 n (omega (arith, inside, size)) in
    omega (arith, same, low, ended)

recorded_entered : (l m : Ledger) (t : Task) (n : ℕ) (o : Option TaskRecord) → length l.heights.items ≡ length l.names → m.names ≡ l.names ++ t ∷ []
    → m.heights.items ≡ l.heights.items ++ 0 ∷ [] → KeepsHeights l m → IfSome o (IsRecorded l n) → IfSome o (IsRecorded m n)
recorded_entered l m t n None size names heights kept is = tt
recorded_entered l m t n (Some r) size names heights kept is =
    let inside : n < length l.names = slice_get_within l.names n r.task is.named in
    recorded_with l m n r kept (ap (λ ts. slice_get ts n) names ∙ get_kept l.names (t ∷ []) n r.task is.named)
    (ap (λ hs. get_or hs n 0) heights ∙ get_or_append_left l.heights.items (0 ∷ []) 0 n (omega (arith, inside, size))) is

pub added_ledger : (l m : Ledger) (t : Task) → IsLedger l → length l.names < 50000 → m.names ≡ l.names ++ t ∷ [] → length m.rows ≡ length l.rows + 1
    → m.heights.items ≡ l.heights.items ++ 0 ∷ [] → m.records ≡ l.records → m.ended ≡ l.ended → IsLedger m
added_ledger l m t is few names rows heights records ended =
    let size : length m.names ≡ length l.names + 1 = ap length names ∙ length-append l.names (t ∷ []) in
    let high : length m.heights.items ≡ length l.heights.items + 1 = ap length heights ∙ length-append l.heights.items (0 ∷ []) in
    record {
      rows = omega (arith, rows, size, is.rows);
      heights = omega (arith, high, size, is.heights);
      few = omega (arith, size, few);
      low = λ n. subst (λ rs. IfSome (record_of rs n) (λ _. get_or m.heights.items n 0 < m.ended)) (sym records)
          (low_entered l m n (record_of l.records n) is.heights heights ended (is.recorded n) (is.low n));
      storable = λ n. subst (λ rs. IfSome (record_of rs n) IsStorable) (sym records) (is.storable n);
      recorded = λ n. subst (λ rs. IfSome (record_of rs n) (IsRecorded m n)) (sym records)
          (recorded_entered l m t n (record_of l.records n) is.heights names heights (entered_keeps l m t is.heights names records heights) (is.recorded n));
    }

-- ---- a task ends

recorded_other : (l m : Ledger) (k : ℕ) (o : Option TaskRecord) → m.names ≡ l.names → get_or m.heights.items k 0 ≡ get_or l.heights.items k 0 → KeepsHeights l m
    → IfSome o (IsRecorded l k) → IfSome o (IsRecorded m k)
recorded_other l m k None names same kept is = tt
recorded_other l m k (Some r) names same kept is = recorded_with l m k r kept (ap (λ ts. slice_get ts k) names ∙ is.named) same is

recorded_ended : (l m : Ledger) (n height k : ℕ) (r : TaskRecord) → m.names ≡ l.names → m.heights.items ≡ set l.heights.items n height → KeepsHeights l m
    → n < length l.heights.items → slice_get l.names n ≡ Some r.task → Rises l (needs r) 0 height → IfSome (record_of l.records k) (IsRecorded l k)
    → IfSome (cond (is_eq (nat_cmp n k)) (Some r) (record_of l.records k)) (IsRecorded m k)
recorded_ended l m n height k r names heights kept inside named risen before =
    by_equality (λ b. IfSome (cond b (Some r) (record_of l.records k)) (IsRecorded m k)) n k
    (λ e. subst (λ j. IsRecorded m j r) e (record {
      named = ap (λ ts. slice_get ts n) names ∙ named;
      risen = subst (λ h. Rises m (needs r) 0 h) (sym (ap (λ hs. get_or hs n 0) heights ∙ get_or-set_same l.heights.items n height 0 inside))
          (rises_kept l m kept (needs r) 0 height risen);
    }))
    (λ apart. recorded_other l m k (record_of l.records k) names
    (ap (λ hs. get_or hs k 0) heights ∙ get_or-set_other l.heights.items n k height 0 (λ e. apart (sym e))) kept before)

pub ended_ledger : (l m : Ledger) (n height : ℕ) (r : TaskRecord) → IsLedger l → m.names ≡ l.names → length m.rows ≡ length l.rows
    → m.heights.items ≡ set l.heights.items n height → Puts l.records m.records n r → m.ended ≡ l.ended + 1 → IsStorable r → height ≤ l.ended
    → record_of l.records n ≡ None → slice_get l.names n ≡ Some r.task → Rises l (needs r) 0 height → IsLedger m
ended_ledger l m n height r is names rows heights puts ended storable low free named risen =
    let within : n < length l.names = slice_get_within l.names n r.task named in
    let inside : n < length l.heights.items = omega (arith, within, is.heights) in
    record {
      rows = rows ∙ is.rows ∙ ap length (sym names);
      heights = ap length heights ∙ length-set l.heights.items n height ∙ is.heights ∙ ap length (sym names);
      few = subst (λ ts. length ts ≤ 50000) (sym names) is.few;
      low = λ k. subst (λ o. IfSome o (λ _. get_or m.heights.items k 0 < m.ended)) (sym (puts k))
          (subst (λ hs. IfSome (cond (is_eq (nat_cmp n k)) (Some r) (record_of l.records k)) (λ _. get_or hs k 0 < m.ended)) (sym heights)
          (subst (λ e. IfSome (cond (is_eq (nat_cmp n k)) (Some r) (record_of l.records k)) (λ _. get_or (set l.heights.items n height) k 0 < e)) (sym ended)
          (low_after l.heights.items n height l.ended (record_of l.records k) r k inside low (is.low k))));
      storable = λ k. subst (λ o. IfSome o IsStorable) (sym (puts k)) (storable_after n k (record_of l.records k) r storable (is.storable k));
      recorded = λ k. subst (λ o. IfSome o (IsRecorded m k)) (sym (puts k))
          (recorded_ended l m n height k r names heights (ended_keeps l m n height r names free puts heights) inside named risen (is.recorded k));
    }
