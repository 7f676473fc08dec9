-- Heights over tasks that have ended, and what keeps them.
use Rattle.std.proofs.Common.{◌≡◌, ℕ, ◌+◌, ◌<◌, ◌≤◌, max, Bool, true, false, cond, List, [], ◌∷◌, ◌++◌, length, get_or, set, Some, None}
use Rattle.std.proofs.Common.{sym, ap, subst, refl, ◌∙◌, arith}
use Rattle.std.specs.Prelude.{IfSome, Option, slice_get}
use Rattle.std.specs.declared.cmp.Ordering.TheVariants.{Less, Equal, Greater}
use Rattle.std.specs.Ordering.{nat_cmp, is_eq, MatchOrdering}
use Rattle.std.specs.Cmp.{ranks}
use Rattle.std.proofs.lemmas.List.{get_or_append_left, length-append, get_or-set_other, get_or-set_same}
use Rattle.std.proofs.lemmas.Option.{slice_get-get_or, slice_get_within, get_or_from_slice_get}
use Rattle.pie_value.specs.declared.task.Task.{Task}
use Rattle.pie_record.specs.declared.task_record.TaskRecord.{TaskRecord}
use Rattle.pie_record.specs.inner.Records.{record_of, Puts}
use Rattle.pie_store.specs.Canonical.{needs}
use Rattle.pie_fresh.specs.declared.ledger.Ledger.{Ledger}
use Rattle.pie_fresh.specs.inner.Ledgers.{IsHigh, HasHeight, Rises, IsRecorded, IsLedger, Grows}

pub get_kept : {X : Type 0} (xs ys : List X) (i : ℕ) (x : X) → slice_get xs i ≡ Some x → slice_get (xs ++ ys) i ≡ Some x
get_kept xs ys i x e =
    let inside : i < length xs = slice_get_within xs i x e in
    let size : length (xs ++ ys) ≡ length xs + length ys = length-append xs ys in
    slice_get-get_or (xs ++ ys) i x (omega (arith, inside, size)) ∙ ap Some (get_or_append_left xs ys x i inside ∙ get_or_from_slice_get xs i x x e)

-- a fact on whether two numbers are equal, from both cases
pub by_equality : (P : Bool → Type 0) (n k : ℕ) → (n ≡ k → P true) → ((n ≡ k → ⊥) → P false) → P (is_eq (nat_cmp n k))
by_equality P n k same apart =
    elim (nat_cmp n k) as (λ r. MatchOrdering r (n < k) (n ≡ k) (k < n) → P (is_eq r)) [
      | Less ↦ λ lt. apart (λ e. omega (arith, lt, e))
      | Equal ↦ λ e. same e
      | Greater ↦ λ gt. apart (λ e. omega (arith, gt, e))
    ] (ranks n k)

pub append_none : {X : Type 0} (xs : List X) → xs ≡ xs ++ []
append_none [] = refl
append_none (x ∷ xs) = ap (λ ys. x ∷ ys) (append_none xs)

-- what every task keeps that has ended
abbrev pub KeepsHeights : Ledger → Ledger → Type 0
KeepsHeights l m = (t : Task) (height : ℕ) → HasHeight l t height → HasHeight m t height

pub rises_kept : (l m : Ledger) → KeepsHeights l m → (ts : List Task) (low high : ℕ) → Rises l ts low high → Rises m ts low high
rises_kept l m kept [] low high r = r
rises_kept l m kept (t ∷ ts) low high r = (r.0, kept t r.0 r.1, rises_kept l m kept ts (max low (r.0 + 1)) high r.2)

-- one task more, and a height over it too
pub rises_more : (l : Ledger) (ts : List Task) (t : Task) (low high h : ℕ) → Rises l ts low high → HasHeight l t h
    → Rises l (ts ++ t ∷ []) low (max high (h + 1))
rises_more l [] t low high h r has = (h, has, ap (λ (k : ℕ). max k (h + 1)) r)
rises_more l (u ∷ ts) t low high h r has = (r.0, r.1, rises_more l ts t (max low (r.0 + 1)) high h r.2 has)

-- where a record lies there is a task
pub record_inside : (l : Ledger) (n : ℕ) (o : Option TaskRecord) (r : TaskRecord) → o ≡ Some r → IfSome o (IsRecorded l n) → n < length l.names
record_inside l n o r e h = slice_get_within l.names n r.task (subst (λ p. IfSome p (IsRecorded l n)) e h).named

-- ---- a task is entered

high_entered : (l m : Ledger) (n h : ℕ) → n < length l.heights.items → m.records ≡ l.records → m.heights.items ≡ l.heights.items ++ 0 ∷ []
    → IsHigh l n h → IsHigh m n h
high_entered l m n h inside records heights is = record {
  rec = is.rec;
  done = ap (λ rs. record_of rs n) records ∙ is.done;
  high = ap (λ hs. get_or hs n 0) heights ∙ get_or_append_left l.heights.items (0 ∷ []) 0 n inside ∙ is.high;
}

pub entered_keeps : (l m : Ledger) (t : Task) → length l.heights.items ≡ length l.names → m.names ≡ l.names ++ t ∷ [] → m.records ≡ l.records
    → m.heights.items ≡ l.heights.items ++ 0 ∷ [] → KeepsHeights l m
entered_keeps l m t size names records heights u h has =
    let inside : has.number < length l.names = slice_get_within l.names has.number u has.named in
    record {
      number = has.number;
      named = ap (λ ts. slice_get ts has.number) names ∙ get_kept l.names (t ∷ []) has.number u has.named;
      high = high_entered l m has.number h (omega (arith, inside, size)) records heights has.high;
    }

pub entered_grows : (l m : Ledger) (t : Task) → IsLedger l → m.names ≡ l.names ++ t ∷ [] → m.records ≡ l.records → m.heights.items ≡ l.heights.items ++ 0 ∷ []
    → m.ended ≡ l.ended → Grows l m
entered_grows l m t is names records heights ended =
    record { rest = t ∷ []; names = names; ended = omega (arith, ended); kept = entered_keeps l m t is.heights names records heights }

-- ---- a task ends

high_ended : (l m : Ledger) (n k h height : ℕ) (r : TaskRecord) → record_of l.records n ≡ None → Puts l.records m.records n r
    → m.heights.items ≡ set l.heights.items n height → IsHigh l k h → IsHigh m k h
high_ended l m n k h height r free puts heights is =
    let apart : k ≡ n → ⊥ = λ e. let same : record_of l.records k ≡ record_of l.records n = ap (record_of l.records) e in absurd (cc) in
    record {
      rec = is.rec;
      done = puts k
          ∙ by_equality (λ b. cond b (Some r) (record_of l.records k) ≡ record_of l.records k) n k (λ e. absurd (apart (sym e))) (λ _. refl) ∙ is.done;
      high = ap (λ hs. get_or hs k 0) heights ∙ get_or-set_other l.heights.items n k height 0 apart ∙ is.high;
    }

pub ended_keeps : (l m : Ledger) (n height : ℕ) (r : TaskRecord) → m.names ≡ l.names → record_of l.records n ≡ None → Puts l.records m.records n r
    → m.heights.items ≡ set l.heights.items n height → KeepsHeights l m
ended_keeps l m n height r names free puts heights t h has = record {
  number = has.number;
  named = ap (λ ts. slice_get ts has.number) names ∙ has.named;
  high = high_ended l m n has.number h height r free puts heights has.high;
}

pub ended_grows : (l m : Ledger) (n height : ℕ) (r : TaskRecord) → m.names ≡ l.names → record_of l.records n ≡ None → Puts l.records m.records n r
    → m.heights.items ≡ set l.heights.items n height → l.ended ≤ m.ended → Grows l m
ended_grows l m n height r names free puts heights ended =
    record { rest = []; names = names ∙ append_none l.names; ended = ended; kept = ended_keeps l m n height r names free puts heights }

-- the task that ended has its height
pub ended_high : (l m : Ledger) (n height : ℕ) (r : TaskRecord) → n < length l.heights.items → Puts l.records m.records n r
    → m.heights.items ≡ set l.heights.items n height → IsHigh m n height
ended_high l m n height r inside puts heights = record {
  rec = r;
  done = puts n ∙ by_equality (λ b. cond b (Some r) (record_of l.records n) ≡ Some r) n n (λ _. refl) (λ apart. absurd (apart refl));
  high = ap (λ hs. get_or hs n 0) heights ∙ get_or-set_same l.heights.items n height 0 inside;
}

-- ---- contents alone change

pub alike_keeps : (l m : Ledger) → m.names ≡ l.names → m.records ≡ l.records → m.heights ≡ l.heights → KeepsHeights l m
alike_keeps l m names records heights t h has = record {
  number = has.number;
  named = ap (λ ts. slice_get ts has.number) names ∙ has.named;
  high = record {
    rec = has.high.rec;
    done = ap (λ rs. record_of rs has.number) records ∙ has.high.done;
    high = ap (λ hs. get_or hs.items has.number 0) heights ∙ has.high.high;
  };
}

-- ---- records that are kept

pub recorded_with : (l m : Ledger) (n : ℕ) (r : TaskRecord) → KeepsHeights l m → slice_get m.names n ≡ Some r.task
    → get_or m.heights.items n 0 ≡ get_or l.heights.items n 0 → IsRecorded l n r → IsRecorded m n r
recorded_with l m n r kept named same is = record {
  named = named;
  risen = subst (λ h. Rises m (needs r) 0 h) (sym same) (rises_kept l m kept (needs r) 0 (get_or l.heights.items n 0) is.risen);
}
