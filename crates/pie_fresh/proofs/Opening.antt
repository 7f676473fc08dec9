-- The tasks that were entered and haven't ended, when one more is entered or ends.
use Rattle.std.proofs.Common.{◌≡◌, ℕ, ◌+◌, ◌<◌, ◌≤◌, cond, List, [], ◌∷◌, ◌++◌, length, get_or, Some, None}
use Rattle.std.proofs.Common.{sym, ap, subst, refl, ◌∙◌, arith, inl, inr}
use Rattle.std.specs.Prelude.{All, Contains, IfSome, Option}
use Rattle.std.specs.List.{AllPairs}
use Rattle.std.proofs.lemmas.Bool.{cases_lt}
use Rattle.std.proofs.lemmas.List.{get_or_append_left, length-append}
use Rattle.std.proofs.lemmas.List.Quantifiers.{all_pairs_push}
use Rattle.std.proofs.lemmas.List.Elements.{All-nil, All-push, All-pop, All-weaker, Contains-push, Contains-push_cases, Contains-append_left}
use Rattle.std.proofs.lemmas.Option.{slice_get_within}
use Rattle.std.proofs.Math.Seq.{get_or-append_seam}
use Rattle.pie_value.specs.declared.task.Task.{Task}
use Rattle.pie_record.specs.declared.task_record.TaskRecord.{TaskRecord}
use Rattle.pie_record.specs.inner.Records.{record_of, Puts}
use Rattle.pie_fresh.specs.declared.ledger.Ledger.{Ledger}
use Rattle.pie_fresh.specs.inner.Ledgers.{IsLedger, IsRecorded, AreOpen}
use Rattle.pie_fresh.proofs.Rising.{by_equality}

pub open_none : (l : Ledger) → l.names ≡ [] → AreOpen l []
open_none l none =
    let empty : length l.names ≡ 0 = ap length none in
    record {
      rising = λ i j d lt within. absurd (omega (arith, within));
      inside = All-nil (λ n. n < length l.names);
      without = All-nil (λ n. record_of l.records n ≡ None);
      others = λ n lt e. absurd (omega (arith, lt, empty));
    }

-- ---- a task is entered

-- there is no record without a task
pub free_beyond : (l : Ledger) (n : ℕ) → IsLedger l → length l.names ≤ n → record_of l.records n ≡ None
free_beyond l n is beyond = by (record_of l.records n) (is.recorded n)
  where
    by : (o : Option TaskRecord) → IfSome o (IsRecorded l n) → o ≡ None
    by None h = refl
    by (Some r) h = let inside : n < length l.names = slice_get_within l.names n r.task h.named in absurd (omega (arith, inside, beyond))

pub open_entered : (l m : Ledger) (ns : List ℕ) (t : Task) → IsLedger l → m.names ≡ l.names ++ t ∷ [] → m.records ≡ l.records → AreOpen l ns
    → AreOpen m (ns ++ length l.names ∷ [])
open_entered l m ns t is names records a =
    let size : length m.names ≡ length l.names + 1 = ap length names ∙ length-append l.names (t ∷ []) in
    record {
      rising = all_pairs_push (λ i j. i < j) ns (length l.names) a.rising (λ k d lt. a.inside k d lt);
      inside = All-push (λ n. n < length m.names) ns (length l.names)
          (All-weaker (λ n. n < length l.names) (λ n. n < length m.names) (λ n lt. omega (arith, lt, size)) ns a.inside) (omega (arith, size));
      without = subst (λ rs. All (λ n. record_of rs n ≡ None) (ns ++ length l.names ∷ [])) (sym records)
          (All-push (λ n. record_of l.records n ≡ None) ns (length l.names) a.without (free_beyond l (length l.names) is (omega arith)));
      others = λ n lt e. elim (cases_lt n (length l.names)) [
        | inl before ↦ Contains-append_left ns (length l.names ∷ []) n (a.others n before (ap (λ rs. record_of rs n) (sym records) ∙ e))
        | inr at ↦
            let same : length l.names ≡ n = omega (arith, at, lt, size) in
            subst (λ k. Contains (ns ++ length l.names ∷ []) k) same (Contains-push ns (length l.names))
      ];
    }

-- ---- a task ends

front : (ns : List ℕ) (n k d : ℕ) → k < length ns → get_or (ns ++ n ∷ []) k d ≡ get_or ns k d
front ns n k d lt = get_or_append_left ns (n ∷ []) d k lt

pub pairs_front : (ns : List ℕ) (n : ℕ) → AllPairs (λ i j. i < j) (ns ++ n ∷ []) → AllPairs (λ i j. i < j) ns
pairs_front ns n h i j d lt within =
    let size : length (ns ++ n ∷ []) ≡ length ns + 1 = length-append ns (n ∷ []) in
    let both = h i j d lt (omega (arith, within, size)) in
    omega (arith, both, front ns n i d (omega (arith, lt, within)), front ns n j d within)

pub below_last : (ns : List ℕ) (n : ℕ) → AllPairs (λ i j. i < j) (ns ++ n ∷ []) → All (λ k. k < n) ns
below_last ns n h i d lt =
    let size : length (ns ++ n ∷ []) ≡ length ns + 1 = length-append ns (n ∷ []) in
    let both = h i (length ns) d lt (omega (arith, size)) in
    omega (arith, both, front ns n i d lt, get_or-append_seam ns n [] d)

pub open_last : (l : Ledger) (ns : List ℕ) (n : ℕ) → AreOpen l (ns ++ n ∷ []) → record_of l.records n ≡ None
open_last l ns n a = (All-pop (λ k. record_of l.records k ≡ None) (ns ++ n ∷ []) ns (Some n) refl a.without).1

without_ended : (l m : Ledger) (n k : ℕ) (r : TaskRecord) → Puts l.records m.records n r → k < n → record_of l.records k ≡ None → record_of m.records k ≡ None
without_ended l m n k r puts lt e =
    puts k ∙ by_equality (λ b. cond b (Some r) (record_of l.records k) ≡ None) n k (λ same. absurd (omega (arith, lt, same))) (λ _. e)

still_open : (l m : Ledger) (n k : ℕ) (r : TaskRecord) → Puts l.records m.records n r → record_of m.records k ≡ None
    → (record_of l.records k ≡ None) × (n ≡ k → ⊥)
still_open l m n k r puts e =
    by_equality (λ b. cond b (Some r) (record_of l.records k) ≡ None → (record_of l.records k ≡ None) × (n ≡ k → ⊥)) n k
    (λ same f. absurd (cc)) (λ apart f. (f, apart)) (sym (puts k) ∙ e)

pub open_ended : (l m : Ledger) (ns : List ℕ) (n : ℕ) (r : TaskRecord) → m.names ≡ l.names → Puts l.records m.records n r → AreOpen l (ns ++ n ∷ [])
    → AreOpen m ns
open_ended l m ns n r names puts a = record {
  rising = pairs_front ns n a.rising;
  inside = subst (λ ts. All (λ k. k < length ts) ns) (sym names) (All-pop (λ k. k < length l.names) (ns ++ n ∷ []) ns (Some n) refl a.inside).0;
  without = λ i d lt. without_ended l m n (get_or ns i d) r puts (below_last ns n a.rising i d lt)
      ((All-pop (λ k. record_of l.records k ≡ None) (ns ++ n ∷ []) ns (Some n) refl a.without).0 i d lt);
  others = λ k lt e.
      let was = still_open l m n k r puts e in
      elim (Contains-push_cases ns n k (a.others k (subst (λ ts. k < length ts) names lt) was.0)) [
        | inl c ↦ c
        | inr same ↦ absurd (was.1 same)
      ];
}

-- ---- contents alone change

pub open_alike : (l m : Ledger) (ns : List ℕ) → m.names ≡ l.names → m.records ≡ l.records → AreOpen l ns → AreOpen m ns
open_alike l m ns names records a = record {
  rising = a.rising;
  inside = subst (λ ts. All (λ k. k < length ts) ns) (sym names) a.inside;
  without = subst (λ rs. All (λ k. record_of rs k ≡ None) ns) (sym records) a.without;
  others = λ k lt e. a.others k (subst (λ ts. k < length ts) names lt) (ap (λ rs. record_of rs k) (sym records) ∙ e);
}
