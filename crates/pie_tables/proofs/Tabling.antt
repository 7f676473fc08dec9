-- The tables after each call.
use Rattle.std.proofs.Common.{◌≡◌, ℕ, ◌+◌, ◌<◌, ◌≤◌, Bool, true, false, cond, List, [], ◌∷◌, ◌++◌, length, set, replicate, Option, Some, None}
use Rattle.std.proofs.Common.{sym, ap, subst, ◌∙◌, arith, length-set, inl, inr}
use Rattle.std.specs.Prelude.{IfSome, slice_get}
use Rattle.std.specs.declared.cmp.Ordering.TheVariants.{Less, Equal, Greater}
use Rattle.std.specs.Ordering.{nat_cmp, is_eq, MatchOrdering}
use Rattle.std.specs.Cmp.{ranks}
use Rattle.std.proofs.lemmas.List.{get_or_append_left, length-append, length-replicate}
use Rattle.std.proofs.lemmas.Option.{slice_get-get_or, slice_get_within, get_or_from_slice_get}
use Rattle.pie_value.specs.declared.task.Task.{Task}
use Rattle.pie_record.specs.Canonical.{IsStorableOutcome}
use Rattle.pie_record.specs.declared.task_record.Outcome.{Outcome}
use Rattle.pie_record.specs.declared.task_record.Outcome.TheVariants as ends
use Rattle.pie_record.specs.declared.task_record.TaskRecord.{TaskRecord}
use Rattle.pie_record.specs.inner.Records.{record_of, Puts}
use Rattle.pie_tables.specs.declared.tables.Tables.{Tables}
use Rattle.pie_tables.specs.Tabled.{IsGiven, HasFailed, IsKept, IsRecordAt, IsTables}

get_kept : {X : Type 0} (xs ys : List X) (i : ℕ) (x : X) → slice_get xs i ≡ Some x → slice_get (xs ++ ys) i ≡ Some x
get_kept xs ys i x e =
    let inside : i < length xs = slice_get_within xs i x e in
    let size : length (xs ++ ys) ≡ length xs + length ys = length-append xs ys in
    slice_get-get_or (xs ++ ys) i x (omega (arith, inside, size)) ∙ ap Some (get_or_append_left xs ys x i inside ∙ get_or_from_slice_get xs i x x e)

-- a fact on whether two numbers are equal, from both cases
by_equality : (P : Bool → Type 0) (n k : ℕ) → (n ≡ k → P true) → ((n ≡ k → ⊥) → P false) → P (is_eq (nat_cmp n k))
by_equality P n k same apart =
    elim (nat_cmp n k) as (λ r. MatchOrdering r (n < k) (n ≡ k) (k < n) → P (is_eq r)) [
      | Less ↦ λ lt. apart (λ e. omega (arith, lt, e))
      | Equal ↦ λ e. same e
      | Greater ↦ λ gt. apart (λ e. omega (arith, gt, e))
    ] (ranks n k)

pub begun_tables : (t : Tables) → t.ran.items ≡ replicate (length t.names) false → length t.names ≤ 50000
    → ((n : ℕ) → IfSome (record_of t.records n) (IsRecordAt t.names n)) → IsTables t
begun_tables t ran few records = record { flags = ap length ran ∙ length-replicate (length t.names) false; few = few; records = records }

more_record : (names : List Task) (task : Task) (n : ℕ) (o : Option TaskRecord) → IfSome o (IsRecordAt names n) → IfSome o (IsRecordAt (names ++ task ∷ []) n)
more_record names task n None is = tt
more_record names task n (Some r) is = record { named = get_kept names (task ∷ []) n r.task is.named; kept = is.kept }

pub added_tables : (s t : Tables) (task : Task) → IsTables s → length s.names < 50000 → t.names ≡ s.names ++ task ∷ []
    → t.ran.items ≡ s.ran.items ++ false ∷ [] → t.records ≡ s.records → IsTables t
added_tables s t task is few names ran records =
    let size : length t.names ≡ length s.names + 1 = ap length names ∙ length-append s.names (task ∷ []) in
    let flags : length t.ran.items ≡ length s.ran.items + 1 = ap length ran ∙ length-append s.ran.items (false ∷ []) in
    record {
      flags = omega (arith, size, flags, is.flags);
      few = omega (arith, size, few);
      records = λ n. subst (λ rs. IfSome (record_of rs n) (IsRecordAt t.names n)) (sym records)
          (subst (λ (ts : List Task). IfSome (record_of s.records n) (IsRecordAt ts n)) (sym names)
          (more_record s.names task n (record_of s.records n) (is.records n)));
    }

pub put_tables : (s t : Tables) (n : ℕ) (r : TaskRecord) → IsTables s → slice_get s.names n ≡ Some r.task → IsKept r → Puts s.records t.records n r
    → t.names ≡ s.names → t.ran ≡ s.ran → IsTables t
put_tables s t n r is named kept puts names ran = record {
  flags = ap (λ v. length v.items) ran ∙ is.flags ∙ ap length (sym names);
  few = subst (λ (ts : List Task). length ts ≤ 50000) (sym names) is.few;
  records = λ k. subst (λ (o : Option TaskRecord). IfSome o (IsRecordAt t.names k)) (sym (puts k))
      (subst (λ (ts : List Task). IfSome (cond (is_eq (nat_cmp n k)) (Some r) (record_of s.records k)) (IsRecordAt ts k)) (sym names)
      (by_equality (λ b. IfSome (cond b (Some r) (record_of s.records k)) (IsRecordAt s.names k)) n k
      (λ e. subst (λ (m : ℕ). IsRecordAt s.names m r) e (record { named = named; kept = kept }))
      (λ apart. is.records k)));
}

pub ran_tables : (s t : Tables) (n : ℕ) → IsTables s → t.names ≡ s.names → t.records ≡ s.records → t.ran.items ≡ set s.ran.items n true → IsTables t
ran_tables s t n is names records ran = record {
  flags = ap length ran ∙ length-set s.ran.items n true ∙ is.flags ∙ ap length (sym names);
  few = subst (λ (ts : List Task). length ts ≤ 50000) (sym names) is.few;
  records = λ k. subst (λ rs. IfSome (record_of rs k) (IsRecordAt t.names k)) (sym records)
      (subst (λ (ts : List Task). IfSome (record_of s.records k) (IsRecordAt ts k)) (sym names) (is.records k));
}

-- how a task with a record ended
given_kept : (o : Outcome) (r : TaskRecord) → r.outcome ≡ o → IsKept r → IsGiven o
given_kept (ends.Done v) r e kept =
    elim kept [
      | inl storable ↦ subst IsStorableOutcome e storable.outcome
      | inr failed ↦ absurd (subst HasFailed e failed)
    ]
given_kept (ends.Failed fault) r e kept = tt
given_kept (ends.Cycled tasks) r e kept = tt

pub given_at : (t : Tables) (n : ℕ) (r : TaskRecord) (copy : Outcome) → IsTables t → Some r ≡ record_of t.records n → copy ≡ r.outcome → IsGiven copy
given_at t n r copy is at e =
    let here : IsRecordAt t.names n r = subst (λ (o : Option TaskRecord). IfSome o (IsRecordAt t.names n)) (sym at) (is.records n) in
    given_kept copy r (sym e) here.kept
