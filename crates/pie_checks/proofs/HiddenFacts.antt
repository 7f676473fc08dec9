-- The least path that a task saw absent and another wrote, with the least reader.
use Rattle.std.proofs.Common.{◌≡◌, ◌≢◌, ℕ, ◌<◌, ◌≤◌, ◌+◌, ◌==◌, Bool, true, false, cond, List, length, get_or, refl, sym, ap, ◌∙◌, subst}
use Rattle.std.proofs.Common.{inl, inr, arith}
use Rattle.std.specs.Prelude.{Option, Some, None}
use Rattle.std.specs.Ordering.{is_lt, is_gt}
use Rattle.std.specs.List.{Contains}
use Rattle.std.proofs.lemmas.Bool.{cases_lt, cases_eq}
use Rattle.std.proofs.lemmas.Bool.Decides.{Decides-eqb}
use Rattle.std.proofs.lemmas.List.{get_or_default}
use Rattle.std.proofs.lemmas.List.Elements.{Contains-get_or}
use Rattle.pie_base.specs.Path.{same_text}
use Rattle.pie_value.specs.declared.task.Task.{Task}
use Rattle.pie_value.specs.declared.verdict.Refusal.{Refusal}
use Rattle.pie_value.specs.declared.verdict.Refusal.TheVariants.{Hidden}
use Rattle.pie_value.specs.Order.{byte_order}
use Rattle.pie_record.specs.inner.Names.{AreDistinct}
use Rattle.pie_checks.specs.Records.{OfTask}
use Rattle.pie_checks.specs.Refusals.{Hides, task_order, IsLeastPlace, NoPlace, FindsHidden}
use Rattle.pie_checks.specs.Listings.{Entry, IsInOrder, AreNumbered, Stands, HasOneEach, numbers_beside}
use Rattle.pie_checks.specs.Searches.{task_at, IsAmong, IsLeastBut, IsPlaceOf, IsOtherAt, other_in}
use Rattle.pie_checks.proofs.PathOrder.{then_not_gt, same_order, equal_same, same_both, turned}
use Rattle.pie_checks.proofs.Gathering.{beside_only, beside_each, same_is, same_refl}
use Rattle.pie_checks.proofs.LeastTask.{not_out, up_to_same}
use Rattle.pie_checks.proofs.Numbering.{task_of, number_of, same_task, apart, not_but, below_count}
use Rattle.pie_checks.proofs.Sorting.{up_to_entry}

from_place : (es : List Entry) (path : List ℕ) (at n : ℕ) → IsPlaceOf path es at → (s : Stands es path n) → at ≤ s.0
from_place es path at n place s =
    elim (cases_lt s.0 at) [
      | inl early ↦
          let less : is_lt (byte_order path path) ≡ true = ap (λ (e : Entry). is_lt (byte_order e.0 path)) (sym s.2) ∙ place.before s.0 (path, n) early in
          let not : is_lt (byte_order path path) ≡ false = ap is_lt (same_order path path refl) in
          absurd (cc)
      | inr le ↦ le
    ]

-- an entry that stands where a path would stand has the path, if any has
entry_is : (es : List Entry) (path : List ℕ) (at : ℕ) (e : Entry) (n : ℕ) → IsInOrder es → IsPlaceOf path es at → at < length es → e ≡ get_or es at e
    → Stands es path n → e.0 ≡ path
entry_is es path at e n up place l is s =
    let late = from_place es path at n place s in
    let low : is_lt (byte_order e.0 path) ≡ false = subst (λ (x : Entry). is_lt (byte_order x.0 path) ≡ false) (sym is) (place.after at e (omega arith) l) in
    same_both e.0 path (up_to_entry es at e path n up is s late) (turned path e.0 low)

one_number : (es : List Entry) (path : List ℕ) (m n : ℕ) → HasOneEach es → Stands es path m → Stands es path n → m ≡ n
one_number es path m n one s t = elim (cases_eq m n) [ inl e ↦ e | inr other ↦ absurd (one path (m, n, s, t, other)) ]

other_by : (es : List Entry) (path : List ℕ) (reader at : ℕ) (e : Entry) (hit same : Bool) → same_text e.0 path ≡ hit → (e.1 == reader) ≡ same
    → IsInOrder es → HasOneEach es → IsPlaceOf path es at → at < length es
    → e ≡ get_or es at e → IsOtherAt es path reader (cond hit (cond same None (Some e.1)) None)
other_by es path reader at e true true h k up one place l is = λ n s.
    let there : Stands es path e.1 = subst (λ (p : List ℕ). Stands es p e.1) (same_is e.0 path h) (subst (Contains es) (sym is) (Contains-get_or es at e l)) in
    one_number es path n e.1 one s there ∙ (Decides-eqb e.1 reader).0 k
other_by es path reader at e true false h k up one place l is = (
  subst (λ (p : List ℕ). Stands es p e.1) (same_is e.0 path h) (subst (Contains es) (sym is) (Contains-get_or es at e l)),
  λ eq. let on : (e.1 == reader) ≡ true = (Decides-eqb e.1 reader).1 eq in absurd (cc),
)
other_by es path reader at e false same h k up one place l is = λ n s.
    let on : same_text e.0 path ≡ true = ap (same_text e.0) (sym (entry_is es path at e n up place l is s)) ∙ same_refl e.0 in
    absurd (cc)

pub other_found : (es : List Entry) (path : List ℕ) (reader at : ℕ) (e : Entry) (found : Option ℕ) → IsInOrder es → HasOneEach es → IsPlaceOf path es at
    → at < length es → e ≡ get_or es at e
    → found ≡ other_in e path reader → IsOtherAt es path reader found
other_found es path reader at e found up one place l is f =
    subst (IsOtherAt es path reader) (sym f) (other_by es path reader at e (same_text e.0 path) (e.1 == reader) refl refl up one place l is)

pub none_other : (es : List Entry) (path : List ℕ) (reader at : ℕ) → IsPlaceOf path es at → length es ≤ at → IsOtherAt es path reader None
none_other es path reader at place l n s = absurd (omega (arith, s.1, from_place es path at n place s))

-- what was seen absent before a place was written by the reader alone
abbrev pub NoneHidden : List Entry → List Entry → ℕ → Type 0
NoneHidden writes misses i = (k : ℕ) (d : Entry) → k < i → (n : ℕ) → Stands writes (get_or misses k d).0 n → n ≡ (get_or misses k d).1

pub none_hidden_more : (writes misses : List Entry) (i : ℕ) (e : Entry) → i < length misses → e ≡ get_or misses i e → IsOtherAt writes e.0 e.1 None
    → NoneHidden writes misses i → NoneHidden writes misses (i + 1)
none_hidden_more writes misses i e l is none h k d lt n s =
    elim (cases_lt k i) [
      | inl low ↦ h k d low n s
      | inr high ↦
          let at : k ≡ i = omega arith in
          let same : get_or misses k d ≡ e = ap (λ (m : ℕ). get_or misses m d) at ∙ get_or_default misses i d e l ∙ sym is in
          none n (subst (λ (x : Entry). Stands writes x.0 n) same s) ∙ ap (λ (x : Entry). x.1) (sym same)
    ]

-- a task that saw a path absent and one that wrote it have two numbers
two_numbers : (tasks : List Task) (writes misses : List Entry) (path : List ℕ) (c d : Task)
    (h : Hides (OfTask tasks (Stands writes)) (OfTask tasks (Stands misses)) path c d) → h.1.0 ≢ h.0.0
two_numbers tasks writes misses path c d h e = h.2 (same_task tasks h.0.0 h.1.0 c d h.0.1 h.1.1 (sym e))

hidden_late : (tasks : List Task) (writes misses : List Entry) (i : ℕ) (path : List ℕ) (c d : Task) → NoneHidden writes misses i
    → (h : Hides (OfTask tasks (Stands writes)) (OfTask tasks (Stands misses)) path c d) → i ≤ h.0.2.0
hidden_late tasks writes misses i path c d none h =
    elim (cases_lt h.0.2.0 i) [
      | inl early ↦
          let at : get_or misses h.0.2.0 (path, h.0.0) ≡ (path, h.0.0) = h.0.2.2 in
          absurd (two_numbers tasks writes misses path c d h (none h.0.2.0 (path, h.0.0) early h.1.0
          (subst (λ (x : Entry). Stands writes x.0 h.1.0) (sym at) h.1.2) ∙ ap (λ (x : Entry). x.1) at))
      | inr le ↦ le
    ]

pub no_hidden : (tasks : List Task) (writes misses : List Entry) (i : ℕ) → length misses ≤ i → NoneHidden writes misses i
    → NoPlace (Hides (OfTask tasks (Stands writes)) (OfTask tasks (Stands misses)))
no_hidden tasks writes misses i l none path c d h = absurd (omega (arith, h.0.2.1, hidden_late tasks writes misses i path c d none h))

pub hidden_least : (tasks : List Task) (writes misses : List Entry) (i : ℕ) (e : Entry) (reader writer : ℕ) → AreDistinct tasks → IsInOrder misses
    → AreNumbered (length tasks) writes → AreNumbered (length tasks) misses
    → HasOneEach writes → i < length misses → e ≡ get_or misses i e → IsOtherAt writes e.0 e.1 (Some writer)
    → IsLeastBut tasks (IsAmong (numbers_beside misses e.0) (Some writer)) (Some reader) → NoneHidden writes misses i
    → IsLeastPlace (Hides (OfTask tasks (Stands writes)) (OfTask tasks (Stands misses))) e.0 (task_at tasks reader) (task_at tasks writer)
hidden_least tasks writes misses i e reader writer distinct up nw nm one l is other best none =
    let a = task_at tasks reader in
    let b = task_at tasks writer in
    let sr = beside_only misses e.0 reader best.0.0 in
    let lr = below_count (length tasks) misses e.0 reader nm sr in
    let lw = below_count (length tasks) writes e.0 writer nw other.0 in
    record {
      holds = (
        (reader, task_of tasks reader lr, sr),
        (writer, task_of tasks writer lw, other.0),
        apart tasks reader writer distinct lr lw
            (λ eq. not_but writer reader best.0.1 (sym eq)),
      );
      least = λ q c d h.
          let nc = h.0.0 in
          let nd = h.1.0 in
          let ec = (number_of tasks nc c h.0.1).1 in
          let ed = (number_of tasks nd d h.1.1).1 in
          then_not_gt (byte_order e.0 q) _ (up_to_entry misses i e q nc up is h.0.2 (hidden_late tasks writes misses i q c d none h)) (λ eq.
          let same : q ≡ e.0 = sym (equal_same e.0 q eq) in
          let hc : Contains (numbers_beside misses e.0) nc = beside_each misses e.0 nc (subst (λ (p : List ℕ). Stands misses p nc) same h.0.2) in
          let wd : writer ≡ nd = one_number writes e.0 writer nd one other.0 (subst (λ (p : List ℕ). Stands writes p nd) same h.1.2) in
          let out : writer ≢ nc = λ w. two_numbers tasks writes misses q c d h (sym wd ∙ w) in
          then_not_gt (task_order a c) (task_order b d) (subst (λ (t : Task). is_gt (task_order a t) ≡ false) ec (best.1 nc (hc, not_out writer nc out)))
          (λ tie. subst (λ (t : Task). is_gt (task_order b t) ≡ false) ed (up_to_same tasks writer nd wd)));
    }

pub other_reads : (misses : List Entry) (i : ℕ) (e : Entry) (writer : ℕ) (readers : List ℕ) → readers ≡ numbers_beside misses e.0 → i < length misses
    → e ≡ get_or misses i e → writer ≢ e.1 → (n : ℕ) × IsAmong readers (Some writer) n
other_reads misses i e writer readers r l is other =
    let here : Contains (numbers_beside misses e.0) e.1 = beside_each misses e.0 e.1 (subst (Contains misses) (sym is) (Contains-get_or misses i e l)) in
    (e.1, (subst (λ (ns : List ℕ). Contains ns e.1) (sym r) here, not_out writer e.1 other))

pub hidden_told : (tasks : List Task) (writes misses : List Entry) (i : ℕ) (e : Entry) (reader writer : ℕ) (ns : List ℕ) (refusal : Refusal)
    → AreDistinct tasks → IsInOrder misses → AreNumbered (length tasks) writes
    → AreNumbered (length tasks) misses → HasOneEach writes → i < length misses → e ≡ get_or misses i e → IsOtherAt writes e.0 e.1 (Some writer)
    → ns ≡ numbers_beside misses e.0
    → IsLeastBut tasks (IsAmong ns (Some writer)) (Some reader) → NoneHidden writes misses i
    → refusal ≡ Hidden e.0 (task_at tasks reader) (task_at tasks writer)
    → FindsHidden (OfTask tasks (Stands writes)) (OfTask tasks (Stands misses)) (Some refusal)
hidden_told tasks writes misses i e reader writer ns refusal distinct up nw nm one l is other r best none told =
    let found : FindsHidden (OfTask tasks (Stands writes)) (OfTask tasks (Stands misses)) (Some (Hidden e.0 (task_at tasks reader) (task_at tasks writer))) =
    hidden_least tasks writes misses i e reader writer distinct up nw nm one l is other (subst
    (λ (xs : List ℕ). IsLeastBut tasks (IsAmong xs (Some writer)) (Some reader)) r best) none in
    subst (λ (x : Refusal). FindsHidden (OfTask tasks (Stands writes)) (OfTask tasks (Stands misses)) (Some x)) (sym told) found

pub reader_below : (tasks : List Task) (misses : List Entry) (path ns : List ℕ) (but : Option ℕ) (reader : ℕ) → ns ≡ numbers_beside misses path
    → AreNumbered (length tasks) misses → IsLeastBut tasks (IsAmong ns but) (Some reader)
    → reader < length tasks
reader_below tasks misses path ns but reader e numbered h =
    below_count (length tasks) misses path reader numbered (beside_only misses path reader (subst (λ (xs : List ℕ). Contains xs reader) e h.0.0))
