-- Tasks sorted, each once.
use Rattle.std.proofs.Common.{◌≡◌, ◌+◌, ℕ, Bool, true, false, cond, List, [], ◌∷◌, get_or, refl, sym, ap, ◌∙◌, subst, arith, eqb}
use Rattle.std.specs.Ordering.{nat_cmp, is_lt}
use Rattle.std.specs.List.{dedup, dedup_from}
use Rattle.std.specs.List.Retain.{IsFiltered, DiffersFromLast}
use Rattle.std.specs.List.Sorted.{IsPermutation, IsSorted, IsStrictlyIncreasing}
use Rattle.std.proofs.lemmas.List.{length-map}
use Rattle.std.proofs.lemmas.List.Filters.{dedup_is}
use Rattle.std.proofs.lemmas.List.Kept.{Contains-dedup_nat, Contains-from_dedup}
use Rattle.std.proofs.lemmas.List.Sorted.{IsPermutation-map, list_any-IsPermutation}
use Rattle.std.proofs.lemmas.Map.Keys.{IsStrictlyIncreasing-dedup}
use Rattle.pie_graph.specs.declared.edges.TaskNo.{TaskNo}
use Rattle.pie_graph.specs.Numbers.{numbers}
use Rattle.pie_union.specs.inner.Among.{among}
use Rattle.pie_union.proofs.Ascends.{number_at}
use Rattle.pie_union.proofs.Members.{same_members}

-- two tasks are the same
abbrev pub same_task : TaskNo → TaskNo → Bool
same_task a b = eqb a.0 b.0

numbers_from : (t : TaskNo) (ts : List TaskNo) → numbers (dedup_from same_task t ts) ≡ dedup_from eqb t.0 (numbers ts)
numbers_from t [] = refl
numbers_from t (s ∷ ts) =
    elim (eqb s.0 t.0) as (λ b. numbers (cond b (dedup_from same_task t ts) (t ∷ dedup_from same_task s ts)) ≡
    cond b (dedup_from eqb t.0 (numbers ts)) (t.0 ∷ dedup_from eqb s.0 (numbers ts))) [
      | true ↦ numbers_from t ts
      | false ↦ ap (λ (ns : List ℕ). t.0 ∷ ns) (numbers_from s ts)
    ]

numbers_once : (ts : List TaskNo) → numbers (dedup same_task ts) ≡ dedup eqb (numbers ts)
numbers_once [] = refl
numbers_once (t ∷ ts) = numbers_from t ts

sorted_numbers : (ts : List TaskNo) → IsSorted (λ (a b : TaskNo). nat_cmp a.0 b.0) ts → IsSorted nat_cmp (numbers ts)
sorted_numbers ts h = λ k d low l.
    let t : TaskNo = record { 0 = d } in
    let long = length-map ts (λ (t : TaskNo). t.0) in
    ap (λ n. is_lt (nat_cmp n (get_or (numbers ts) k d))) (number_at ts (k + 1) t) ∙ ap (λ n. is_lt (nat_cmp (get_or ts (k + 1) t).0 n)) (number_at ts k t)
    ∙ h k t low (omega arith)

pub once_up : (sorted once : List TaskNo) → IsSorted (λ (a b : TaskNo). nat_cmp a.0 b.0) sorted → IsFiltered (DiffersFromLast same_task) [] sorted once
    → IsStrictlyIncreasing (numbers once)
once_up sorted once up kept =
    subst IsStrictlyIncreasing (sym (ap numbers (dedup_is same_task sorted once kept) ∙ numbers_once sorted))
    (IsStrictlyIncreasing-dedup (numbers sorted) (sorted_numbers sorted up))

pub once_among : (given sorted once : List TaskNo) (k : ℕ) → IsPermutation given sorted → IsFiltered (DiffersFromLast same_task) [] sorted once
    → among (numbers once) k ≡ among (numbers given) k
once_among given sorted once k moved kept =
    let ns = numbers sorted in
    ap (λ (ns : List ℕ). among ns k) (ap numbers (dedup_is same_task sorted once kept) ∙ numbers_once sorted)
    ∙ same_members (dedup eqb ns) ns k (Contains-from_dedup eqb ns k) (Contains-dedup_nat ns k)
    ∙ sym (list_any-IsPermutation (λ n. eqb n k) (numbers given) ns (IsPermutation-map (λ (t : TaskNo). t.0) given sorted moved))
