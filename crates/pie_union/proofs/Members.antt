-- Whether a number stands in a list, told by a test.
use Rattle.std.proofs.Common.{◌≡◌, ◌&&◌, ◌||◌, ℕ, ◌+◌, ◌<◌, Bool, true, false, not, List, ◌∷◌, length, get_or, refl, sym, ap, ◌∙◌, inl, inr, arith, eqb}
use Rattle.std.specs.List.{Contains, insert, remove}
use Rattle.std.specs.List.Sorted.{IsStrictlyIncreasing}
use Rattle.std.proofs.lemmas.Bool.Decides.{eqb_tells}
use Rattle.std.proofs.lemmas.Bool.{cases_lt}
use Rattle.std.proofs.lemmas.Cmp.{nat_eq_equiv}
use Rattle.std.proofs.lemmas.List.{get_or_default}
use Rattle.std.proofs.lemmas.List.Edits.{length-remove, get_or-remove_below, get_or-remove_above}
use Rattle.std.proofs.lemmas.List.Kept.{AllPairs-from_increasing}
use Rattle.std.proofs.lemmas.List.Sorted.{IsPermutation-insert, IsPermutation-remove, list_any-IsPermutation}
use Rattle.pie_graph.specs.declared.edges.TaskNo.{TaskNo}
use Rattle.pie_graph.specs.declared.uses.Use.TheVariants.{Calls}
use Rattle.pie_graph.specs.Alone.{calls_alone}
use Rattle.pie_graph.proofs.HasUse.{has_true, true_has}
use Rattle.pie_union.specs.inner.Among.{among}

pub among_true : (ns : List ℕ) (k : ℕ) → among ns k ≡ true → Contains ns k
among_true ns k h = let t : TaskNo = record { 0 = k } in has_true (calls_alone ns) (Calls t) h

pub true_among : (ns : List ℕ) (k : ℕ) → Contains ns k → among ns k ≡ true
true_among ns k h = let t : TaskNo = record { 0 = k } in true_has (calls_alone ns) (Calls t) h

pub eqb_swap : (a b : ℕ) → eqb a b ≡ eqb b a
eqb_swap a b = nat_eq_equiv.symm a b

-- two lists hold the same numbers where each holds those of the other
pub same_members : (xs ys : List ℕ) (k : ℕ) → (Contains xs k → Contains ys k) → (Contains ys k → Contains xs k) → among xs k ≡ among ys k
same_members xs ys k to from =
    elim (among xs k) as (λ b. among xs k ≡ b → b ≡ among ys k) [
      | true ↦ λ e. sym (true_among ys k (to (among_true xs k e)))
      | false ↦ λ e. elim (among ys k) as (λ b. among ys k ≡ b → false ≡ b) [
        | true ↦ λ f. sym e ∙ true_among xs k (from (among_true ys k f))
        | false ↦ λ f. refl
      ] refl
    ] refl

pub none_among : (ns : List ℕ) (k : ℕ) → (Contains ns k → ⊥) → among ns k ≡ false
none_among ns k none =
    elim (among ns k) as (λ b. among ns k ≡ b → b ≡ false) [ true ↦ λ e. absurd (none (among_true ns k e)) | false ↦ λ e. refl ] refl

or_swap : (a b : Bool) → (a || b) ≡ (b || a)
or_swap true true = refl
or_swap true false = refl
or_swap false true = refl
or_swap false false = refl

pub among_insert : (xs : List ℕ) (i y k : ℕ) → among (insert xs i y) k ≡ (among xs k || eqb k y)
among_insert xs i y k =
    sym (list_any-IsPermutation (λ n. eqb n k) (y ∷ xs) (insert xs i y) (IsPermutation-insert xs i y)) ∙ ap (λ b. b || among xs k) (eqb_swap y k)
    ∙ or_swap (eqb k y) (among xs k)

-- the number at a place stands nowhere else
gone_once : (xs : List ℕ) (i : ℕ) → IsStrictlyIncreasing xs → i < length xs → Contains (remove xs i) (get_or xs i 0) → ⊥
gone_once xs i up l h =
    let x = get_or xs i 0 in
    let pairs = AllPairs-from_increasing xs up in
    let short = length-remove xs i l in
    elim (cases_lt h.0 i) [
      | inl below ↦ omega (arith, pairs h.0 i 0 below l, get_or-remove_below xs i 0 h.0 below l, get_or_default (remove xs i) h.0 0 x h.1, h.2)
      | inr above ↦ omega (
        arith,
        pairs i (h.0 + 1) 0 (omega arith) (omega arith),
        get_or-remove_above xs i 0 h.0 above l,
        get_or_default (remove xs i) h.0 0 x h.1,
        h.2,
      )
    ]

and_true : (a : Bool) → (a && not false) ≡ a
and_true true = refl
and_true false = refl

and_false : (a : Bool) → (a && not true) ≡ false
and_false true = refl
and_false false = refl

pub among_remove : (xs : List ℕ) (i x k : ℕ) → IsStrictlyIncreasing xs → i < length xs → x ≡ get_or xs i 0
    → among (remove xs i) k ≡ (among xs k && not (eqb k x))
among_remove xs i x k up l is =
    elim (eqb_tells k x) [
      | inl e ↦
          ap (among (remove xs i)) (e.1 ∙ is) ∙ none_among (remove xs i) (get_or xs i 0) (gone_once xs i up l)
          ∙ sym (ap (λ b. among xs k && not b) e.0 ∙ and_false (among xs k))
      | inr e ↦
          let whole : among xs k ≡ (eqb x k || among (remove xs i) k) =
          list_any-IsPermutation (λ n. eqb n k) xs (x ∷ remove xs i) (IsPermutation-remove xs i x l (is ∙ get_or_default xs i 0 x l)) in
          let rest : among xs k ≡ among (remove xs i) k = whole ∙ ap (λ b. b || among (remove xs i) k) (eqb_swap x k ∙ e.0) in
          sym rest ∙ sym (ap (λ b. among xs k && not b) e.0 ∙ and_true (among xs k))
    ]

or_false : (a : Bool) → (a || false) ≡ a
or_false true = refl
or_false false = refl

pub joined_again : (xs : List ℕ) (x k : ℕ) → among xs x ≡ true → among xs k ≡ (among xs k || eqb k x)
joined_again xs x k h =
    elim (eqb_tells k x) [
      | inl e ↦ let there : among xs k ≡ true = ap (among xs) e.1 ∙ h in there ∙ sym (ap (λ b. b || eqb k x) there)
      | inr e ↦ sym (ap (λ b. among xs k || b) e.0 ∙ or_false (among xs k))
    ]

pub left_before : (xs : List ℕ) (x k : ℕ) → among xs x ≡ false → among xs k ≡ (among xs k && not (eqb k x))
left_before xs x k h =
    elim (eqb_tells k x) [
      | inl e ↦ let gone : among xs k ≡ false = ap (among xs) e.1 ∙ h in gone ∙ sym (ap (λ b. b && not (eqb k x)) gone)
      | inr e ↦ sym (ap (λ b. among xs k && not b) e.0 ∙ and_true (among xs k))
    ]
