-- The marked numbers of a list of marks, as a scan from the left meets them.
use Rattle.std.proofs.Common.{◌≡◌, ℕ, zero, suc, ◌≤◌, ◌+◌, Bool, true, false, List, [], ◌∷◌, ◌++◌, length, get_or, drop, refl, sym, ap, subst, inl, inr, arith}
use Rattle.std.proofs.Common.{◌∙◌}
use Rattle.std.proofs.lemmas.List.{drop_all, append-nil}
use Rattle.std.specs.List.{Contains}
use Rattle.std.specs.List.Sorted.{IsStrictlyIncreasing}
use Rattle.pie_graph.specs.Numbers.{IsMarked, Exactly}
use Rattle.pie_graph.proofs.Among.{contains_here, contains_later, contains_cases, increasing_cons}

abbrev pub marked_from : ℕ → List Bool → List ℕ
marked_from n [] = []
marked_from n (true ∷ marks) = n ∷ marked_from (suc n) marks
marked_from n (false ∷ marks) = marked_from (suc n) marks

pub not_below : (n k : ℕ) (marks : List Bool) → Contains (marked_from n marks) k → n ≤ k
not_below n k [] h = absurd (omega (arith, h.1))
not_below n k (true ∷ marks) h =
    elim (contains_cases n k (marked_from (suc n) marks) h) [ inl e ↦ omega arith | inr later ↦ omega (arith, not_below (suc n) k marks later) ]
not_below n k (false ∷ marks) h = omega (arith, not_below (suc n) k marks h)

ascending : (n : ℕ) (marks : List Bool) → IsStrictlyIncreasing (marked_from n marks)
ascending n [] = λ k l. absurd (omega arith)
ascending n (true ∷ marks) = increasing_cons n (marked_from (suc n) marks) (λ y h. omega (arith, not_below (suc n) y marks h)) (ascending (suc n) marks)
ascending n (false ∷ marks) = ascending (suc n) marks

only : (n k : ℕ) (marks : List Bool) → Contains (marked_from n marks) (n + k) → get_or marks k false ≡ true
only n k [] h = absurd (omega (arith, h.1))
only n zero (true ∷ marks) h = refl
only n (suc k) (true ∷ marks) h =
    elim (contains_cases n (n + suc k) (marked_from (suc n) marks) h) [
      | inl e ↦ absurd (omega arith)
      | inr later ↦ only (suc n) k marks (let P : ℕ → Type 0 = λ m. Contains (marked_from (suc n) marks) m in subst P (omega arith) later)
    ]
only n zero (false ∷ marks) h = absurd (omega (arith, not_below (suc n) (n + 0) marks h))
only n (suc k) (false ∷ marks) h = only (suc n) k marks (let P : ℕ → Type 0 = λ m. Contains (marked_from (suc n) marks) m in subst P (omega arith) h)

each : (n k : ℕ) (marks : List Bool) → get_or marks k false ≡ true → Contains (marked_from n marks) (n + k)
each n k [] h = cc
each n zero (true ∷ marks) h = let P : ℕ → Type 0 = λ m. Contains (n ∷ marked_from (suc n) marks) m in
    subst P (omega arith) (contains_here n (marked_from (suc n) marks))
each n (suc k) (true ∷ marks) h =
    let P : ℕ → Type 0 = λ m. Contains (n ∷ marked_from (suc n) marks) m in
    subst P (omega arith) (contains_later n (suc n + k) (marked_from (suc n) marks) (each (suc n) k marks h))
each n zero (false ∷ marks) h = cc
each n (suc k) (false ∷ marks) h =
    let P : ℕ → Type 0 = λ m. Contains (marked_from (suc n) marks) m in
    subst P (omega arith) (each (suc n) k marks h)

pub marked_end : (found : List ℕ) (n : ℕ) (marks : List Bool) → length marks ≤ n → found ++ marked_from n (drop n marks) ≡ marked_from 0 marks
    → found ≡ marked_from 0 marks
marked_end found n marks l e = sym (append-nil found) ∙ ap (λ ms. found ++ marked_from n ms) (sym (drop_all n marks l)) ∙ e

pub marked_exactly : (marks : List Bool) (found : List ℕ) → found ≡ marked_from 0 marks → Exactly (IsMarked marks) found
marked_exactly marks found e =
    let P : List ℕ → Type 0 = λ ns. Exactly (IsMarked marks) ns in
    subst P (sym e) (record {
      ascending = ascending 0 marks;
      only = λ k h. only 0 k marks (let Q : ℕ → Type 0 = λ n. Contains (marked_from 0 marks) n in subst Q (omega arith) h);
      each = λ k h. let Q : ℕ → Type 0 = λ n. Contains (marked_from 0 marks) n in subst Q (omega arith) (each 0 k marks h);
    })
