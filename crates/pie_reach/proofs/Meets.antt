-- What meeting numbers leaves.
use Rattle.std.proofs.Common.{◌≡◌, ◌⊎◌, ℕ, zero, suc, ◌<◌, ◌+◌, Bool, true, false, cond, List, [], ◌∷◌, ◌++◌, length, get_or, set, refl, sym, ap, ◌∙◌, subst}
use Rattle.std.proofs.Common.{inl, inr, arith, length-set}
use Rattle.std.specs.List.{Contains}
use Rattle.std.proofs.lemmas.Bool.Decides.{eqb_tells}
use Rattle.std.proofs.lemmas.List.{get_or-set_same, get_or-set_other, length_push}
use Rattle.std.proofs.lemmas.List.Elements.{Contains-append_left, Contains-push, Contains-push_cases, All-head, All-tail}
use Rattle.pie_graph.specs.Numbers.{IsMarked, AllBelow}
use Rattle.pie_graph.proofs.Among.{contains_here, contains_later, contains_cases}
use Rattle.pie_reach.specs.inner.Walks.{Walked, meet, meet_all, unmarked}

pub record Meets (ns : List ℕ) (w v : Walked) : Type 0 where
  pub sized : length v.marks ≡ length w.marks
  pub kept : (k : ℕ) → IsMarked w.marks k → IsMarked v.marks k
  pub marked : (k : ℕ) → Contains ns k → IsMarked v.marks k
  pub only : (k : ℕ) → IsMarked v.marks k → IsMarked w.marks k ⊎ (Contains ns k × Contains v.work k)
  pub work_kept : (k : ℕ) → Contains w.work k → Contains v.work k
  pub work_only : (k : ℕ) → Contains v.work k → Contains w.work k ⊎ Contains ns k
  pub total : unmarked v.marks + length v.work ≡ unmarked w.marks + length w.work

meets_none : (w : Walked) → Meets [] w w
meets_none w = record {
  sized = refl;
  kept = λ k h. h;
  marked = λ k h. absurd (omega (arith, h.1));
  only = λ k h. inl h;
  work_kept = λ k h. h;
  work_only = λ k h. inl h;
  total = refl;
}

unmarked-set : (marks : List Bool) (n : ℕ) → n < length marks → get_or marks n false ≡ false → unmarked (set marks n true) + 1 ≡ unmarked marks
unmarked-set [] n l e = absurd (omega arith)
unmarked-set (true ∷ marks) zero l e = cc
unmarked-set (false ∷ marks) zero l e = refl
unmarked-set (true ∷ marks) (suc n) l e = unmarked-set marks n (omega arith) e
unmarked-set (false ∷ marks) (suc n) l e = ap (λ m. m + 1) (unmarked-set marks n (omega arith) e)

pub alone : (n k : ℕ) → Contains (n ∷ []) k → n ≡ k
alone n k h = elim (contains_cases n k [] h) [ inl e ↦ e | inr later ↦ absurd (omega (arith, later.1)) ]

-- the number had its mark
old_one : (n : ℕ) (w : Walked) → IsMarked w.marks n → Meets (n ∷ []) w w
old_one n w is = record {
  sized = refl;
  kept = λ k h. h;
  marked = λ k h. subst (IsMarked w.marks) (alone n k h) is;
  only = λ k h. inl h;
  work_kept = λ k h. h;
  work_only = λ k h. inl h;
  total = refl;
}

-- the number gets its mark
new_one : (n : ℕ) (w : Walked) → n < length w.marks → get_or w.marks n false ≡ false
    → Meets (n ∷ []) w (record { marks = set w.marks n true; work = w.work ++ n ∷ [] })
new_one n w l not = record {
  sized = length-set w.marks n true;
  kept = λ k h. elim (eqb_tells k n) [
    | inl e ↦ subst (IsMarked (set w.marks n true)) (sym e.1) (get_or-set_same w.marks n true false l)
    | inr e ↦ get_or-set_other w.marks n k true false e.1 ∙ h
  ];
  marked = λ k h. subst (IsMarked (set w.marks n true)) (alone n k h) (get_or-set_same w.marks n true false l);
  only = λ k h. elim (eqb_tells k n) [
    | inl e ↦ inr (subst (Contains (n ∷ [])) (sym e.1) (contains_here n []), subst (Contains (w.work ++ n ∷ [])) (sym e.1) (Contains-push w.work n))
    | inr e ↦ inl (sym (get_or-set_other w.marks n k true false e.1) ∙ h)
  ];
  work_kept = λ k h. Contains-append_left w.work (n ∷ []) k h;
  work_only = λ k h. elim (Contains-push_cases w.work n k h) [ inl i ↦ inl i | inr e ↦ inr (subst (Contains (n ∷ [])) e (contains_here n [])) ];
  total = omega (arith, unmarked-set w.marks n l not, length_push w.work n);
}

meets_one : (n : ℕ) (w : Walked) → n < length w.marks → Meets (n ∷ []) w (meet n w)
meets_one n w l =
    elim (get_or w.marks n false) as (λ b. get_or w.marks n false ≡ b
    → Meets (n ∷ []) w (cond b w (record { marks = set w.marks n true; work = w.work ++ n ∷ [] }))) [
      | true ↦ λ e. old_one n w e
      | false ↦ λ e. new_one n w l e
    ] refl

meets_more : (n : ℕ) (ns : List ℕ) (w v u : Walked) → Meets (n ∷ []) w v → Meets ns v u → Meets (n ∷ ns) w u
meets_more n ns w v u first rest = record {
  sized = rest.sized ∙ first.sized;
  kept = λ k h. rest.kept k (first.kept k h);
  marked = λ k h. elim (contains_cases n k ns h) [
    | inl e ↦ rest.kept k (first.marked k (subst (Contains (n ∷ [])) e (contains_here n [])))
    | inr later ↦ rest.marked k later
  ];
  only = λ k h. elim (rest.only k h) [
    | inl i ↦ elim (first.only k i) [
      | inl j ↦ inl j
      | inr j ↦ inr (subst (Contains (n ∷ ns)) (alone n k j.0) (contains_here n ns), rest.work_kept k j.1)
    ]
    | inr i ↦ inr (contains_later n k ns i.0, i.1)
  ];
  work_kept = λ k h. rest.work_kept k (first.work_kept k h);
  work_only = λ k h. elim (rest.work_only k h) [
    | inl i ↦ elim (first.work_only k i) [
      | inl j ↦ inl j
      | inr j ↦ inr (subst (Contains (n ∷ ns)) (alone n k j) (contains_here n ns))
    ]
    | inr i ↦ inr (contains_later n k ns i)
  ];
  total = rest.total ∙ first.total;
}

pub all_met : (ns : List ℕ) (w : Walked) → AllBelow (length w.marks) ns → Meets ns w (meet_all ns w)
all_met [] w below = meets_none w
all_met (n ∷ ns) w below =
    let first = meets_one n w (All-head (λ m. m < length w.marks) n ns below) in
    meets_more n ns w (meet n w) (meet_all ns (meet n w)) first
    (all_met ns (meet n w) (subst (λ (size : ℕ). AllBelow size ns) (sym first.sized) (All-tail (λ m. m < length w.marks) n ns below)))
