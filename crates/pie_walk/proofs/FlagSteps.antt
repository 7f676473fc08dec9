-- One flag changes.
use Rattle.std.proofs.Common.{◌≡◌, ◌≢◌, ◌⊎◌, ℕ, ◌<◌, Bool, true, false, not, ◌&&◌, ◌||◌, List, length, get_or, set, refl, sym, ap, ◌∙◌, subst, inl, inr}
use Rattle.std.proofs.lemmas.Bool.Decides.{eqb_tells}
use Rattle.std.proofs.lemmas.List.{get_or-set_same, get_or-set_other}
use Rattle.pie_graph.specs.Numbers.{IsMarked}
use Rattle.pie_walk.specs.declared.marks.Mark.{Mark}
use Rattle.pie_walk.specs.declared.marks.Mark.TheVariants.{New, Visited, Runs, Settled}
use Rattle.pie_walk.specs.inner.Sweeping.{is_idle}

pub other_flag : (flags : List Bool) (k : ℕ) (b : Bool) (n : ℕ) → n ≢ k → get_or (set flags k b) n false ≡ get_or flags n false
other_flag flags k b n ne = get_or-set_other flags k n b false ne

pub flag_here : (flags : List Bool) (k : ℕ) → k < length flags → IsMarked (set flags k true) k
flag_here flags k l = get_or-set_same flags k true false l

-- a flag is set, and the others stay
pub flag_kept : (flags : List Bool) (k n : ℕ) → k < length flags → IsMarked flags n → IsMarked (set flags k true) n
flag_kept flags k n l mark =
    elim (eqb_tells n k) [
      | inl e ↦ ap (λ j. get_or (set flags k true) j false) e.1 ∙ flag_here flags k l
      | inr e ↦ other_flag flags k true n e.1 ∙ mark
    ]

pub flag_cases : (flags : List Bool) (k : ℕ) (b : Bool) (n : ℕ) → IsMarked (set flags k b) n → (n ≡ k) ⊎ IsMarked flags n
flag_cases flags k b n mark = elim (eqb_tells n k) [ inl e ↦ inl e.1 | inr e ↦ inr (sym (other_flag flags k b n e.1) ∙ mark) ]

pub or_left : (a b : Bool) → a ≡ true → (a || b) ≡ true
or_left true b e = refl
or_left false b e = cc

pub or_right : (a b : Bool) → b ≡ true → (a || b) ≡ true
or_right true b e = refl
or_right false b e = e

pub or_cases : (a b : Bool) → (a || b) ≡ true → (a ≡ true) ⊎ (b ≡ true)
or_cases true b e = inl refl
or_cases false b e = inr e

-- a flag that is set stays, and another one joins it
pub either_kept : (flags : List Bool) (k : ℕ) (b : Bool) (n : ℕ) → k < length flags → IsMarked flags n
    → IsMarked (set flags k (get_or flags k false || b)) n
either_kept flags k b n l mark =
    elim (eqb_tells n k) [
      | inl e ↦ ap (λ j. get_or (set flags k (get_or flags k false || b)) j false) e.1
          ∙ get_or-set_same flags k (get_or flags k false || b) false l
          ∙ or_left (get_or flags k false) b (ap (λ j. get_or flags j false) (sym e.1) ∙ mark)
      | inr e ↦ other_flag flags k (get_or flags k false || b) n e.1 ∙ mark
    ]

pub either_joins : (flags : List Bool) (k : ℕ) (b : Bool) → k < length flags → b ≡ true → IsMarked (set flags k (get_or flags k false || b)) k
either_joins flags k b l e = get_or-set_same flags k (get_or flags k false || b) false l ∙ or_right (get_or flags k false) b e

pub either_cases : (flags : List Bool) (k : ℕ) (b : Bool) (n : ℕ) → k < length flags → IsMarked (set flags k (get_or flags k false || b)) n
    → IsMarked flags n ⊎ ((n ≡ k) × (b ≡ true))
either_cases flags k b n l mark =
    elim (eqb_tells n k) [
      | inl e ↦
          let at_k : (get_or flags k false || b) ≡ true = sym (get_or-set_same flags k (get_or flags k false || b) false l)
          ∙ ap (λ j. get_or (set flags k (get_or flags k false || b)) j false) (sym e.1) ∙ mark in
          elim (or_cases (get_or flags k false) b at_k) [
            | inl was ↦ inl (ap (λ j. get_or flags j false) e.1 ∙ was)
            | inr new ↦ inr (e.1, new)
          ]
      | inr e ↦ inl (sym (other_flag flags k (get_or flags k false || b) n e.1) ∙ mark)
    ]

pub idle_tells : (m : Mark) → is_idle m ≡ true → (m ≡ New) ⊎ (m ≡ Visited)
idle_tells New e = inl refl
idle_tells Visited e = inr refl
idle_tells Runs e = cc
idle_tells Settled e = cc

pub busy_tells : (m : Mark) → is_idle m ≡ false → (m ≡ New) ⊎ (m ≡ Visited) → ⊥
busy_tells New e idle = cc
busy_tells Visited e idle = cc
busy_tells Runs e idle = elim idle [ inl is ↦ (cc) | inr is ↦ (cc) ]
busy_tells Settled e idle = elim idle [ inl is ↦ (cc) | inr is ↦ (cc) ]

-- a task that is due is idle and wasn't swept
pub due_tells : (m : Mark) (f : Bool) → (is_idle m && not f) ≡ true → ((m ≡ New) ⊎ (m ≡ Visited)) × (f ≡ false)
due_tells New true e = cc
due_tells New false e = (inl refl, refl)
due_tells Visited true e = cc
due_tells Visited false e = (inr refl, refl)
due_tells Runs f e = cc
due_tells Settled f e = cc

-- an idle one that isn't due was swept
pub due_not : (m : Mark) (f : Bool) → (is_idle m && not f) ≡ false → (m ≡ New) ⊎ (m ≡ Visited) → f ≡ true
due_not New true e idle = refl
due_not New false e idle = cc
due_not Visited true e idle = refl
due_not Visited false e idle = cc
due_not Runs f e idle = elim idle [ inl is ↦ absurd (cc) | inr is ↦ absurd (cc) ]
due_not Settled f e idle = elim idle [ inl is ↦ absurd (cc) | inr is ↦ absurd (cc) ]
