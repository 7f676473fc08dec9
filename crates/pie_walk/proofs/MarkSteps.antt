-- One mark changes.
use Rattle.std.proofs.Common.{◌≡◌, ◌≢◌, ◌⊎◌, ℕ, ◌<◌, ◌≤◌, ◌+◌, List, length, get_or, set, sym, ap, ◌∙◌, subst, refl, inl, inr, arith}
use Rattle.std.specs.List.{sum_by}
use Rattle.std.proofs.lemmas.Bool.Decides.{eqb_tells}
use Rattle.std.proofs.lemmas.List.{get_or-set_same, get_or-set_other}
use Rattle.std.proofs.lemmas.List.Sums.{sum_by-set}
use Rattle.pie_walk.specs.declared.marks.Mark.{Mark}
use Rattle.pie_walk.specs.declared.marks.Mark.TheVariants.{New, Visited, Runs, Settled}
use Rattle.pie_walk.specs.Marks.{mark_of, IsSettled, IsIdle, rank, MarksRise}

-- what was settled is settled still
abbrev pub KeepsSettled : List Mark → List Mark → Type 0
KeepsSettled old new = (k : ℕ) → IsSettled old k → IsSettled new k

pub same_mark : (marks : List Mark) (n : ℕ) (m : Mark) → n < length marks → mark_of (set marks n m) n ≡ m
same_mark marks n m l = get_or-set_same marks n m New l

pub other_mark : (marks : List Mark) (n : ℕ) (m : Mark) (k : ℕ) → k ≢ n → mark_of (set marks n m) k ≡ mark_of marks k
other_mark marks n m k ne = get_or-set_other marks n k m New ne

pub keeps_settled : (marks : List Mark) (n : ℕ) (m : Mark) → (IsSettled marks n → ⊥) → KeepsSettled marks (set marks n m)
keeps_settled marks n m open_yet k is =
    elim (eqb_tells k n) [
      | inl e ↦ absurd (open_yet (ap (mark_of marks) (sym e.1) ∙ is))
      | inr e ↦ other_mark marks n m k e.1 ∙ is
    ]

-- in a list with one changed mark, a settled task is that one or was settled
pub settled_cases : (marks : List Mark) (n : ℕ) (m : Mark) (k : ℕ) → IsSettled (set marks n m) k → (k ≡ n) ⊎ IsSettled marks k
settled_cases marks n m k is = elim (eqb_tells k n) [ inl e ↦ inl e.1 | inr e ↦ inr (sym (other_mark marks n m k e.1) ∙ is) ]

-- and a task of another mark had it before
pub was_settled : (marks : List Mark) (n : ℕ) (m : Mark) (k : ℕ) → n < length marks → m ≢ Settled → IsSettled (set marks n m) k → IsSettled marks k
was_settled marks n m k l apart is =
    elim (settled_cases marks n m k is) [
      | inl e ↦ absurd (apart (sym (same_mark marks n m l) ∙ ap (mark_of (set marks n m)) (sym e) ∙ is))
      | inr before ↦ before
    ]

pub new_is_open : (m : Mark) → m ≡ New → m ≡ Settled → ⊥
new_is_open m a b = let clash : New ≡ Settled = sym a ∙ b in cc

pub visited_is_open : (m : Mark) → m ≡ Visited → m ≡ Settled → ⊥
visited_is_open m a b = let clash : Visited ≡ Settled = sym a ∙ b in cc

pub running_is_open : (m : Mark) → m ≡ Runs → m ≡ Settled → ⊥
running_is_open m a b = let clash : Runs ≡ Settled = sym a ∙ b in cc

pub idle_is_open : (marks : List Mark) (n : ℕ) → IsIdle marks n → IsSettled marks n → ⊥
idle_is_open marks n idle is = elim idle [ inl a ↦ new_is_open (mark_of marks n) a is | inr a ↦ visited_is_open (mark_of marks n) a is ]

-- a task is new, settled, or stands on the stack
pub data Stage (m : Mark) : Type 0 where
  is_new : m ≡ New → Stage m
  is_settled : m ≡ Settled → Stage m
  is_open : m ≢ New → m ≢ Settled → Stage m

pub stage_of : (m : Mark) → Stage m
stage_of New = is_new refl
stage_of Visited = is_open (λ e. cc) (λ e. cc)
stage_of Runs = is_open (λ e. cc) (λ e. cc)
stage_of Settled = is_settled refl

pub rises_set : (marks : List Mark) (n : ℕ) (m : Mark) → n < length marks → rank (mark_of marks n) ≤ rank m → MarksRise marks (set marks n m)
rises_set marks n m l up k =
    elim (eqb_tells k n) [
      | inl e ↦
          let there : rank (mark_of (set marks n m) k) ≡ rank m = ap rank (ap (mark_of (set marks n m)) e.1 ∙ same_mark marks n m l) in
          omega (arith, there, ap (λ j. rank (mark_of marks j)) e.1)
      | inr e ↦ omega (arith, ap rank (other_mark marks n m k e.1))
    ]

pub rises_on : (a b c : List Mark) → MarksRise a b → MarksRise b c → MarksRise a c
rises_on a b c up on k = omega (arith, up k, on k)

top_rank : (m : Mark) → 3 ≤ rank m → m ≡ Settled
top_rank New l = absurd (omega arith)
top_rank Visited l = absurd (omega arith)
top_rank Runs l = absurd (omega arith)
top_rank Settled l = refl

-- what is settled stays settled
pub settled_stays : (old new : List Mark) → MarksRise old new → KeepsSettled old new
settled_stays old new up k is = top_rank (mark_of new k) (omega (arith, up k, ap rank is))

-- what was met stays so
pub met_stays : (old new : List Mark) → MarksRise old new → (k : ℕ) → mark_of old k ≢ New → mark_of new k ≢ New
met_stays old new up k was e = was (low_rank (mark_of old k) (omega (arith, up k, ap rank e)))
  where
    low_rank : (m : Mark) → rank m ≤ 0 → m ≡ New
    low_rank New l = refl
    low_rank Visited l = absurd (omega arith)
    low_rank Runs l = absurd (omega arith)
    low_rank Settled l = absurd (omega arith)

pub weight_set : (weight : Mark → ℕ) (marks : List Mark) (n : ℕ) (a b : Mark) → n < length marks → mark_of marks n ≡ a
    → sum_by weight (set marks n b) + weight a ≡ sum_by weight marks + weight b
weight_set weight marks n a b l is = ap (λ w. sum_by weight (set marks n b) + w) (ap weight (sym is)) ∙ sum_by-set weight marks n b New l

-- a task that was neither taken nor settled after a walk wasn't before
pub idle_before : (old new : List Mark) → MarksRise old new → (k : ℕ) → IsIdle new k → IsIdle old k
idle_before old new up k idle = low (mark_of old k) (omega (arith, up k, bound (mark_of new k) idle))
  where
    low : (m : Mark) → rank m ≤ 1 → (m ≡ New) ⊎ (m ≡ Visited)
    low New l = inl refl
    low Visited l = inr refl
    low Runs l = absurd (omega arith)
    low Settled l = absurd (omega arith)

    bound : (m : Mark) → (m ≡ New) ⊎ (m ≡ Visited) → rank m ≤ 1
    bound m is = elim is [ inl e ↦ omega (arith, ap rank e) | inr e ↦ omega (arith, ap rank e) ]
