-- The least of numbers that are looked at one after another.
use Rattle.std.proofs.Common.{◌≡◌, ◌≢◌, ◌⊎◌, ℕ, ◌<◌, ◌≤◌, ◌+◌, ◌==◌, Bool, true, false, cond, List, [], ◌∷◌, ◌++◌, length, get_or, take, refl, sym, ap, ◌∙◌}
use Rattle.std.proofs.Common.{subst, inl, inr}
use Rattle.std.specs.Prelude.{Option, Some, None}
use Rattle.std.specs.Ordering.{is_lt, is_gt}
use Rattle.std.specs.List.{Contains}
use Rattle.std.proofs.lemmas.Bool.{cases_eq}
use Rattle.std.proofs.lemmas.Bool.Decides.{Decides-eqb}
use Rattle.std.proofs.lemmas.List.{take_more, take_all}
use Rattle.std.proofs.lemmas.List.Elements.{Contains-append_left, Contains-push, Contains-push_cases}
use Rattle.pie_value.specs.declared.task.Task.{Task}
use Rattle.pie_value.specs.Canonical.{enc_task}
use Rattle.pie_checks.specs.Refusals.{task_order}
use Rattle.pie_checks.specs.Listings.{HasTwo}
use Rattle.pie_checks.specs.Searches.{task_at, is_but, IsAmong, IsLeastBut, lesser_of, better_of}
use Rattle.pie_checks.proofs.PathOrder.{not_after_itself, not_after_through, lt_not_gt, turned}

-- the first task doesn't come after the second
abbrev pub IsUpTo : List Task → ℕ → ℕ → Type 0
IsUpTo tasks m n = is_gt (task_order (task_at tasks m) (task_at tasks n)) ≡ false

pub up_to_same : (tasks : List Task) (m n : ℕ) → m ≡ n → IsUpTo tasks m n
up_to_same tasks m n e = subst (IsUpTo tasks m) e (not_after_itself (enc_task (task_at tasks m)))

same_set : (tasks : List Task) (P Q : ℕ → Type 0) (best : Option ℕ) → ((k : ℕ) → P k → Q k) → ((k : ℕ) → Q k → P k) → IsLeastBut tasks P best
    → IsLeastBut tasks Q best
same_set tasks P Q None to back h = λ k q. h k (back k q)
same_set tasks P Q (Some best) to back h = (to best h.0, λ k q. h.1 k (back k q))

by_test : (tasks : List Task) (P Q : ℕ → Type 0) (best n : ℕ) (less : Bool) → is_lt (task_order (task_at tasks n) (task_at tasks best)) ≡ less
    → ((k : ℕ) → P k → Q k) → ((k : ℕ) → Q k → P k ⊎ (n ≡ k)) → Q n
    → IsLeastBut tasks P (Some best) → IsLeastBut tasks Q (cond less (Some n) (Some best))
by_test tasks P Q best n true e to back here h = (
  here,
  λ k q. elim (back k q) [
    | inl p ↦ not_after_through (enc_task (task_at tasks n)) (enc_task (task_at tasks best)) (enc_task (task_at tasks k))
        (lt_not_gt (task_order (task_at tasks n) (task_at tasks best)) e) (h.1 k p)
    | inr same ↦ up_to_same tasks n k same
  ],
)
by_test tasks P Q best n false e to back here h = (
  to best h.0,
  λ k q. elim (back k q) [
    | inl p ↦ h.1 k p
    | inr same ↦ subst (IsUpTo tasks best) same
        (turned (enc_task (task_at tasks best)) (enc_task (task_at tasks n)) e)
  ],
)

one_more : (tasks : List Task) (P Q : ℕ → Type 0) (best : Option ℕ) (n : ℕ) → ((k : ℕ) → P k → Q k) → ((k : ℕ) → Q k → P k ⊎ (n ≡ k)) → Q n
    → IsLeastBut tasks P best → IsLeastBut tasks Q (lesser_of tasks best n)
one_more tasks P Q None n to back here h = (here, λ k q. elim (back k q) [ inl p ↦ absurd (h k p) | inr same ↦ up_to_same tasks n k same ])
one_more tasks P Q (Some best) n to back here h = by_test tasks P Q best n (is_lt (task_order (task_at tasks n) (task_at tasks best))) refl to back here h

by_but : (tasks : List Task) (among : List ℕ) (but best : Option ℕ) (i n : ℕ) (out : Bool) → is_but but n ≡ out
    → take (i + 1) among ≡ take i among ++ n ∷ [] → IsLeastBut tasks (IsAmong (take i among) but) best
    → IsLeastBut tasks (IsAmong (take (i + 1) among) but) (cond out best (lesser_of tasks best n))
by_but tasks among but best i n true e more h =
    same_set tasks (IsAmong (take i among) but) (IsAmong (take (i + 1) among) but) best
    (λ k p. (subst (λ (xs : List ℕ). Contains xs k) (sym more) (Contains-append_left (take i among) (n ∷ []) k p.0), p.1))
    (λ k q. elim (Contains-push_cases (take i among) n k (subst (λ (xs : List ℕ). Contains xs k) more q.0)) [
      | inl p ↦ (p, q.1)
      | inr same ↦ absurd (let off : is_but but n ≡ false = ap (is_but but) same ∙ q.1 in (cc))
    ]) h
by_but tasks among but best i n false e more h =
    one_more tasks (IsAmong (take i among) but) (IsAmong (take (i + 1) among) but) best n
    (λ k p. (subst (λ (xs : List ℕ). Contains xs k) (sym more) (Contains-append_left (take i among) (n ∷ []) k p.0), p.1))
    (λ k q. elim (Contains-push_cases (take i among) n k (subst (λ (xs : List ℕ). Contains xs k) more q.0)) [ inl p ↦ inl (p, q.1) | inr same ↦ inr same ])
    (subst (λ (xs : List ℕ). Contains xs n) (sym more) (Contains-push (take i among) n), e) h

-- one more number is looked at
pub turn : (tasks : List Task) (among : List ℕ) (but best new : Option ℕ) (i : ℕ) → i < length among → new ≡ better_of tasks but best (get_or among i 0)
    → IsLeastBut tasks (IsAmong (take i among) but) best
    → IsLeastBut tasks (IsAmong (take (i + 1) among) but) new
turn tasks among but best new i l e h =
    subst (IsLeastBut tasks (IsAmong (take (i + 1) among) but)) (sym e)
    (by_but tasks among but best i (get_or among i 0) (is_but but (get_or among i 0)) refl (take_more among i 0 l) h)

-- all are looked at
pub all : (tasks : List Task) (among : List ℕ) (but best : Option ℕ) (i : ℕ) → length among ≤ i → IsLeastBut tasks (IsAmong (take i among) but) best
    → IsLeastBut tasks (IsAmong among but) best
all tasks among but best i l h = subst (λ (xs : List ℕ). IsLeastBut tasks (IsAmong xs but) best) (take_all i among l) h

-- ---- two of them

pub not_out : (out n : ℕ) → out ≢ n → is_but (Some out) n ≡ false
not_out out n h = by_case (out == n) refl
  where
    by_case : (b : Bool) → (out == n) ≡ b → b ≡ false
    by_case true e = absurd (h ((Decides-eqb out n).0 e))
    by_case false e = refl

pub some_first : (tasks : List Task) (among : List ℕ) → HasTwo among → IsLeastBut tasks (IsAmong among None) None → ⊥
some_first tasks among two none = none two.0 (two.2, refl)

pub some_second : (tasks : List Task) (among : List ℕ) (first : ℕ) → HasTwo among → IsLeastBut tasks (IsAmong among (Some first)) None → ⊥
some_second tasks among first two none =
    elim (cases_eq first two.0) [
      | inl same ↦ none two.1 (two.3, not_out first two.1 (λ e. two.4 (sym same ∙ e)))
      | inr other ↦ none two.0 (two.2, not_out first two.0 other)
    ]
