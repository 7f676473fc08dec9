-- Tasks have one order: two lists in task order with the same tasks are equal.
use Rattle.std.proofs.Common.{◌≡◌, ◌⊎◌, inl, inr, ℕ, ◌+◌, ◌≤◌, suc, Bool, true, false, cond, List, [], ◌∷◌, get_or, IsPermutation, IsSortedBy, bytes_eq, refl, sym, ap, subst, ◌∙◌, arith}
use Rattle.std.specs.List.{All, Contains, sum_by}
use Rattle.std.specs.Ordering.{is_gt, is_lt}
use Rattle.std.proofs.lemmas.List.Elements.{All-head, All-tail}
use Rattle.std.proofs.lemmas.List.Sorted.{All-permutation, IsPermutation-refl, sum_by-IsPermutation, sum_by_pushed}
use Rattle.pie_value.specs.declared.task.Task.{Task}
use Rattle.pie_value.specs.Canonical.{enc_task}
use Rattle.pie_value.specs.Order.{byte_order}
use Rattle.pie_report.specs.Order.{InTaskOrder}
use Rattle.pie_model.proofs.Basics.{bytes_same, same_bytes}
use Rattle.pie_model_pipeline.proofs.Joining.{tasks_told}
use Rattle.pie_check_laws.proofs.Members.{none_in, here_or_there, here, there}
use Rattle.pie_checks.proofs.PathOrder.{not_after_through, same_both, turned}
use Rattle.pie_fresh.specs.Told.{IsTrueTask}

-- ---- how often a task stands in a list

-- two lists have each task equally often
abbrev AreAsOften : List Task → List Task → Type 0
AreAsOften xs ys = (f : Task → ℕ) → sum_by f xs ≡ sum_by f ys

counted : (f : Task → ℕ) (x : Task) (xs : List Task) → sum_by f (x ∷ xs) ≡ f x + sum_by f xs
counted f x xs = sum_by_pushed f x xs (x ∷ xs) (IsPermutation-refl (x ∷ xs))

abbrev is_task : Task → Task → ℕ
is_task x y = cond (bytes_eq (enc_task y) (enc_task x)) 1 0

-- a task that is counted in a list stands in it
stands : (x : Task) (xs : List Task) → IsTrueTask x → All IsTrueTask xs → 1 ≤ sum_by (is_task x) xs → Contains xs x
stands x [] t all one = absurd (omega (arith, one))
stands x (y ∷ ys) t all one = by (bytes_eq (enc_task y) (enc_task x)) refl (stands x ys t (All-tail IsTrueTask y ys all))
  where
    by : (b : Bool) → bytes_eq (enc_task y) (enc_task x) ≡ b → (1 ≤ sum_by (is_task x) ys → Contains ys x) → Contains (y ∷ ys) x
    by true is later =
        subst (Contains (y ∷ ys)) (tasks_told y x (All-head IsTrueTask y ys all) t (same_bytes (enc_task y) (enc_task x) is)) (here y ys)
    by false is later =
        there y x ys (later (omega (arith, one, counted (is_task x) y ys, ap {B = ℕ} (λ (b : Bool). cond b 1 0) is)))

first_counted : (x : Task) (xs : List Task) → 1 ≤ sum_by (is_task x) (x ∷ xs)
first_counted x xs = omega (arith, counted (is_task x) x xs, ap {B = ℕ} (λ (b : Bool). cond b 1 0) (bytes_same (enc_task x)))

-- ---- lists in order

abbrev IsAscending : List Task → Type 0
IsAscending xs = IsSortedBy (λ t u. is_lt (byte_order (enc_task t) (enc_task u))) xs

behind : (x : Task) (xs : List Task) → IsAscending (x ∷ xs) → IsAscending xs
behind x xs up k d low within =
    let next : suc k + 1 ≡ suc (k + 1) = omega arith in
    subst (λ n. is_lt (byte_order (enc_task (get_or (x ∷ xs) n d)) (enc_task (get_or xs k d))) ≡ false) next
    (up (suc k) d (omega arith) (omega (arith, within)))

-- the first task comes after no other
first_least : (x y : Task) (xs : List Task) → IsAscending (x ∷ xs) → Contains xs y → is_gt (byte_order (enc_task x) (enc_task y)) ≡ false
first_least x y [] up h = absurd (none_in y h)
first_least x y (z ∷ zs) up h = by (here_or_there z y zs h) (first_least z y zs (behind x (z ∷ zs) up))
  where
    next : is_gt (byte_order (enc_task x) (enc_task z)) ≡ false
    next = turned (enc_task x) (enc_task z) (up 0 x (omega arith) (omega arith))

    by : (z ≡ y) ⊎ Contains zs y → (Contains zs y → is_gt (byte_order (enc_task z) (enc_task y)) ≡ false)
        → is_gt (byte_order (enc_task x) (enc_task y)) ≡ false
    by (inl same) later = subst (λ (t : Task). is_gt (byte_order (enc_task x) (enc_task t)) ≡ false) same next
    by (inr h) later = not_after_through (enc_task x) (enc_task z) (enc_task y) next (later h)

first_same : (x y : Task) (xs ys : List Task) → IsAscending (x ∷ xs) → IsAscending (y ∷ ys) → IsTrueTask x → IsTrueTask y
    → (y ≡ x) ⊎ Contains ys x → (x ≡ y) ⊎ Contains xs y → x ≡ y
first_same x y xs ys up also t u (inl same) h = sym same
first_same x y xs ys up also t u (inr g) (inl same) = same
first_same x y xs ys up also t u (inr g) (inr h) =
    tasks_told x y t u (same_both (enc_task x) (enc_task y) (first_least x y xs up h) (first_least y x ys also g))

often_behind : (x y : Task) (xs ys : List Task) → x ≡ y → AreAsOften (x ∷ xs) (y ∷ ys) → AreAsOften xs ys
often_behind x y xs ys same often f = omega (arith, often f, counted f x xs, counted f y ys, ap f same)

ascending_one : (xs ys : List Task) → AreAsOften xs ys → IsAscending xs → IsAscending ys → All IsTrueTask xs → All IsTrueTask ys → xs ≡ ys
ascending_one [] [] often up also all both = refl
ascending_one [] (y ∷ ys) often up also all both = absurd (omega (arith, often (λ t. 1), counted (λ t. 1) y ys))
ascending_one (x ∷ xs) [] often up also all both = absurd (omega (arith, often (λ t. 1), counted (λ t. 1) x xs))
ascending_one (x ∷ xs) (y ∷ ys) often up also all both =
    let t : IsTrueTask x = All-head IsTrueTask x xs all in
    let u : IsTrueTask y = All-head IsTrueTask y ys both in
    let g : Contains (y ∷ ys) x = stands x (y ∷ ys) t both (omega (arith, first_counted x xs, often (is_task x))) in
    let h : Contains (x ∷ xs) y = stands y (x ∷ xs) u all (omega (arith, first_counted y ys, often (is_task y))) in
    let e : x ≡ y = first_same x y xs ys up also t u (here_or_there y x ys g) (here_or_there x y xs h) in
    λ i. e i ∷ ascending_one xs ys (often_behind x y xs ys e often) (behind x xs up) (behind y ys also) (All-tail IsTrueTask x xs all) (All-tail IsTrueTask y ys both) i

-- the same tasks stand in one order
pub in_order_one : (ran runs others : List Task) → All IsTrueTask ran → InTaskOrder ran runs → InTaskOrder ran others → runs ≡ others
in_order_one ran runs others all is also =
    ascending_one runs others (λ f. sum_by-IsPermutation f ran runs is.same ∙ sym (sum_by-IsPermutation f ran others also.same)) is.ascending also.ascending
    (All-permutation IsTrueTask ran runs is.same all) (All-permutation IsTrueTask ran others also.same all)
