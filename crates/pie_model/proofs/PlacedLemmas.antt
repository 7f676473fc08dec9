-- A required task whose record is right is answered from it, below running tasks that it does not reach.
use Rattle.std.proofs.Common.{ℕ, suc, ◌≤◌, ◌<◌, ◌+◌, ◌-◌, ◌≡◌, true, Option, Some, List, [], ◌∷◌, length, subst, refl, arith}
use Rattle.pie_model.specs.Paths.{among}
use Rattle.pie_model.specs.Tasks.{Task}
use Rattle.pie_model.specs.Trees.{levels, HasTask}
use Rattle.pie_model.specs.Evaluation.{World, Project, evaluation_with, evaluation}
use Rattle.pie_model.specs.Records.{Record}
use Rattle.pie_model.specs.inner.Present.{Reaches}
use Rattle.pie_model.specs.inner.Present.Way.{here}
use Rattle.pie_model.specs.Running.{IsDistinct}
use Rattle.pie_model.proofs.Basics.{clash, among_here, among_there}
use Rattle.pie_model.proofs.Rooms.{Standing, standing, few_levels, plain_not_round, placed, without, without_less, among_without}
use Rattle.pie_model.proofs.Ways.{stands_reached}
use Rattle.pie_model.proofs.AgreesLemmas.{IsKnown}

-- a list without several tasks
abbrev pub without_all : List Task → List Task → List Task
without_all [] xs = xs
without_all (t ∷ ts) xs = without t (without_all ts xs)

pub among_without_all : (x : Task) (ts xs : List Task) → among x xs ≡ true → (among x ts ≡ true → ⊥) → among x (without_all ts xs) ≡ true
among_without_all x [] xs h f = h
among_without_all x (t ∷ ts) xs h f =
    among_without x t (without_all ts xs) (among_without_all x ts xs h (λ i. f (among_there x t ts i)))
    (λ e. f (subst (λ z. among x (z ∷ ts) ≡ true) e (among_here x ts)))

pub without_all_fewer : (ts xs : List Task) → IsDistinct ts → ((t : Task) → among t ts ≡ true → among t xs ≡ true)
    → length (without_all ts xs) + length ts ≤ length xs
without_all_fewer [] xs d f = omega arith
without_all_fewer (t ∷ ts) xs d f =
    up _ _ _ _ (without_less t (without_all ts xs)
    (among_without_all t ts xs (f t (among_here t ts)) (λ i. clash (among t ts) i d.0)))
    (without_all_fewer ts xs d.1 (λ x i. f x (among_there x t ts i)))
  where
    up : (a b c e : ℕ) → a < b → b + c ≤ e → a + suc c ≤ e
    up a b c e p q = omega arith

module _ (w : World) (P : Project) (R : Task → Option Record) (held above : List Task) (few : length held ≤ w.most_tasks)
    (counted : (t : Task) (r : Record) → R t ≡ Some r → among t held ≡ true) (distinct : IsDistinct above)
    (above_held : (a : Task) → among a above ≡ true → among a held ≡ true) (u : Task) (known : IsKnown w P R u)
    (apart : (a : Task) → among a above ≡ true → Reaches R u a → ⊥) where
  stands_by : (x : Task) → HasTask x (evaluation w P u) → Reaches R u x
  stands_by x i = go (standing x (evaluation w P u) i)
    where
      go : Standing x (evaluation w P u) → Reaches R u x
      go s = subst (λ z. Reaches R u z) s.is (stands_reached w P R (evaluation w P u) u s.found refl known.right s.stands).way

  known_levels : levels (evaluation w P u) ≤ w.most_tasks - length above
  known_levels =
      up _ _ _ _ _ (few_levels (w.most_tasks - length {A = Task} []) w P [] u (plain_not_round _ (known.right u here).plain) (without_all above held)
      (λ x i. among_without_all x above held (counted x _ (known.right x (stands_by x i)).is) (λ k. apart x k (stands_by x i))))
      (without_all_fewer above held distinct above_held) few
    where
      up : (a b c d e : ℕ) → a ≤ b → b + c ≤ d → d ≤ e → a ≤ e - c
      up a b c d e p q r = omega arith

  -- below these tasks its evaluation is the one with nothing above
  pub known_placed : (room : ℕ) → w.most_tasks - length above ≤ room → evaluation_with room w P above u ≡ evaluation w P u
  known_placed room le =
      placed (w.most_tasks - length {A = Task} []) room w P [] above u (known.right u here).plain (up _ _ _ known_levels le)
      (λ a i s. apart a i (stands_by a s))
    where
      up : (a b c : ℕ) → a ≤ b → b ≤ c → a ≤ c
      up a b c p q = omega arith
