-- Records whose requires have no cycle can be ranked by the longest way.
use Rattle.std.proofs.Common.{ℕ, zero, suc, max, ◌≤◌, ◌<◌, ◌≡◌, true, false, Option, Some, None, List, [], ◌∷◌, length, ◌⊎◌, inl, inr, sym, ap, ap₂, subst}
use Rattle.std.proofs.Common.{refl, arith}
use Rattle.pie_model.specs.Paths.{among}
use Rattle.pie_model.specs.Tasks.{Task}
use Rattle.pie_model.specs.Records.{Record, needs_of}
use Rattle.pie_model.specs.inner.Present.{Reaches}
use Rattle.pie_model.specs.inner.Present.Way.{here, along}
use Rattle.pie_model.specs.inner.Consistent.{IsRecorded}
use Rattle.pie_model.specs.inner.Ranks.{required_in, above_all, rank_within, HasNoCycle}
use Rattle.pie_model.proofs.Basics.{clash, among_here, among_there, among_split}
use Rattle.pie_model.proofs.Rooms.{without, without_less, among_without}

-- the greatest is above each, and below what all are below
above_each : (rank : Task → ℕ) (us : List Task) (u : Task) → among u us ≡ true → rank u < above_all rank us
above_each rank [] u i = clash false i refl
above_each rank (v ∷ us) u i = go (among_split u v us i) (above_each rank us u)
  where
    go : (u ≡ v) ⊎ (among u us ≡ true) → (among u us ≡ true → rank u < above_all rank us) → rank u < max (suc (rank v)) (above_all rank us)
    go (inl e) f = let q : rank u ≡ rank v = ap rank e in omega arith
    go (inr j) f = let q : rank u < above_all rank us = f j in omega arith

below_all : (rank : Task → ℕ) (us : List Task) (m : ℕ) → ((u : Task) → among u us ≡ true → suc (rank u) ≤ m) → above_all rank us ≤ m
below_all rank [] m f = omega arith
below_all rank (v ∷ us) m f =
    let q : suc (rank v) ≤ m = f v (among_here v us) in
    let p : above_all rank us ≤ m = below_all rank us m (λ u i. f u (among_there u v us i)) in omega arith

same_above : (one two : Task → ℕ) (us : List Task) → ((u : Task) → among u us ≡ true → one u ≡ two u) → above_all one us ≡ above_all two us
same_above one two [] f = refl
same_above one two (v ∷ us) f =
    ap₂ (λ a b. max (suc a) b) (f v (among_here v us)) (same_above one two us (λ u i. f u (among_there u v us i)))

module _ (R : Task → Option Record) (held : List Task) (acyclic : HasNoCycle R) (counted : (t : Task) (r : Record) → R t ≡ Some r → among t held ≡ true)
    (closed : (t : Task) (r : Record) (u : Task) → R t ≡ Some r → among u (needs_of r.observations) ≡ true → IsRecorded R u) where
  -- a rank that is not the number of steps does not change with more steps
  stable : (n : ℕ) (t : Task) → rank_within R n t < n → rank_within R (suc n) t ≡ rank_within R n t
  stable zero t h = absurd (omega arith)
  stable (suc n) t h =
      same_above (rank_within R (suc n)) (rank_within R n) (required_in (R t))
      (λ u i. stable n u (up _ _ n (above_each (rank_within R n) (required_in (R t)) u i) h))
    where
      up : (a b m : ℕ) → a < b → b < suc m → a < m
      up a b m p q = omega arith

  -- what a task requires, by its record
  in_record : (t : Task) (u : Task) (o : Option Record) → R t ≡ o → among u (required_in o) ≡ true
      → (r : Record) × (R t ≡ Some r) × (among u (needs_of r.observations) ≡ true)
  in_record t u None e i = clash false i refl
  in_record t u (Some r) e i = (r, e, i)

  -- a rank is less than the number of tasks that are reached
  few_ranks : (n : ℕ) (t : Task) (xs : List Task) → ((x : Task) → Reaches R t x → among x xs ≡ true) → rank_within R n t < length xs
  few_ranks zero t xs f = up (length (without t xs)) (length xs) (without_less t xs (f t here))
    where
      up : (a b : ℕ) → a < b → 0 < b
      up a b p = omega arith
  few_ranks (suc n) t xs f =
      up _ _ _
      (below_all (rank_within R n) (required_in (R t)) (length (without t xs))
      (λ u i. less (few_ranks n u (without t xs) (λ x q. apart u x (in_record t u (R t) refl i) q))))
      (without_less t xs (f t here))
    where
      up : (a b c : ℕ) → a ≤ b → b < c → a < c
      up a b c p q = omega arith

      less : {b : ℕ} {a : ℕ} → a < b → suc a ≤ b
      less p = p

      apart : (u x : Task) → (r : Record) × (R t ≡ Some r) × (among u (needs_of r.observations) ≡ true) → Reaches R u x → among x (without t xs) ≡ true
      apart u x s q =
          among_without x t xs (f x (along s.1 s.2 q)) (λ e. acyclic t s.0 u s.1 s.2 (subst (λ y. Reaches R u y) e q))

  -- what is reached is counted
  reached_counted : {x t : Task} → Reaches R t x → IsRecorded R t → among x held ≡ true
  reached_counted here h = counted _ h.kept h.is
  reached_counted {x} {t} (along {b = u} {r = r} e i q) h = reached_counted q (closed t r u e i)

  pub ranks_lower : (t : Task) (r : Record) (u : Task) → R t ≡ Some r → among u (needs_of r.observations) ≡ true
      → rank_within R (length held) u < rank_within R (length held) t
  ranks_lower t r u e i =
      up _ _ _ (above_each (rank_within R (length held)) (required_in (R t)) u (subst (λ o. among u (required_in o) ≡ true) (sym e) i))
      (stable (length held) t (few_ranks (length held) t held (λ x q. reached_counted q (record { kept = r; is = e }))))
    where
      up : (a b c : ℕ) → a < b → b ≡ c → a < c
      up a b c p q = omega arith
