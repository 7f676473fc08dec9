-- A cycle of numbers is a ring of their tasks, wherever it begins.
use Rattle.std.proofs.Common.{◌≡◌, ℕ, suc, ◌+◌, ◌<◌, List, [], ◌∷◌, ◌++◌, map, drop, take, Option, Some, length, slice_index, refl, sym, subst, arith}
use Rattle.std.specs.Prelude.{slice_get}
use Rattle.std.proofs.lemmas.List.{take-append-drop, append-nil}
use Rattle.pie_value.specs.declared.task.Task.{Task}
use Rattle.pie_order.specs.Cycles.{IsCycle}
use Rattle.pie_order.specs.Cycles as cycles
use Rattle.pie_builder_laws.specs.Views.{AreNumbersOf}
use Rattle.pie_bottomup.specs.inner.Causes.{Leads, IsRing, AreTurned}

-- ---- turning

module _ {A : Type 0} (goes : A → A → Type 0) where
  apart : (x : A) (xs : List A) (y : A) (ys : List A) (z : A) → Leads goes x (xs ++ y ∷ ys) z → Leads goes x xs y × Leads goes y ys z
  apart x [] y ys z h = h
  apart x (k ∷ ks) y ys z h = let s = apart k ks y ys z h.1 in ((h.0, s.0), s.1)

  together : (x : A) (xs : List A) (y : A) (ys : List A) (z : A) → Leads goes x xs y → Leads goes y ys z → Leads goes x (xs ++ y ∷ ys) z
  together x [] y ys z g h = (g, h)
  together x (k ∷ ks) y ys z g h = (g.0, together k ks y ys z g.1 h)

  turned : (xs ys : List A) → IsRing goes (xs ++ ys) → IsRing goes (ys ++ xs)
  turned [] ys h = subst (IsRing goes) (sym (append-nil ys)) h
  turned (x ∷ xs) [] h = subst (IsRing goes) (append-nil (x ∷ xs)) h
  turned (x ∷ xs) (y ∷ ys) h = let s = apart x xs y ys x h in together y ys x xs y s.1 s.0

  turned_at : (at : ℕ) (xs : List A) → IsRing goes xs → IsRing goes (drop at xs ++ take at xs)
  turned_at at xs h = turned (take at xs) (drop at xs) (subst (IsRing goes) (sym (take-append-drop at xs)) h)

-- ---- one more

pub leads_on : {A : Type 0} (goes : A → A → Type 0) (x : A) (xs : List A) (y z : A) → Leads goes x xs y → goes y z → Leads goes x (xs ++ y ∷ []) z
leads_on goes x [] y z one next = (one, next)
leads_on goes x (v ∷ vs) y z is next = (is.0, leads_on goes v vs y z is.1 next)

-- ---- numbers

leads_from : (goes : ℕ → ℕ → Type 0) (x : ℕ) (xs : List ℕ) (y : ℕ)
    → ((i : ℕ) → i + 1 < length (x ∷ xs) → goes (slice_index (x ∷ xs) i) (slice_index (x ∷ xs) (i + 1)))
    → ((i : ℕ) → i + 1 ≡ length (x ∷ xs) → goes (slice_index (x ∷ xs) i) y) → Leads goes x xs y
leads_from goes x [] y each closes = closes 0 refl
leads_from goes x (z ∷ zs) y each closes = (
  each 0 (omega arith),
  leads_from goes z zs y
      (λ i l. subst (λ k. goes (slice_index (z ∷ zs) i) (slice_index (x ∷ z ∷ zs) k)) (later i) (each (suc i) (omega (arith, l))))
      (λ i l. closes (suc i) (omega (arith, l))),
)
  where
    later : (i : ℕ) → suc i + 1 ≡ suc (i + 1)
    later i = omega arith

pub ring_numbers : (goes : ℕ → ℕ → Type 0) (ns : List ℕ) → cycles.IsRing goes ns → IsRing goes ns
ring_numbers goes [] ring = absurd (omega (arith, ring.some))
ring_numbers goes (n ∷ ns) ring = leads_from goes n ns n ring.each ring.closes

-- ---- tasks

first_same : (a b : Option Task) (xs ys : List (Option Task)) → a ∷ xs ≡ b ∷ ys → a ≡ b
first_same a b xs ys e = cc

rest_same : (a b : Option Task) (xs ys : List (Option Task)) → a ∷ xs ≡ b ∷ ys → xs ≡ ys
rest_same a b xs ys e = cc

more_none : (a : Option Task) (xs : List (Option Task)) → a ∷ xs ≡ [] → ⊥
more_none a xs e = cc

none_more : (b : Option Task) (ys : List (Option Task)) → [] ≡ b ∷ ys → ⊥
none_more b ys e = cc

module _ (names : List Task) (goes : ℕ → ℕ → Type 0) (edge : Task → Task → Type 0)
    (each : (a b : ℕ) → goes a b → (t v : Task) → slice_get names a ≡ Some t → slice_get names b ≡ Some v → edge t v) where
  leads_named : (x : ℕ) (t : Task) (ns : List ℕ) (ts : List Task) (y : ℕ) (v : Task) → slice_get names x ≡ Some t → AreNumbersOf names ns ts
      → slice_get names y ≡ Some v → Leads goes x ns y → Leads edge t ts v
  leads_named x t [] [] y v from are to h = each x y h t v from to
  leads_named x t [] (k ∷ ks) y v from are to h = absurd (none_more (Some k) (map Some ks) are)
  leads_named x t (n ∷ ns) [] y v from are to h = absurd (more_none (slice_get names n) (map (slice_get names) ns) are)
  leads_named x t (n ∷ ns) (k ∷ ks) y v from are to h =
      let first = first_same (slice_get names n) (Some k) (map (slice_get names) ns) (map Some ks) are in (
        each x n h.0 t k from first,
        leads_named n k ns ks y v first (rest_same (slice_get names n) (Some k) (map (slice_get names) ns) (map Some ks) are) to h.1,
      )

  ring_named : (ns : List ℕ) (ts : List Task) → AreNumbersOf names ns ts → IsRing goes ns → IsRing edge ts
  ring_named [] ts are ring = absurd ring
  ring_named (n ∷ ns) [] are ring = absurd (more_none (slice_get names n) (map (slice_get names) ns) are)
  ring_named (n ∷ ns) (t ∷ ts) are ring =
      let first = first_same (slice_get names n) (Some t) (map (slice_get names) ns) (map Some ts) are in
      leads_named n t ns ts n t first (rest_same (slice_get names n) (Some t) (map (slice_get names) ns) (map Some ts) are) first ring

  pub ring_turned : (ns : List ℕ) (ts : List Task) → AreTurned names ns ts → IsCycle goes ns → IsRing edge ts
  ring_turned ns ts is cycle =
      subst (IsRing edge) (sym is.turns.is) (turned_at edge is.turns.at is.tasks (ring_named ns is.tasks is.named (ring_numbers goes ns cycle.ring)))
