-- The heights of recorded tasks are those of their evaluations.
use Rattle.std.proofs.Common.{ℕ, zero, suc, ◌+◌, ◌≤◌, ◌≡◌, max, true, false, Option, List, [], ◌∷◌, ◌⊎◌, inl, inr, sym, ◌∙◌, ap, subst, refl, arith}
use Rattle.pie_model.specs.Paths.{among}
use Rattle.pie_model.specs.Tasks.{Task}
use Rattle.pie_model.specs.Trees.{Node, node, Trace, ends, looks, lists, writes, needs, outcome_of, trace_of, levels, levels_below, required_by}
use Rattle.pie_model.specs.Evaluation.{World, Project, evaluation}
use Rattle.pie_model.specs.Records.{Record, record_of, needs_of}
use Rattle.pie_model.specs.inner.Consistent.{IsRecorded}
use Rattle.pie_model.specs.Built.{height}
use Rattle.pie_model.proofs.Basics.{clash, among_here, among_there, among_split}
use Rattle.pie_model.proofs.Kids.{Kids}
use Rattle.pie_model.proofs.Rooms.{IsOwn}
use Rattle.pie_model.proofs.Ways.{kids_own, needs_of-observations}
use Rattle.pie_step_laws.specs.Table.{IsTable}
use Rattle.pie_step_laws.specs.Rows.{over, AreHeights}
use Rattle.pie_step_laws.proofs.Tables.{done_plain}

-- one more than the greatest of these heights, and nothing without one
abbrev above_all : (Task → ℕ) → List Task → ℕ
above_all h [] = 0
above_all h (t ∷ ts) = max (suc (h t)) (above_all h ts)

over_is : (h : Task → ℕ) (ts : List Task) (n : ℕ) → over h ts n ≡ max n (above_all h ts)
over_is h [] n = none n
  where
    none : (a : ℕ) → a ≡ max a 0
    none a = omega arith
over_is h (t ∷ ts) n = over_is h ts (max n (h t + 1)) ∙ more n (h t) (above_all h ts)
  where
    more : (a b c : ℕ) → max (max a (b + 1)) c ≡ max a (max (suc b) c)
    more a b c = omega arith

levels-height : (n : Node) → levels n ≡ suc (height n)
levels-height (node t k) = refl

module _ (w : World) (P : Project) (h : Task → ℕ) where
  trace_height : (k : Trace) → Kids (IsOwn w P) k → ((u : Task) → among u (required_by k) ≡ true → h u ≡ height (evaluation w P u))
      → above_all h (required_by k) ≡ levels_below k
  trace_height (ends e) q H = refl
  trace_height (looks l p s k) q H = trace_height k q H
  trace_height (lists d es k) q H = trace_height k q H
  trace_height (writes p b k) q H = trace_height k q H
  trace_height (needs r u n k) q H =
      ap (λ z. max (suc z) (above_all h (required_by k))) (H u (among_here u (required_by k)) ∙ ap height (sym q.0.0))
      ∙ ap (λ z. max z (above_all h (required_by k))) (sym (levels-height n))
      ∙ ap (max (levels n)) (trace_height k q.1 (λ v i. H v (among_there v u (required_by k) i)))

  -- a required task has fewer levels
  kid_levels : (u : Task) (k : Trace) → Kids (IsOwn w P) k → among u (required_by k) ≡ true → levels (evaluation w P u) ≤ levels_below k
  kid_levels u (ends e) q i = clash false i refl
  kid_levels u (looks l p s k) q i = kid_levels u k q i
  kid_levels u (lists d es k) q i = kid_levels u k q i
  kid_levels u (writes p b k) q i = kid_levels u k q i
  kid_levels u (needs r v n k) q i = go (among_split u v (required_by k) i) (kid_levels u k q.1)
    where
      here : (a b c : ℕ) → a ≡ b → b ≤ max a c
      here a b c e = omega arith

      there : (a b c : ℕ) → b ≤ c → b ≤ max a c
      there a b c e = omega arith

      go : (u ≡ v) ⊎ (among u (required_by k) ≡ true) → (among u (required_by k) ≡ true → levels (evaluation w P u) ≤ levels_below k)
          → levels (evaluation w P u) ≤ max (levels n) (levels_below k)
      go (inl e) f = here (levels n) (levels (evaluation w P u)) (levels_below k) (ap levels q.0.0 ∙ ap (λ z. levels (evaluation w P z)) (sym e))
      go (inr j) f = there (levels n) (levels (evaluation w P u)) (levels_below k) (f j)

  module _ (R : Task → Option Record) (names : List Task) (T : IsTable w P R names) (heights : AreHeights R h) where
    height_with : (m : ℕ) (t : Task) → IsRecorded R t → levels (evaluation w P t) ≤ m → h t ≡ height (evaluation w P t)
    height_with zero t k le = absurd (none (levels (evaluation w P t)) (height (evaluation w P t)) (levels-height (evaluation w P t)) le)
      where
        none : (a b : ℕ) → a ≡ suc b → a ≤ 0 → ⊥
        none a b e q = omega arith
    height_with (suc m) t k le =
        heights t k.kept k.is
        ∙ over_is h (needs_of k.kept.observations) 0
        ∙ least (above_all h (needs_of k.kept.observations))
        ∙ ap (λ z. above_all h (needs_of z.observations)) right
        ∙ ap (above_all h) (needs_of-observations w (trace_of (evaluation w P t)))
        ∙ trace_height (trace_of (evaluation w P t)) kids (λ u i. height_with m u (known u i) (lower u i))
      where
        least : (a : ℕ) → max 0 a ≡ a
        least a = omega arith

        right : k.kept ≡ record_of w (evaluation w P t)
        right = T.right t k.kept k.is

        kids : Kids (IsOwn w P) (trace_of (evaluation w P t))
        kids = kids_own w P t (done_plain (outcome_of (evaluation w P t)) (T.done t k.kept k.is))

        known : (u : Task) → among u (required_by (trace_of (evaluation w P t))) ≡ true → IsRecorded R u
        known u i =
            T.closed t k.kept u k.is
            (subst (λ z. among u (needs_of z.observations) ≡ true) (sym right)
            (subst (λ z. among u z ≡ true) (sym (needs_of-observations w (trace_of (evaluation w P t)))) i))

        down : (a b c d : ℕ) → a ≤ b → c ≡ suc b → c ≤ suc d → a ≤ d
        down a b c d p q r = omega arith

        lower : (u : Task) → among u (required_by (trace_of (evaluation w P t))) ≡ true → levels (evaluation w P u) ≤ m
        lower u i = down (levels (evaluation w P u)) (height (evaluation w P t)) (levels (evaluation w P t)) m
            (kid_levels u (trace_of (evaluation w P t)) kids i) (levels-height (evaluation w P t)) le

    pub height_is : (t : Task) → IsRecorded R t → h t ≡ height (evaluation w P t)
    height_is t k = height_with (levels (evaluation w P t)) t k (itself (levels (evaluation w P t)))
      where
        itself : (a : ℕ) → a ≤ a
        itself a = omega arith
