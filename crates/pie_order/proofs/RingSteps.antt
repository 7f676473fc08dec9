-- A way whose end goes back to its start is a ring, and a ring that is turned stays one.
use Rattle.std.proofs.Common.{◌≡◌, ◌⊎◌, ℕ, zero, suc, ◌<◌, ◌≤◌, ◌+◌, ◌-◌, List, ◌++◌, length, take, drop, refl, sym, ap, ◌∙◌, inl, inr, subst, arith}
use Rattle.std.specs.Prelude.{slice_index}
use Rattle.std.proofs.lemmas.Bool.{cases_lt}
use Rattle.std.proofs.lemmas.List.{length-append, length-map, map-append, drop-map, take-map, length-take-le, length-drop, get_or-take, get_or-drop}
use Rattle.std.proofs.lemmas.List.{get_or-append-add, get_or_append_left}
use Rattle.pie_graph.specs.declared.edges.TaskNo.{TaskNo}
use Rattle.pie_graph.specs.Numbers.{numbers}
use Rattle.pie_graph.specs.Rows.{Row}
use Rattle.pie_order.specs.Places.{PlacesAgree}
use Rattle.pie_order.specs.Cycles.{WouldCall, IsRing, IsLeastAt, IsCycle, IsTrail}

-- so many steps on, a way stands so many places earlier
trail_falls : (rows : List Row) (places : List ℕ) (start end : ℕ) (ns : List ℕ) → PlacesAgree rows places → IsTrail rows start end ns → (d i : ℕ)
    → d + i < length ns → slice_index places (slice_index ns (d + i)) + d ≤ slice_index places (slice_index ns i)
trail_falls rows places start end ns agrees trail zero i l =
    let same : 0 + i ≡ i = omega arith in
    omega (arith, ap (λ j. slice_index places (slice_index ns j)) same)
trail_falls rows places start end ns agrees trail (suc d) i l =
    let same : suc d + i ≡ d + i + 1 = omega arith in
    let e : slice_index places (slice_index ns (suc d + i)) ≡ slice_index places (slice_index ns (d + i + 1)) = ap
    (λ j. slice_index places (slice_index ns j)) same in
    let falls : slice_index places (slice_index ns (d + i + 1)) < slice_index places (slice_index ns (d + i)) = agrees.each (slice_index ns (d + i))
    (slice_index ns (d + i + 1)) (trail.each (d + i) (omega (arith, l))) in
    omega (arith, e, falls, trail_falls rows places start end ns agrees trail d i (omega (arith, l)))

apart : (rows : List Row) (places : List ℕ) (start end : ℕ) (ns : List ℕ) → PlacesAgree rows places → IsTrail rows start end ns → (i j : ℕ) → i < j → j < length ns
    → slice_index ns i ≡ slice_index ns j → i ≡ j
apart rows places start end ns agrees trail i j l m e =
    let same : j - i + i ≡ j = omega arith in
    let there : slice_index places (slice_index ns (j - i + i)) ≡ slice_index places (slice_index ns j) = ap
    (λ k. slice_index places (slice_index ns k)) same in
    absurd (omega (arith, trail_falls rows places start end ns agrees trail (j - i) i (omega (arith, m)), there, ap (slice_index places) e, l))

pub trail_ring : (rows : List Row) (places : List ℕ) (from to : ℕ) (ns : List ℕ) → PlacesAgree rows places → IsTrail rows to from ns
    → IsRing (WouldCall rows from to) ns
trail_ring rows places from to ns agrees trail = record {
  some = trail.some;
  each = λ i l. inl (trail.each i l);
  closes = λ i e. inr (trail.ends i e, trail.begins);
  once = λ i j l m e. elim (cases_lt i j) [
    | inl up ↦ apart rows places to from ns agrees trail i j up m e
    | inr down ↦ elim (cases_lt j i) [
      | inl less ↦ sym (apart rows places to from ns agrees trail j i less l (sym e))
      | inr same ↦ omega (arith, down, same)
    ]
  ];
}

turned_front : (ns : List ℕ) (at i : ℕ) → at ≤ length ns → at + i < length ns → slice_index (drop at ns ++ take at ns) i ≡ slice_index ns (at + i)
turned_front ns at i l m =
    get_or_append_left (drop at ns) (take at ns) 0 i (omega (arith, length-drop at ns, m)) ∙ get_or-drop at ns i 0

turned_back : (ns : List ℕ) (at i : ℕ) → at ≤ length ns → i < at → slice_index (drop at ns ++ take at ns) (length ns - at + i) ≡ slice_index ns i
turned_back ns at i l m =
    ap (λ k. slice_index (drop at ns ++ take at ns) (k + i)) (sym (length-drop at ns)) ∙ get_or-append-add (drop at ns) (take at ns) i 0
    ∙ get_or-take at ns i 0 m

turned_length : (ns : List ℕ) (at : ℕ) → at ≤ length ns → length (drop at ns ++ take at ns) ≡ length ns
turned_length ns at l = omega (arith, length-append (drop at ns) (take at ns), length-drop at ns, length-take-le at ns l)

-- where a place was before the turn
abbrev Place : ℕ → ℕ → ℕ → ℕ → Type 0
Place many at i a = ((i + at < many) × (a ≡ i + at)) ⊎ ((many ≤ i + at) × (a + many ≡ i + at))

-- the next place round the ring
abbrev Next : ℕ → ℕ → ℕ → Type 0
Next many i j = ((j ≡ i + 1) × (j < many)) ⊎ ((i + 1 ≡ many) × (j ≡ 0))

-- where each place of a turned list was before
record WasAt (ns : List ℕ) (at i was : ℕ) : Type 0 where
  pub within : was < length ns
  pub same : slice_index (drop at ns ++ take at ns) i ≡ slice_index ns was
  pub place : Place (length ns) at i was

was_at : (ns : List ℕ) (at i : ℕ) → at < length ns → i < length ns → (was : ℕ) × WasAt ns at i was
was_at ns at i l m = elim (cases_lt (i + at) (length ns)) [
  | inl front ↦ (
    i + at,
    record {
      within = front;
      same = turned_front ns at i (omega (arith, l)) (omega (arith, front)) ∙ ap (slice_index ns) (let e : at + i ≡ i + at = omega arith in e);
      place = inl (front, refl);
    },
  )
  | inr back ↦
      let e : i ≡ length ns - at + (i + at - length ns) = omega (arith, l, back) in (
        i + at - length ns,
        record {
          within = omega (arith, l, m, back);
          same = ap (slice_index (drop at ns ++ take at ns)) e ∙ turned_back ns at (i + at - length ns) (omega (arith, l)) (omega (arith, m, l));
          place = inr (back, omega (arith, back));
        },
      )
]

place_after : (many at i j a b : ℕ) → at < many → Next many i j → Place many at i a → Place many at j b → i < many → b < many → a + 1 < many → b ≡ a + 1
place_after many at i j a b l (inl n) (inl p) (inl q) m o w = omega (arith, n.0, p.1, q.1)
place_after many at i j a b l (inl n) (inl p) (inr q) m o w = absurd (omega (arith, n.0, p.0, p.1, q.0, q.1, w))
place_after many at i j a b l (inl n) (inr p) (inl q) m o w = absurd (omega (arith, n.0, p.0, q.0))
place_after many at i j a b l (inl n) (inr p) (inr q) m o w = omega (arith, n.0, p.1, q.1)
place_after many at i j a b l (inr n) (inl p) (inl q) m o w = omega (arith, n.0, n.1, p.0, p.1, q.1)
place_after many at i j a b l (inr n) (inl p) (inr q) m o w = absurd (omega (arith, n.1, q.0, l))
place_after many at i j a b l (inr n) (inr p) (inl q) m o w = omega (arith, n.0, n.1, p.1, q.1)
place_after many at i j a b l (inr n) (inr p) (inr q) m o w = absurd (omega (arith, n.1, q.0, l))

place_last : (many at i j a b : ℕ) → at < many → Next many i j → Place many at i a → Place many at j b → i < many → b < many → many ≤ a + 1 → (a + 1 ≡ many)
    × (b ≡ 0)
place_last many at i j a b l (inl n) (inl p) (inl q) m o w = absurd (omega (arith, n.0, p.1, q.0, w))
place_last many at i j a b l (inl n) (inl p) (inr q) m o w = (omega (arith, p.0, p.1, w), omega (arith, n.0, p.0, p.1, q.1, w))
place_last many at i j a b l (inl n) (inr p) (inl q) m o w = absurd (omega (arith, n.0, p.0, q.0))
place_last many at i j a b l (inl n) (inr p) (inr q) m o w = absurd (omega (arith, n.0, n.1, p.1, l, w))
place_last many at i j a b l (inr n) (inl p) (inl q) m o w = (omega (arith, p.0, p.1, w), omega (arith, n.0, n.1, p.0, p.1, q.1, w))
place_last many at i j a b l (inr n) (inl p) (inr q) m o w = absurd (omega (arith, n.1, q.0, l))
place_last many at i j a b l (inr n) (inr p) (inl q) m o w = absurd (omega (arith, n.0, p.1, l, w))
place_last many at i j a b l (inr n) (inr p) (inr q) m o w = absurd (omega (arith, n.1, q.0, l))

first_place : (many at z : ℕ) → at < many → Place many at 0 z → z ≡ at
first_place many at z l (inl p) = omega (arith, p.1)
first_place many at z l (inr p) = absurd (omega (arith, p.0, l))

same_place : (many at i j a b : ℕ) → Place many at i a → Place many at j b → i < many → j < many → a ≡ b → i ≡ j
same_place many at i j a b (inl p) (inl q) m n e = omega (arith, p.1, q.1, e)
same_place many at i j a b (inl p) (inr q) m n e = absurd (omega (arith, p.0, p.1, q.0, q.1, e, m, n))
same_place many at i j a b (inr p) (inl q) m n e = absurd (omega (arith, p.0, p.1, q.0, q.1, e, m, n))
same_place many at i j a b (inr p) (inr q) m n e = omega (arith, p.1, q.1, e)

step_from : (goes : ℕ → ℕ → Type 0) (a b c d : ℕ) → a ≡ c → b ≡ d → goes c d → goes a b
step_from goes a b c d e f g = subst (λ (x : ℕ). goes x b) (sym e) (subst (λ (y : ℕ). goes c y) (sym f) g)

-- from one place of a ring to the next, or from the last to the first
ring_step : (goes : ℕ → ℕ → Type 0) (ns : List ℕ) → IsRing goes ns → (i j : ℕ) → i < length ns → Next (length ns) i j
    → goes (slice_index ns i) (slice_index ns j)
ring_step goes ns ring i j l (inl (e, m)) = step_from goes _ _ (slice_index ns i) (slice_index ns (i + 1)) refl (ap (slice_index ns) e)
    (ring.each i (omega (arith, e, m)))
ring_step goes ns ring i j l (inr (e, z)) = step_from goes _ _ (slice_index ns i) (slice_index ns 0) refl (ap (slice_index ns) z) (ring.closes i e)

next_place : (many at i j a b : ℕ) → at < many → Next many i j → Place many at i a → Place many at j b → i < many → b < many → Next many a b
next_place many at i j a b l next p q m n = elim (cases_lt (a + 1) many) [
  | inl within ↦ inl (place_after many at i j a b l next p q m n within, n)
  | inr last ↦ inr (place_last many at i j a b l next p q m n last)
]

pub turned_cycle : (goes : ℕ → ℕ → Type 0) (ns : List ℕ) (at : ℕ) → at < length ns → IsRing goes ns → IsLeastAt ns at → IsCycle goes (drop at ns ++ take at ns)
turned_cycle goes ns at l ring least =
    let longs = turned_length ns at (omega (arith, l)) in
    let step : (i j : ℕ) → i < length ns → j < length ns → Next (length ns) i j
    → goes (slice_index (drop at ns ++ take at ns) i) (slice_index (drop at ns ++ take at ns) j) =
    λ i j m n next.
    let a = was_at ns at i l m in
    let b = was_at ns at j l n in
    step_from goes _ _ (slice_index ns a.0) (slice_index ns b.0) a.1.same b.1.same
    (ring_step goes ns ring a.0 b.0 a.1.within (next_place (length ns) at i j a.0 b.0 l next a.1.place b.1.place m b.1.within)) in
    record {
      ring = record {
        some = omega (arith, longs, l);
        each = λ i m. step i (i + 1) (omega (arith, m, longs)) (omega (arith, m, longs)) (inl (refl, omega (arith, m, longs)));
        closes = λ i e. step i 0 (omega (arith, e, longs)) (omega (arith, l)) (inr (e ∙ longs, refl));
        once = λ i j m n e.
            let a = was_at ns at i l (omega (arith, m, longs)) in
            let b = was_at ns at j l (omega (arith, n, longs)) in
            same_place (length ns) at i j a.0 b.0 a.1.place b.1.place (omega (arith, m, longs)) (omega (arith, n, longs))
            (ring.once a.0 b.0 a.1.within b.1.within (sym a.1.same ∙ e ∙ b.1.same));
      };
      least = λ i m.
          let a = was_at ns at i l (omega (arith, m, longs)) in
          let z = was_at ns at 0 l (omega (arith, l)) in
          let e : z.0 ≡ at = first_place (length ns) at z.0 l z.1.place in
          omega (arith, a.1.same, z.1.same, ap (slice_index ns) e, least a.0 a.1.within);
    }

-- a way that is turned to its least task is the cycle that the edge closes
pub cycle_made : (rows : List Row) (places : List ℕ) (from to : ℕ) (trail first second turned : List TaskNo) (at : ℕ) → PlacesAgree rows places
    → IsTrail rows to from (numbers trail) → first ≡ trail → second ≡ trail → at < length first → IsLeastAt (numbers first) at
    → turned ≡ drop at second ++ take at second → IsCycle (WouldCall rows from to) (numbers turned)
cycle_made rows places from to trail first second turned at agrees is e f l least g =
    let there : numbers turned ≡ drop at (numbers trail) ++ take at (numbers trail) =
    ap numbers (g ∙ ap (λ (ts : List TaskNo). drop at ts ++ take at ts) f) ∙ map-append (λ (t : TaskNo). t.0) (drop at trail) (take at trail)
    ∙ ap (λ (ns : List ℕ). ns ++ numbers (take at trail)) (sym (drop-map (λ (t : TaskNo). t.0) at trail))
    ∙ ap (λ (ns : List ℕ). drop at (numbers trail) ++ ns) (sym (take-map (λ (t : TaskNo). t.0) at trail)) in
    subst (λ (ns : List ℕ). IsCycle (WouldCall rows from to) ns) (sym there)
    (turned_cycle (WouldCall rows from to) (numbers trail) at (omega (arith, l, ap length e, length-map trail (λ (t : TaskNo). t.0)))
    (trail_ring rows places from to (numbers trail) agrees is)
    (subst (λ (ts : List TaskNo). IsLeastAt (numbers ts) at) e least))
