-- From writers that are reached to what is seen.
use Rattle.std.proofs.Common.{◌≡◌, ℕ, ◌<◌, Bool, true, false, ◌||◌, List, [], ◌∷◌, length, get_or, refl, sym, ap, ◌∙◌, subst, inl, inr, eqb, arith}
use Rattle.std.specs.Prelude.{IsTrue, ◌↔◌}
use Rattle.std.specs.List.{Contains}
use Rattle.std.proofs.lemmas.Bool.{cases_lt}
use Rattle.std.proofs.lemmas.Bool.Decides.{Decides-eqb}
use Rattle.std.proofs.lemmas.List.{get_or_past, get_or-map, length-map}
use Rattle.std.proofs.lemmas.Slice.Eq.{slice_eq-Decides}
use Rattle.pie_base.specs.Path.{same_text}
use Rattle.pie_graph.specs.declared.edges.TaskNo.{TaskNo}
use Rattle.pie_graph.specs.Numbers.{numbers, AllBelow, Exactly}
use Rattle.pie_graph.specs.Rows.{Row, no_edges, Calls, Writes}
use Rattle.pie_graph.proofs.Among.{contains_here, contains_later, contains_cases}
use Rattle.pie_reach.specs.inner.Reaches.{ReachedFrom}
use Rattle.pie_reach.specs.inner.Walks.{IsClosure}
use Rattle.pie_reach.proofs.WalkSteps.{all_below}
use Rattle.pie_view.specs.declared.seen.Seen.{Seen}
use Rattle.pie_view.specs.declared.seen.Seen.TheVariants.{Absent}
use Rattle.pie_view.specs.Seen.{IsOwn, has_path, IsOnly, Marked, Reached, Visible}
use Rattle.pie_view.proofs.Choosing.{only_same}

-- ---- own writes

same_is : (a b : List ℕ) → same_text a b ≡ true → a ≡ b
same_is a b h = (slice_eq-Decides {E = eqb} Decides-eqb a b (same_text a b) refl).0 h

same_refl : (a : List ℕ) → same_text a a ≡ true
same_refl a = (slice_eq-Decides {E = eqb} Decides-eqb a a (same_text a a) refl).1 refl

own_here : (w : List ℕ × List ℕ) (ws : List (List ℕ × List ℕ)) (path : List ℕ) → w.0 ≡ path → IsOwn (w ∷ ws) path
own_here w ws path e = (w.1, subst (λ (p : List ℕ). Contains (w ∷ ws) (p, w.1)) e (contains_here w ws))

own_by : (w : List ℕ × List ℕ) (ws : List (List ℕ × List ℕ)) (path : List ℕ) (b : Bool) → same_text w.0 path ≡ b
    → (has_path ws path ≡ true → IsOwn ws path) → b || has_path ws path ≡ true → IsOwn (w ∷ ws) path
own_by w ws path true e later h = own_here w ws path (same_is w.0 path e)
own_by w ws path false e later h = let found = later h in (found.0, contains_later w (path, found.0) ws found.1)

pub has_own : (ws : List (List ℕ × List ℕ)) (path : List ℕ) → has_path ws path ≡ true → IsOwn ws path
has_own [] path h = absurd (cc)
has_own (w ∷ ws) path h = own_by w ws path (same_text w.0 path) refl (has_own ws path) h

pub own_has : (ws : List (List ℕ × List ℕ)) (path : List ℕ) → IsOwn ws path → has_path ws path ≡ true
own_has [] path h = absurd (omega (arith, h.1.1))
own_has (w ∷ ws) path h =
    elim (contains_cases w (path, h.0) ws h.1) [
      | inl e ↦ rw (ap (λ (v : List ℕ × List ℕ). same_text v.0 path) e ∙ same_refl path) refl
      | inr later ↦ elim (same_text w.0 path) as (λ b. b || has_path ws path ≡ true) [ true ↦ refl | false ↦ own_has ws path (h.0, later) ]
    ]

-- ---- writers

writer_below : (rows : List Row) (k : ℕ) (path : List ℕ) → Writes rows k path → k < length rows
writer_below rows k path h =
    elim (cases_lt k (length rows)) [
      | inl l ↦ l
      | inr past ↦ absurd (omega (arith, (subst (λ (row : Row). Contains row.writes path) (get_or_past rows k no_edges past) h).1))
    ]

pub writers_below : (rows : List Row) (path : List ℕ) (found : List ℕ) → Exactly (λ k. Writes rows k path) found → AllBelow (length rows) found
writers_below rows path found x = all_below (length rows) found (λ k h. writer_below rows k path (x.only k h))

pub seen_by_all : (rows : List Row) (required : List ℕ) (path : List ℕ) (writers : List ℕ) (seen : Seen) → Exactly (λ k. Writes rows k path) writers
    → IsOnly (Reached rows required writers) seen → IsOnly (Visible rows required path) seen
seen_by_all rows required path writers seen x h =
    only_same (Reached rows required writers) (Visible rows required path) seen (λ k r. (r.1, x.only k r.0)) (λ k v. (x.each k v.1, v.0)) h

pub seen_by_marks : (rows : List Row) (required writers : List ℕ) (marks : List Bool) (seen : Seen) → IsClosure (length rows) (Calls rows) required marks
    → IsOnly (Marked writers marks) seen → IsOnly (Reached rows required writers) seen
seen_by_marks rows required writers marks seen closed h =
    only_same (Marked writers marks) (Reached rows required writers) seen (λ k m. (m.0, closed.only k m.1)) (λ k r. (r.0, closed.each k r.1)) h

pub one_unmet : (rows : List Row) (required : List ℕ) (writers : List TaskNo) (one d : TaskNo) (there : Bool) → length writers < 2
    → one ≡ get_or writers 0 d → there ≡ false → IsTrue there ↔ ReachedFrom rows required one.0
    → IsOnly (Reached rows required (numbers writers)) Absent
one_unmet rows required writers one d there few is off h k r =
    let many : length (numbers writers) ≡ length writers = length-map writers (λ (t : TaskNo). t.0) in
    let first : r.0.0 ≡ 0 = omega (arith, r.0.1, many, few) in
    let at : get_or writers 0 d ≡ get_or writers r.0.0 d = ap (λ (i : ℕ). get_or writers i d) (sym first) in
    let same : one.0 ≡ k =
    ap (λ (t : TaskNo). t.0) (is ∙ at) ∙ sym (get_or-map (λ (t : TaskNo). t.0) writers r.0.0 d k (omega (arith, r.0.1, many))) ∙ r.0.2 in
    absurd (let on : there ≡ true = h.1 (subst (ReachedFrom rows required) (sym same) r.1) in (cc))
