-- A root that is begun, and a require, change marks of new tasks alone, and the row of the running one.
use Rattle.std.proofs.Common.{◌≡◌, ◌⊎◌, inl, inr, ℕ, ◌||◌, ◌<◌, Bool, true, false, List, [], ◌∷◌, length, refl, sym, ap, subst, ◌∙◌}
use Rattle.std.specs.Prelude.{slice_set, slice_index_or, Contains}
use Rattle.std.proofs.lemmas.List.{length-set, get_or-set_same, get_or-set_other}
use Rattle.std.proofs.lemmas.List.Elements.{Contains-append_left}
use Rattle.pie_graph.specs.declared.edges.TaskNo.{TaskNo}
use Rattle.pie_graph.specs.Rows.{Row, row_at, no_edges, Calls}
use Rattle.pie_union.specs.Requiring.{requiring}
use Rattle.pie_walk.specs.declared.marks.Mark.{Mark}
use Rattle.pie_walk.specs.declared.marks.Mark.TheVariants.{New, Visited, Runs, Settled}
use Rattle.pie_walk.specs.Marks.{mark_of, IsSettled}
use Rattle.pie_walk.specs.States.{WalkState, visiting, if_new, met, with_need}
use Rattle.pie_walk.specs.Standing.{Stands}
use Rattle.pie_model.proofs.Basics.{clash}
use Rattle.pie_core_laws.specs.Exact.{runs}
use Rattle.pie_core_laws.specs.Moving.{Moves}
use Rattle.pie_core_laws.proofs.Exactly as exactly

-- a task has its mark still, or is visited now and was new
abbrev MarkStays : WalkState → WalkState → ℕ → Type 0
MarkStays s after n =
    (mark_of after.marks n ≡ mark_of s.marks n) ⊎ ((mark_of s.marks n ≡ New) × (mark_of after.marks n ≡ Visited))

module _ (s after : WalkState) (many : length after.rows ≡ length s.rows) (looks : after.looks_out ≡ s.looks_out) (flags : after.scheduled ≡ s.scheduled)
    (marks : (n : ℕ) → MarkStays s after n) (rows : (n : ℕ) → runs (mark_of s.marks n) ≡ false → row_at after.rows n ≡ row_at s.rows n)
    (calls : (n k : ℕ) → Calls s.rows n k → Calls after.rows n k) where
  runs_same : (n : ℕ) → runs (mark_of after.marks n) ≡ runs (mark_of s.marks n)
  runs_same n = by (marks n)
    where
      by : MarkStays s after n → runs (mark_of after.marks n) ≡ runs (mark_of s.marks n)
      by (inl e) = ap runs e
      by (inr e) = ap runs e.1 ∙ ap runs (sym e.0)

  settled_before : (n : ℕ) → IsSettled after.marks n → IsSettled s.marks n
  settled_before n h = by (marks n)
    where
      no : Visited ≡ Settled → ⊥
      no e = cc

      by : MarkStays s after n → IsSettled s.marks n
      by (inl e) = sym e ∙ h
      by (inr e) = absurd (no (sym e.1 ∙ h))

  settled_after : (n : ℕ) → IsSettled s.marks n → IsSettled after.marks n
  settled_after n h = by (marks n)
    where
      no : New ≡ Settled → ⊥
      no e = cc

      by : MarkStays s after n → IsSettled after.marks n
      by (inl e) = e ∙ h
      by (inr e) = absurd (no (sym e.0 ∙ h))

  visit_moves : Moves s after
  visit_moves = record {
    as_many = many;
    looks = looks;
    busy = λ n.
        ap (λ (xs : List Bool). slice_index_or xs n false || runs (mark_of after.marks n)) flags
        ∙ ap (λ b. slice_index_or s.scheduled n false || b) (runs_same n);
    resting = λ n h. let q = sym (runs_same n) ∙ h in (q, rows n q);
    going = λ n h. inl (sym (runs_same n) ∙ h, calls n);
    settled = settled_after;
    ends = λ n h. inl (settled_before n h);
  }

visited_marks : (marks : List Mark) (k : ℕ) → k < length marks → mark_of marks k ≡ New → (n : ℕ)
    → (mark_of (slice_set marks k Visited) n ≡ mark_of marks n) ⊎ ((mark_of marks n ≡ New) × (mark_of (slice_set marks k Visited) n ≡ Visited))
visited_marks marks k l e n = by (exactly.same_or_not k n)
  where
    by : (n ≡ k) ⊎ (n ≡ k → ⊥)
        → (mark_of (slice_set marks k Visited) n ≡ mark_of marks n) ⊎ ((mark_of marks n ≡ New) × (mark_of (slice_set marks k Visited) n ≡ Visited))
    by (inl i) = inr (ap (mark_of marks) i ∙ e, ap (mark_of (slice_set marks k Visited)) i ∙ get_or-set_same marks k Visited New l)
    by (inr d) = inl (get_or-set_other marks k n Visited New d)

pub begins_move : (s : WalkState) (root : TaskNo) → Stands s → root.0 < length s.rows → Moves s (met s root)
begins_move s root w l = by (mark_of s.marks root.0) refl
  where
    stays : Moves s s
    stays = visit_moves s s refl refl refl (λ n. inl refl) (λ n h. refl) (λ n k c. c)

    by : (m : Mark) → mark_of s.marks root.0 ≡ m → Moves s (if_new m (visiting s root) s)
    by New e =
        visit_moves s (visiting s root) refl refl refl (visited_marks s.marks root.0 (subst (λ z. root.0 < z) (sym w.holds.marks_sized) l) e) (λ n h. refl)
        (λ n k c. c)
    by Visited e = stays
    by Runs e = stays
    by Settled e = stays

pub requires_move : (s : WalkState) (places : List ℕ) (from : ℕ) (to : TaskNo) → Stands s → runs (mark_of s.marks from) ≡ true → to.0 < length s.rows
    → Moves s (met (with_need s places from to.0) to)
requires_move s places from to w r l = by (mark_of s.marks to.0) refl
  where
    inside : from < length s.rows
    inside = subst (λ z. from < z) w.holds.marks_sized (exactly.runs_inside s.marks from r)

    rows : (n : ℕ) → runs (mark_of s.marks n) ≡ false
        → row_at (slice_set s.rows from (requiring (row_at s.rows from) to.0)) n ≡ row_at s.rows n
    rows n h =
        get_or-set_other s.rows from n (requiring (row_at s.rows from) to.0) no_edges
        (λ e. clash (runs (mark_of s.marks n)) (ap (λ z. runs (mark_of s.marks z)) e ∙ r) h)

    calls : (n k : ℕ) → Calls s.rows n k → Calls (slice_set s.rows from (requiring (row_at s.rows from) to.0)) n k
    calls n k c = at (exactly.same_or_not from n)
      where
        at : (n ≡ from) ⊎ (n ≡ from → ⊥) → Calls (slice_set s.rows from (requiring (row_at s.rows from) to.0)) n k
        at (inl e) =
            subst (λ (z : Row). Contains z.needs k)
            (sym (ap (row_at (slice_set s.rows from (requiring (row_at s.rows from) to.0))) e
            ∙ get_or-set_same s.rows from (requiring (row_at s.rows from) to.0) no_edges inside))
            (Contains-append_left (row_at s.rows from).needs (to.0 ∷ []) k (subst (λ z. Calls s.rows z k) e c))
        at (inr d) =
            subst (λ (z : Row). Contains z.needs k)
            (sym (get_or-set_other s.rows from n (requiring (row_at s.rows from) to.0) no_edges d)) c

    many : length (slice_set s.rows from (requiring (row_at s.rows from) to.0)) ≡ length s.rows
    many = length-set s.rows from (requiring (row_at s.rows from) to.0)

    stays : Moves s (with_need s places from to.0)
    stays = visit_moves s (with_need s places from to.0) many refl refl (λ n. inl refl) rows calls

    by : (m : Mark) → mark_of s.marks to.0 ≡ m → Moves s (if_new m (visiting (with_need s places from to.0) to) (with_need s places from to.0))
    by New e =
        visit_moves s (visiting (with_need s places from to.0) to) many refl refl
        (visited_marks s.marks to.0 (subst (λ z. to.0 < z) (sym w.holds.marks_sized) l) e) rows calls
    by Visited e = stays
    by Runs e = stays
    by Settled e = stays
