-- A way by required tasks, and the ring that a new edge makes of it.
use Rattle.std.proofs.Common.{◌≡◌, ◌⊎◌, ℕ, ◌<◌, ◌≤◌, ◌+◌, Bool, List, [], ◌∷◌, ◌++◌, length, get_or, refl, sym, ap, ◌∙◌, inl, inr, subst, arith}
use Rattle.std.specs.Prelude.{slice_index}
use Rattle.std.specs.List.{Contains}
use Rattle.std.proofs.lemmas.Bool.{cases_lt}
use Rattle.std.proofs.lemmas.List.{length_push, length-map, map-append, get_or_append_left, get_or_default, get_or-map}
use Rattle.std.proofs.Math.Seq.{get_or-append_seam}
use Rattle.pie_graph.specs.declared.edges.TaskNo.{TaskNo}
use Rattle.pie_graph.specs.Numbers.{numbers, IsMarked}
use Rattle.pie_graph.specs.Rows.{Row, Calls}
use Rattle.pie_graph.proofs.Among.{contains_here}
use Rattle.pie_reach.specs.inner.Reaches.{Leads, Reaches}
use Rattle.pie_reach.specs.inner.Reaches.Leads.{itself, step}
use Rattle.pie_reach.specs.inner.Walks.{IsClosure}
use Rattle.pie_reach.proofs.Meets.{alone}
use Rattle.pie_reach.proofs.WalkSteps.{turned}
use Rattle.pie_order.specs.Places.{PlacesAgree}
use Rattle.pie_order.specs.Cycles.{IsTrail, IsLeading}

-- nothing stands before the first task
pub leading_starts : (rows : List Row) (places : List ℕ) (start : ℕ) → IsLeading rows places start [] start
leading_starts rows places start = record {
  first = λ e. refl;
  begins = λ l. absurd (omega arith);
  each = λ i l. absurd (omega arith);
  on = λ i e. absurd (omega arith);
  falls = omega arith;
}

push_at : (ns : List ℕ) (n i : ℕ) → i < length ns → slice_index (ns ++ n ∷ []) i ≡ slice_index ns i
push_at ns n i l = get_or_append_left ns (n ∷ []) 0 i l

push_last : (ns : List ℕ) (n i : ℕ) → i ≡ length ns → slice_index (ns ++ n ∷ []) i ≡ n
push_last ns n i e = ap (slice_index (ns ++ n ∷ [])) e ∙ get_or-append_seam ns n [] 0

-- a step is taken to a task that stands earlier
pub leading_steps : (rows : List Row) (places : List ℕ) (start : ℕ) (ns : List ℕ) (at next : ℕ) → PlacesAgree rows places → IsLeading rows places start ns at
    → Calls rows at next → IsLeading rows places start (ns ++ at ∷ []) next
leading_steps rows places start ns at next agrees so calls =
    let longer = length_push ns at in
    record {
      first = λ e. absurd (omega (arith, e, longer));
      begins = λ l. elim (cases_lt 0 (length ns)) [
        | inl some ↦ push_at ns at 0 some ∙ so.begins some
        | inr empty ↦ push_last ns at 0 (omega (arith, empty)) ∙ so.first (omega (arith, empty))
      ];
      each = λ i l. elim (cases_lt (i + 1) (length ns)) [
        | inl within ↦ subst (λ (a : ℕ). Calls rows a (slice_index (ns ++ at ∷ []) (i + 1))) (sym (push_at ns at i (omega arith)))
            (subst (λ (b : ℕ). Calls rows (slice_index ns i) b) (sym (push_at ns at (i + 1) within)) (so.each i within))
        | inr past ↦
            let last : i + 1 ≡ length ns = omega (arith, past, l, longer) in
            subst (λ (a : ℕ). Calls rows a (slice_index (ns ++ at ∷ []) (i + 1))) (sym (push_at ns at i (omega (arith, last))))
            (subst (λ (b : ℕ). Calls rows (slice_index ns i) b) (sym (push_last ns at (i + 1) last)) (so.on i last))
      ];
      on = λ i e. subst (λ (a : ℕ). Calls rows a next) (sym (push_last ns at i (omega (arith, e, longer)))) calls;
      falls = omega (arith, so.falls, agrees.each at next calls, longer);
    }

-- the way ends at the task itself
pub leading_ends : (rows : List Row) (places : List ℕ) (start : ℕ) (ns : List ℕ) (at end : ℕ) → IsLeading rows places start ns at → at ≡ end
    → IsTrail rows start end (ns ++ at ∷ [])
leading_ends rows places start ns at end so is =
    let longer = length_push ns at in
    record {
      some = omega (arith, longer);
      begins = elim (cases_lt 0 (length ns)) [
        | inl some ↦ push_at ns at 0 some ∙ so.begins some
        | inr empty ↦ push_last ns at 0 (omega (arith, empty)) ∙ so.first (omega (arith, empty))
      ];
      each = λ i l. elim (cases_lt (i + 1) (length ns)) [
        | inl within ↦ subst (λ (a : ℕ). Calls rows a (slice_index (ns ++ at ∷ []) (i + 1))) (sym (push_at ns at i (omega arith)))
            (subst (λ (b : ℕ). Calls rows (slice_index ns i) b) (sym (push_at ns at (i + 1) within)) (so.each i within))
        | inr past ↦
            let last : i + 1 ≡ length ns = omega (arith, past, l, longer) in
            subst (λ (a : ℕ). Calls rows a (slice_index (ns ++ at ∷ []) (i + 1))) (sym (push_at ns at i (omega (arith, last))))
            (subst (λ (b : ℕ). Calls rows (slice_index ns i) b) (sym (push_last ns at (i + 1) last)) (so.on i last))
      ];
      ends = λ i e. push_last ns at i (omega (arith, e, longer)) ∙ is;
    }

-- a task that has a mark and isn't the end requires one that has a mark
next_marked : (rows : List Row) (end : ℕ) (marks : List Bool) (at : ℕ) → IsClosure (length rows) (λ a b. Calls rows b a) (end ∷ []) marks
    → Reaches rows at end → (at ≡ end) ⊎ ((b : ℕ) × Calls rows at b × IsMarked marks b)
next_marked rows end marks at closure (itself {a = c}) = inl refl
next_marked rows end marks at closure (step {a = x} {b = y} {c = z} first rest) =
    inr (y, first, closure.each y (end, contains_here end [], turned (λ a b. Calls rows b a) y end rest))

pub goes_on : (rows : List Row) (end : ℕ) (marks : List Bool) (at : ℕ) → IsClosure (length rows) (λ a b. Calls rows b a) (end ∷ []) marks → IsMarked marks at
    → (at ≡ end) ⊎ ((b : ℕ) × Calls rows at b × IsMarked marks b)
goes_on rows end marks at closure is =
    let led = closure.only at is in
    let way : Leads (λ a b. Calls rows b a) end at = subst (λ (s : ℕ). Leads (λ a b. Calls rows b a) s at) (sym (alone end led.0 led.1)) led.2 in
    next_marked rows end marks at closure (turned (Calls rows) end at way)

pub start_marked : (rows : List Row) (end start : ℕ) (marks : List Bool) → IsClosure (length rows) (λ a b. Calls rows b a) (end ∷ []) marks
    → Reaches rows start end → IsMarked marks start
start_marked rows end start marks closure reaches = closure.each start (end, contains_here end [], turned (λ a b. Calls rows b a) start end reaches)

-- one task more that has no mark
pub none_more : (tasks : List TaskNo) (marks : List Bool) (i : ℕ) (d : TaskNo) → i < length tasks → (IsMarked marks (get_or tasks i d).0 → ⊥)
    → ((j : ℕ) → j < i → IsMarked marks (slice_index (numbers tasks) j) → ⊥) → (j : ℕ) → j < i + 1 → IsMarked marks (slice_index (numbers tasks) j) → ⊥
none_more tasks marks i d l unmarked none j m is = elim (cases_lt j i) [
  | inl before ↦ none j before is
  | inr now ↦
      let same : j ≡ i = omega (arith, now, m) in
      unmarked (subst (λ (n : ℕ). IsMarked marks n) (ap (slice_index (numbers tasks)) same ∙ get_or-map (λ (t : TaskNo). t.0) tasks i d 0 l) is)
]

pub none_at_all : (tasks : List TaskNo) (marks : List Bool) (i : ℕ) → length tasks ≤ i
    → ((j : ℕ) → j < i → IsMarked marks (slice_index (numbers tasks) j) → ⊥) → (n : ℕ) → Contains (numbers tasks) n → IsMarked marks n → ⊥
none_at_all tasks marks i l none n h is =
    none h.0 (omega (arith, h.1, length-map tasks (λ (t : TaskNo). t.0), l))
    (subst (λ (k : ℕ). IsMarked marks k) (sym (get_or_default (numbers tasks) h.0 0 n h.1 ∙ h.2)) is)

pub number_read : (tasks : List TaskNo) (n : ℕ) (t : TaskNo) → n < length tasks → t ≡ get_or tasks n t → slice_index (numbers tasks) n ≡ t.0
number_read tasks n t l e = get_or-map (λ (t : TaskNo). t.0) tasks n t 0 l ∙ ap (λ (t : TaskNo). t.0) (sym e)

pub pushed_number : (old new : List TaskNo) (t : TaskNo) → new ≡ old ++ t ∷ [] → numbers new ≡ numbers old ++ t.0 ∷ []
pushed_number old new t e = ap numbers e ∙ map-append (λ (t : TaskNo). t.0) old (t ∷ [])
