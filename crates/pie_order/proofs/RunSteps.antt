-- Tasks get places one after another.
use Rattle.std.proofs.Common.{◌≡◌, ℕ, ◌<◌, ◌≤◌, ◌+◌, List, [], ◌∷◌, ◌++◌, length, get_or, set, refl, sym, ap, ◌∙◌, subst, inl, inr, arith, length-set}
use Rattle.std.specs.Prelude.{slice_index}
use Rattle.std.specs.List.{Contains}
use Rattle.std.proofs.lemmas.Bool.{cases_lt}
use Rattle.std.proofs.lemmas.Bool.Decides.{eqb_tells}
use Rattle.std.proofs.lemmas.List.{get_or-set_same, get_or-set_other, get_or_default, get_or_append_left, length_push, length-map}
use Rattle.std.proofs.lemmas.List.Elements.{Contains-get_or}
use Rattle.std.specs.List.Sorted.{IsNonDecreasingBy}
use Rattle.std.proofs.Math.ListN as at
use Rattle.std.proofs.Math.Seq.{get_or-append_seam}
use Rattle.pie_graph.specs.declared.edges.TaskNo.{TaskNo}
use Rattle.pie_graph.specs.Numbers.{numbers, AllBelow}
use Rattle.pie_order.specs.Runs.{AreInOrder, IsRun, IsRunning, IsSpan}

pub run_starts : (tasks : List ℕ) (first : ℕ) (old : List ℕ) → IsRunning tasks first 0 old old
run_starts tasks first old = record {
  sized = refl;
  stays = λ n h. refl;
  placed = λ j l. absurd (omega arith);
}

pub run_steps : (tasks : List ℕ) (first i : ℕ) (old now : List ℕ) → slice_index tasks i < length old → IsRunning tasks first i old now
    → IsRunning tasks first (i + 1) old (set now (slice_index tasks i) (first + i))
run_steps tasks first i old now inside running =
    let t : ℕ = slice_index tasks i in
    let there : t < length now = omega (arith, running.sized, inside) in
    record {
      sized = length-set now t (first + i) ∙ running.sized;
      stays = λ n h. get_or-set_other now t n (first + i) 0 (λ e. h i (omega arith) (sym e)) ∙ running.stays n (λ j l e. h j (omega (arith, l)) e);
      placed = λ j l. elim (eqb_tells (slice_index tasks j) t) [
        | inl same ↦ (i, omega arith, sym same.1, ap (slice_index (set now t (first + i))) same.1 ∙ get_or-set_same now t (first + i) 0 there)
        | inr other ↦ elim (cases_lt j i) [
          | inl before ↦
              let w = running.placed j before in
              (w.0, omega (arith, w.1), w.2, get_or-set_other now t (slice_index tasks j) (first + i) 0 other.1 ∙ w.3)
          | inr here ↦ let same : j ≡ i = omega (arith, here, l) in absurd (other.1 (ap (slice_index tasks) same))
        ]
      ];
    }

index_is : (ns : List ℕ) (a : ℕ) (h : Contains ns a) → slice_index ns h.0 ≡ a
index_is ns a h = get_or_default ns h.0 0 a h.1 ∙ h.2

-- the place in the list that counts for a task
abbrev Counts : List ℕ → ℕ → List ℕ → ℕ → Type 0
Counts tasks first now n = (k : ℕ) × (k < length tasks) × (slice_index tasks k ≡ n) × (slice_index now n ≡ first + k)

counts : (tasks : List ℕ) (first i : ℕ) (old now : List ℕ) → length tasks ≤ i → i ≤ length tasks → IsRunning tasks first i old now → (n : ℕ)
    → Contains tasks n → Counts tasks first now n
counts tasks first i old now all within running n h =
    let e : slice_index tasks h.0 ≡ n = index_is tasks n h in
    let w = running.placed h.0 (omega (arith, h.1, all)) in
    (w.0, omega (arith, w.1, within), w.2 ∙ e, ap (slice_index now) (sym e) ∙ w.3)

pub run_ends : (tasks : List ℕ) (first i : ℕ) (old now : List ℕ) → AreInOrder old tasks → length tasks ≤ i → i ≤ length tasks
    → IsRunning tasks first i old now → IsRun tasks first old now
run_ends tasks first i old now order all within running =
    let at = counts tasks first i old now all within running in
    record {
      sized = running.sized;
      stays = λ n h. running.stays n (λ j l e. h (subst (Contains tasks) e (Contains-get_or tasks j 0 (omega (arith, l, within)))));
      from = λ n h. let w = at n h in omega (arith, w.3);
      under = λ n h. let w = at n h in omega (arith, w.3, w.1);
      keeps = λ a b ha hb less.
          let v = at a ha in
          let w = at b hb in
          elim (cases_lt v.0 w.0) [
            | inl up ↦ omega (arith, v.3, w.3, up)
            | inr down ↦ absurd (omega (arith, less, order w.0 v.0 down v.1, ap (slice_index old) v.2, ap (slice_index old) w.2))
          ];
    }

number_at : (tasks : List TaskNo) (i : ℕ) (d : TaskNo) → i < length tasks → slice_index (numbers tasks) i ≡ (get_or tasks i d).0
number_at tasks i d l = get_or_default (numbers tasks) i 0 d.0 (omega (arith, l, length-map tasks (λ (t : TaskNo). t.0)))
    ∙ at.get_or-map (λ (t : TaskNo). t.0) tasks i d

pub run_goes_on : (tasks : List TaskNo) (first i : ℕ) (d : TaskNo) (old now : List ℕ) → i < length tasks → AllBelow (length old) (numbers tasks)
    → IsRunning (numbers tasks) first i old now
    → IsRunning (numbers tasks) first (i + 1) old (set now (get_or tasks i d).0 (first + i))
run_goes_on tasks first i d old now l below running =
    let inside : slice_index (numbers tasks) i < length old = below i 0 (omega (arith, l, length-map tasks (λ (t : TaskNo). t.0))) in
    subst (λ (t : ℕ). IsRunning (numbers tasks) first (i + 1) old (set now t (first + i))) (number_at tasks i d l)
    (run_steps (numbers tasks) first i old now inside running)

-- tasks in ascending order of their places
pub in_order : (places : List ℕ) (tasks : List TaskNo) → IsNonDecreasingBy (λ (t : TaskNo). slice_index places t.0) tasks → AreInOrder places (numbers tasks)
in_order places [] up i j l m = absurd (omega arith)
in_order places (t ∷ tasks) up i j l m =
    let inside : j < length (t ∷ tasks) = omega (arith, m, length-map (t ∷ tasks) (λ (u : TaskNo). u.0)) in
    rw (number_at (t ∷ tasks) i t (omega (arith, l, inside)), number_at (t ∷ tasks) j t inside) (up i j t l inside)

pub span_starts : (from : ℕ) → IsSpan from from []
span_starts from = record { sized = omega arith; each = λ i l. absurd (omega arith) }

pub span_more : (from to : ℕ) (ns : List ℕ) → IsSpan from to ns → IsSpan from (to + 1) (ns ++ to ∷ [])
span_more from to ns span = record {
  sized = omega (arith, length_push ns to, span.sized);
  each = λ i l. elim (cases_lt i (length ns)) [
    | inl there ↦ get_or_append_left ns (to ∷ []) 0 i there ∙ span.each i there
    | inr end ↦
        let e : i ≡ length ns = omega (arith, end, l, length_push ns to) in
        ap (slice_index (ns ++ to ∷ [])) e ∙ get_or-append_seam ns to [] 0 ∙ omega (arith, e, span.sized)
  ];
}
