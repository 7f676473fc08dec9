-- A search from one task, from its start to its end.
use Rattle.std.proofs.Common.{◌≡◌, ◌⊎◌, ℕ, ◌<◌, ◌≤◌, ◌+◌, ◌-◌, Bool, true, false, cond, List, [], ◌∷◌, ◌++◌, length, get_or, set, replicate, refl, sym, ap, ◌∙◌}
use Rattle.std.proofs.Common.{subst, inl, inr, arith}
use Rattle.std.specs.Prelude.{slice_index}
use Rattle.std.specs.List.{Contains}
use Rattle.std.proofs.lemmas.Bool.{cases_lt}
use Rattle.std.proofs.lemmas.List.{get_or_append_left, get_or_default, length_push, length-map, length-replicate}
use Rattle.std.proofs.lemmas.List.Elements.{Contains-get_or}
use Rattle.std.proofs.Math.ListN as at
use Rattle.pie_graph.specs.declared.edges.TaskNo.{TaskNo}
use Rattle.pie_graph.specs.Numbers.{numbers, IsMarked, AllBelow}
use Rattle.pie_graph.specs.Rows.{Row, Calls}
use Rattle.pie_graph.proofs.Among.{contains_here}
use Rattle.pie_reach.specs.inner.Reaches.{Leads, Reaches}
use Rattle.pie_reach.specs.inner.Reaches.Leads.{itself}
use Rattle.pie_reach.specs.inner.Walks.{Walked, meet, meet_all, unmarked, GoesTo}
use Rattle.pie_reach.proofs.Meets.{Meets, all_met, alone}
use Rattle.pie_reach.proofs.WalkSteps.{leads_on, all_below, turned}
use Rattle.pie_order.specs.Sides.{Searched, begun, met_one, met_all, Bounded, Searching, Completed, IsSide}
use Rattle.pie_order.proofs.MarkSteps.{unmarked-none, none_marked}

-- a search as a walk that takes nothing from its list
abbrev walked : Searched → Walked
walked s = record { marks = s.marks; work = s.met }

abbrev searched : ℕ → Walked → Searched
searched next w = record { marks = w.marks; met = w.work; next = next }

one_walked : (n : ℕ) (s : Searched) → met_one n s ≡ searched s.next (meet n (walked s))
one_walked n s = elim (get_or s.marks n false) as (λ b. cond b s (record { marks = set s.marks n true; met = s.met ++ n ∷ []; next = s.next })
    ≡ searched s.next (cond b (walked s) (record { marks = set s.marks n true; work = s.met ++ n ∷ [] }))) [ true ↦ refl | false ↦ refl ]

all_walked : (ns : List ℕ) (next : ℕ) (w : Walked) → met_all ns (searched next w) ≡ searched next (meet_all ns w)
all_walked [] next w = refl
all_walked (n ∷ ns) next w = ap (met_all ns) (one_walked n (searched next w)) ∙ all_walked ns next (meet n w)

one_keeps : (n : ℕ) (s : Searched) (i : ℕ) → i < length s.met → (slice_index (met_one n s).met i ≡ slice_index s.met i) × (i < length (met_one n s).met)
one_keeps n s i l = elim (get_or s.marks n false) as (λ b. let t : Searched = cond b s
    (record { marks = set s.marks n true; met = s.met ++ n ∷ []; next = s.next }) in
    (slice_index t.met i ≡ slice_index s.met i) × (i < length t.met)) [
      | true ↦ (refl, l)
      | false ↦ (get_or_append_left s.met (n ∷ []) 0 i l, omega (arith, length_push s.met n))
    ]

-- the first ones stay where they are
all_keep : (ns : List ℕ) (s : Searched) (i : ℕ) → i < length s.met → slice_index (met_all ns s).met i ≡ slice_index s.met i
all_keep [] s i l = refl
all_keep (n ∷ ns) s i l = let one = one_keeps n s i l in all_keep ns (met_one n s) i one.1 ∙ one.0

-- what meeting tasks leaves
pub record Met (ns : List ℕ) (s t : Searched) : Type 0 where
  pub sized : length t.marks ≡ length s.marks
  pub kept : (k : ℕ) → IsMarked s.marks k → IsMarked t.marks k
  pub marked : (k : ℕ) → Contains ns k → IsMarked t.marks k
  pub only : (k : ℕ) → IsMarked t.marks k → IsMarked s.marks k ⊎ (Contains ns k × Contains t.met k)
  pub met_kept : (k : ℕ) → Contains s.met k → Contains t.met k
  pub met_only : (k : ℕ) → Contains t.met k → Contains s.met k ⊎ Contains ns k
  pub total : unmarked t.marks + length t.met ≡ unmarked s.marks + length s.met
  pub next : t.next ≡ s.next
  pub first : (i : ℕ) → i < length s.met → slice_index t.met i ≡ slice_index s.met i

pub all_are_met : (ns : List ℕ) (s : Searched) → AllBelow (length s.marks) ns → Met ns s (met_all ns s)
all_are_met ns s below =
    let met : Meets ns (walked s) (meet_all ns (walked s)) = all_met ns (walked s) below in
    let same : met_all ns s ≡ searched s.next (meet_all ns (walked s)) = all_walked ns s.next (walked s) in
    let keep = all_keep ns s in
    subst (λ (t : Searched). ((i : ℕ) → i < length s.met → slice_index t.met i ≡ slice_index s.met i) → Met ns s t) (sym same) (λ first. record {
      sized = met.sized;
      kept = met.kept;
      marked = met.marked;
      only = met.only;
      met_kept = met.work_kept;
      met_only = met.work_only;
      total = met.total;
      next = refl;
      first = first;
    }) keep

pub search_starts : (count : ℕ) (goes : ℕ → ℕ → Type 0) (n : ℕ) → n < count → Searching count goes n (begun count n)
search_starts count goes n l =
    let s : Searched = record { marks = replicate count false; met = []; next = 0 } in
    let size : length s.marks ≡ count = length-replicate count false in
    let met : Met (n ∷ []) s (met_one n s) = all_are_met (n ∷ []) s (all_below (length s.marks) (n ∷ []) (λ k h. omega (arith, size, alone n k h))) in
    let none : (k : ℕ) → Contains s.met k → ⊥ = λ k h. omega (arith, h.1) in
    record {
      bounded = record {
        sized = met.sized ∙ size;
        below = λ k h. elim (met.met_only k h) [ inl i ↦ absurd (none k i) | inr i ↦ omega (arith, alone n k i) ];
        total = omega (arith, met.total, unmarked-none count);
      };
      sound = λ k h. elim (met.only k h) [ inl i ↦ absurd (none_marked count k i) | inr i ↦ subst (λ (m : ℕ). Leads goes n m) (alone n k i.0) itself ];
      started = met.marked n (contains_here n []);
      listed = λ k h. elim (met.only k h) [ inl i ↦ absurd (none_marked count k i) | inr i ↦ i.1 ];
      marked = λ k h. elim (met.met_only k h) [ inl i ↦ absurd (none k i) | inr i ↦ met.marked k i ];
      closed = λ i m before inside g. absurd (omega (arith, before, met.next));
    }

pub search_begins : (count size : ℕ) (goes : ℕ → ℕ → Type 0) (n : ℕ) (s : Searched) → size ≡ count → n < count → s ≡ begun size n → Searching count goes n s
search_begins count size goes n s same l e =
    subst (Searching count goes n) (sym e) (subst (λ (k : ℕ). Searching count goes n (begun k n)) (sym same) (search_starts count goes n l))

pub bounded_steps : (count : ℕ) (goes : ℕ → ℕ → Type 0) (s t : Searched) (n : ℕ) (found : List ℕ) → GoesTo count goes n found → Bounded count s
    → Met found s t → Bounded count t
bounded_steps count goes s t n found to bounded met = record {
  sized = met.sized ∙ bounded.sized;
  below = λ k h. elim (met.met_only k h) [ inl i ↦ bounded.below k i | inr i ↦ to.below k i ];
  total = met.total ∙ bounded.total;
}

pub search_steps : (count : ℕ) (goes : ℕ → ℕ → Type 0) (start : ℕ) (s t : Searched) (found : List ℕ) → s.next < length s.met
    → GoesTo count goes (slice_index s.met s.next) found
    → Met found (record { marks = s.marks; met = s.met; next = s.next + 1 }) t → Searching count goes start s → Searching count goes start t
search_steps count goes start s t found l to met searching =
    let n : ℕ = slice_index s.met s.next in
    let led : Leads goes start n = searching.sound n (searching.marked n (Contains-get_or s.met s.next 0 l)) in
    record {
      bounded = record {
        sized = met.sized ∙ searching.bounded.sized;
        below = λ k h. elim (met.met_only k h) [ inl i ↦ searching.bounded.below k i | inr i ↦ to.below k i ];
        total = met.total ∙ searching.bounded.total;
      };
      sound = λ k h. elim (met.only k h) [ inl i ↦ searching.sound k i | inr i ↦ leads_on goes start n k led (to.only k i.0) ];
      started = met.kept start searching.started;
      listed = λ k h. elim (met.only k h) [ inl i ↦ met.met_kept k (searching.listed k i) | inr i ↦ i.1 ];
      marked = λ k h. elim (met.met_only k h) [ inl i ↦ met.kept k (searching.marked k i) | inr i ↦ met.marked k i ];
      closed = λ i m before inside g. elim (cases_lt i s.next) [
        | inl old ↦
            let there : i < length s.met = omega (arith, old, l) in
            met.kept m (searching.closed i m old there (subst (λ (a : ℕ). goes a m) (met.first i there) g))
        | inr new ↦
            let same : i ≡ s.next = omega (arith, new, before, met.next) in
            let here : slice_index t.met i ≡ n = ap (slice_index t.met) same ∙ met.first s.next l in
            met.marked m (to.each m (subst (λ (a : ℕ). goes a m) here g))
      ];
    }

pub few_met : (count : ℕ) (s : Searched) → Bounded count s → length s.met ≤ count
few_met count s bounded = omega (arith, bounded.total)

-- a step from a task, and what it leaves
abbrev pub Steps : ℕ → (ℕ → ℕ → Type 0) → Searched → Searched → Type 0
Steps count goes s t = Bounded count t × ((start : ℕ) → Searching count goes start s → Searching count goes start t) × (count - t.next < count - s.next)

task_at : (met : List TaskNo) (next : ℕ) (task : TaskNo) → next < length met → task ≡ get_or met next task → slice_index (numbers met) next ≡ task.0
task_at met next task l e =
    get_or_default (numbers met) next 0 task.0 (omega (arith, l, length-map met (λ (t : TaskNo). t.0))) ∙ at.get_or-map (λ (t : TaskNo). t.0) met next task
    ∙ sym (ap (λ (t : TaskNo). t.0) e)

pub task_below : (count : ℕ) (marks : List Bool) (met : List TaskNo) (next : ℕ) (task : TaskNo) → next < length met → task ≡ get_or met next task
    → (let v : Searched = record { marks = marks; met = numbers met; next = next } in Bounded count v → task.0 < count)
task_below count marks met next task l e bounded =
    let there : next < length (numbers met) = omega (arith, l, length-map met (λ (t : TaskNo). t.0)) in
    bounded.below task.0 (subst (Contains (numbers met)) (task_at met next task l e) (Contains-get_or (numbers met) next 0 there))

pub stepped : (count : ℕ) (goes : ℕ → ℕ → Type 0) (marks : List Bool) (met : List TaskNo) (next : ℕ) (task : TaskNo) (found given : List ℕ) (t : Searched)
    → next < length met → task ≡ get_or met next task → GoesTo count goes task.0 found → given ≡ found
    → (let v : Searched = record { marks = marks; met = numbers met; next = next } in
    let w : Searched = record { marks = marks; met = numbers met; next = next + 1 } in
    t ≡ met_all given w → Bounded count v → Steps count goes v t)
stepped count goes marks met next task found given t l e to same after bounded =
    let v : Searched = record { marks = marks; met = numbers met; next = next } in
    let w : Searched = record { marks = marks; met = numbers met; next = next + 1 } in
    let there : next < length (numbers met) = omega (arith, l, length-map met (λ (u : TaskNo). u.0)) in
    let below : AllBelow (length marks) found = subst (λ (size : ℕ). AllBelow size found) (sym bounded.sized) (all_below count found to.below) in
    let all : Met found w t = subst (Met found w) (sym (after ∙ ap (λ (ns : List ℕ). met_all ns w) same)) (all_are_met found w below) in
    let bounded_now : Bounded count t = bounded_steps count goes w t task.0 found to
    (record { sized = bounded.sized; below = bounded.below; total = bounded.total }) all in
    let many : length (numbers met) ≤ count = few_met count v bounded in (
      bounded_now,
      λ start searching. search_steps count goes start v t found there
          (subst (λ (n : ℕ). GoesTo count goes n found) (sym (task_at met next task l e)) to) all searching,
      omega (arith, all.next, there, many),
    )

-- a complete search that hasn't met the other end is a side of the edge
pub is_side : (count : ℕ) (goes : ℕ → ℕ → Type 0) (start other : ℕ) (s : Searched) → Completed count goes start s → (IsMarked s.marks other → ⊥)
    → IsSide count goes start other s.met
is_side count goes start other s done apart = record {
  started = done.0.listed start done.0.started;
  closed = λ a b h g. done.0.listed b (done.0.closed h.0 b (omega (arith, h.1, done.1)) h.1 (subst (λ (x : ℕ). goes x b) (sym (index_is s.met a h)) g));
  apart = λ h. apart (done.0.marked other h);
  below = done.0.bounded.below;
  few = few_met count s done.0.bounded;
}
  where
    index_is : (ns : List ℕ) (a : ℕ) (h : Contains ns a) → slice_index ns h.0 ≡ a
    index_is ns a h = get_or_default ns h.0 0 a h.1 ∙ h.2

pub meets_below : (count : ℕ) (rows : List Row) (from to : ℕ) (s : Searched) → Completed count (Calls rows) to s → IsMarked s.marks from → Reaches rows to from
meets_below count rows from to s done is = done.0.sound from is

pub meets_above : (count : ℕ) (rows : List Row) (from to : ℕ) (s : Searched) → Completed count (λ a b. Calls rows b a) from s → IsMarked s.marks to
    → Reaches rows to from
meets_above count rows from to s done is = turned (Calls rows) from to (done.0.sound to is)
