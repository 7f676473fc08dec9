-- The pairs between two bounds: the writers of one path.
use Rattle.std.proofs.Common.{◌≡◌, ◌&&◌, ℕ, ◌<◌, ◌≤◌, Bool, true, false, cond, not, List, [], ◌∷◌, ◌++◌, map, length, refl, sym, ap, ◌∙◌}
use Rattle.std.proofs.Common.{subst, inl, inr, arith}
use Rattle.std.specs.declared.cmp.Ordering.{Ordering}
use Rattle.std.specs.declared.cmp.Ordering.TheVariants.{Less, Equal, Greater}
use Rattle.std.specs.declared.ops.Bound.TheVariants.{Included, Excluded}
use Rattle.std.specs.Ordering.{nat_cmp, ordering_then, is_le, is_gt}
use Rattle.std.specs.Cmp.Lexicographic.{slice_cmp}
use Rattle.std.specs.List.{filter, Contains}
use Rattle.std.specs.List.Sorted.{IsStrictlySortedBy, IsStrictlyIncreasing}
use Rattle.std.specs.BTreeSet.{BTreeSet, keys_between, IsOrdered}
use Rattle.std.specs.BTreeMap.Range.{range_contains}
use Rattle.std.proofs.lemmas.Cmp.{nat_list_cmp_total, tied_itself, ranked}
use Rattle.std.proofs.lemmas.Bool.{cases_lt}
use Rattle.std.proofs.lemmas.Bool.Decides.{nat_tests}
use Rattle.std.proofs.lemmas.List.{get_or_past, append-nil, append_assoc, map-append}
use Rattle.std.proofs.lemmas.List.Elements.{All-from_recursion, All-contains}
use Rattle.std.proofs.lemmas.Map.Keys.{sorted_head, sorted_tail}
use Rattle.std.proofs.lemmas.Map.Lookups.{exact_bytes}
use Rattle.std.proofs.lemmas.Map.Views.{btree_set_contains_iff}
use Rattle.pie_graph.specs.declared.edges.TaskNo.{TaskNo}
use Rattle.pie_graph.specs.declared.uses.Use.TheVariants as uses
use Rattle.pie_graph.specs.Numbers.{Exactly, numbers}
use Rattle.pie_graph.specs.Rows.{Row, row_at, no_edges, Writes}
use Rattle.pie_graph.proofs.Among.{contains_here, contains_later, contains_cases, increasing_cons}
use Rattle.pie_graph.proofs.HasUse.{has_true, true_has}
use Rattle.pie_union.specs.inner.Writers.{pair_cmp, holds, wrote, AreWriters}
use Rattle.pie_union.proofs.PairOrder.{pair_total, pair_exact}

-- the numbers of the tasks of those pairs that pass a test
abbrev pub tasks_in : (List ℕ × ℕ → Bool) → List (List ℕ × ℕ) → List ℕ
tasks_in p pairs = map (λ (e : List ℕ × ℕ). e.1) (filter p pairs)

-- whether a pair lies between the bounds of a path
abbrev pub between : List ℕ → List ℕ × ℕ → Bool
between path = range_contains pair_cmp (Included (path, 0)) (Excluded (path, 50000))

itself : (path : List ℕ) → slice_cmp nat_cmp path path ≡ Equal
itself = tied_itself nat_list_cmp_total

pub starts_below : (path first end : List ℕ) → first ≡ path → end ≡ path → is_gt (pair_cmp (first, 0) (end, 50000)) ≡ false
starts_below path first end f e =
    ap (λ (p : List ℕ). is_gt (pair_cmp (p, 0) (end, 50000))) f ∙ ap (λ (p : List ℕ). is_gt (pair_cmp (path, 0) (p, 50000))) e
    ∙ ap (λ o. is_gt (ordering_then o (nat_cmp 0 50000))) (itself path)

middle : (o : Ordering) (n : ℕ) → (is_le (ordering_then o (nat_cmp 0 n)) && not (is_le (ordering_then o (nat_cmp 50000 n)))) ≡ true → o ≡ Equal
middle Less n h = cc
middle Equal n h = refl
middle Greater n h = cc

inside : (n : ℕ) → n < 50000 → (is_le (nat_cmp 0 n) && not (is_le (nat_cmp 50000 n))) ≡ true
inside n l = grind (arith, nat_tests)

between_is : (path : List ℕ) (pair : List ℕ × ℕ) → between path pair ≡ true → path ≡ pair.0
between_is path pair h = exact_bytes path pair.0 (middle (slice_cmp nat_cmp path pair.0) pair.1 h)

between_at : (path : List ℕ) (n : ℕ) → n < 50000 → between path (path, n) ≡ true
between_at path n l =
    ap (λ o. is_le (ordering_then o (nat_cmp 0 n)) && not (is_le (ordering_then o (nat_cmp 50000 n)))) (itself path) ∙ inside n l

from_tasks : (p : List ℕ × ℕ → Bool) (pairs : List (List ℕ × ℕ)) (n : ℕ) → Contains (tasks_in p pairs) n
    → (e : List ℕ × ℕ) × Contains pairs e × (p e ≡ true) × (e.1 ≡ n)
from_tasks p [] n h = absurd (omega (arith, h.1))
from_tasks p (e ∷ pairs) n h =
    elim (p e) as (λ b. p e ≡ b → Contains (map (λ (f : List ℕ × ℕ). f.1) (cond b (e ∷ filter p pairs) (filter p pairs))) n → (f : List ℕ × ℕ)
    × Contains (e ∷ pairs) f × (p f ≡ true) × (f.1 ≡ n)) [
      | true ↦ λ is i. elim (contains_cases e.1 n (tasks_in p pairs) i) [
        | inl here ↦ (e, contains_here e pairs, is, here)
        | inr later ↦ let w = from_tasks p pairs n later in (w.0, contains_later e w.0 pairs w.1, w.2, w.3)
      ]
      | false ↦ λ is i. let w = from_tasks p pairs n i in (w.0, contains_later e w.0 pairs w.1, w.2, w.3)
    ] refl h

to_tasks : (p : List ℕ × ℕ → Bool) (pairs : List (List ℕ × ℕ)) (f : List ℕ × ℕ) → Contains pairs f → p f ≡ true → Contains (tasks_in p pairs) f.1
to_tasks p [] f h is = absurd (omega (arith, h.1))
to_tasks p (e ∷ pairs) f h is =
    elim (p e) as (λ b. p e ≡ b → Contains (map (λ (g : List ℕ × ℕ). g.1) (cond b (e ∷ filter p pairs) (filter p pairs))) f.1) [
      | true ↦ λ i. elim (contains_cases e f pairs h) [
        | inl here ↦ subst (λ (g : List ℕ × ℕ). Contains (e.1 ∷ tasks_in p pairs) g.1) here (contains_here e.1 (tasks_in p pairs))
        | inr later ↦ contains_later e.1 f.1 (tasks_in p pairs) (to_tasks p pairs f later is)
      ]
      | false ↦ λ i. elim (contains_cases e f pairs h) [
        | inl here ↦ let same : p e ≡ p f = ap p here in cc
        | inr later ↦ to_tasks p pairs f later is
      ]
    ] refl

later_more : (path : List ℕ) (a b : List ℕ × ℕ) → path ≡ a.0 → path ≡ b.0 → pair_cmp a b ≡ Less → a.1 < b.1
later_more path a b ea eb h =
    let alone : ordering_then (slice_cmp nat_cmp path path) (nat_cmp a.1 b.1) ≡ Less =
    ap (λ (p : List ℕ). ordering_then (slice_cmp nat_cmp p path) (nat_cmp a.1 b.1)) ea
    ∙ ap (λ (p : List ℕ). ordering_then (slice_cmp nat_cmp a.0 p) (nat_cmp a.1 b.1)) eb ∙ h in
    let less : Less ≡ nat_cmp a.1 b.1 = sym alone ∙ ap (λ o. ordering_then o (nat_cmp a.1 b.1)) (itself path) in
    ranked a.1 b.1 Less less

ascending : (path : List ℕ) (pairs : List (List ℕ × ℕ)) → IsStrictlySortedBy pair_cmp pairs → IsStrictlyIncreasing (tasks_in (between path) pairs)
ascending path [] up = λ k l. absurd (omega arith)
ascending path (e ∷ pairs) up =
    elim (between path e) as (λ b. between path e ≡ b → IsStrictlyIncreasing
    (map (λ (f : List ℕ × ℕ). f.1) (cond b (e ∷ filter (between path) pairs) (filter (between path) pairs)))) [
      | true ↦ λ is. increasing_cons e.1 (tasks_in (between path) pairs)
          (λ y h. let w = from_tasks (between path) pairs y h in
          let less : pair_cmp e w.0 ≡ Less = All-contains (λ (f : List ℕ × ℕ). pair_cmp e f ≡ Less) pairs w.0
          (All-from_recursion (λ (f : List ℕ × ℕ). pair_cmp e f ≡ Less) pairs (sorted_head pair_cmp e pairs up)) w.1 in
          subst (λ n. e.1 < n) w.3 (later_more path e w.0 (between_is path e is) (between_is path w.0 w.2) less))
          (ascending path pairs (sorted_tail pair_cmp e pairs up))
      | false ↦ λ is. ascending path pairs (sorted_tail pair_cmp e pairs up)
    ] refl

wrote_true : (row : Row) (path : List ℕ) → wrote row.writes path ≡ true → Contains row.writes path
wrote_true row path h = has_true row (uses.Writes path) h

true_wrote : (row : Row) (path : List ℕ) → Contains row.writes path → wrote row.writes path ≡ true
true_wrote row path h = true_has row (uses.Writes path) h

below : (rows : List Row) (n : ℕ) (path : List ℕ) → wrote (row_at rows n).writes path ≡ true → n < length rows
below rows n path h =
    elim (cases_lt n (length rows)) [
      | inl l ↦ l
      | inr past ↦ let none : wrote (row_at rows n).writes path ≡ false = ap (λ (row : Row). wrote row.writes path) (get_or_past rows n no_edges past) in
          absurd (cc)
    ]

pub writers_exactly : (pairs : BTreeSet (List ℕ × ℕ)) (path : List ℕ) (rows : List Row) (found : List ℕ) → IsOrdered pair_cmp pairs → length rows ≤ 50000
    → AreWriters pairs rows → found ≡ tasks_in (between path) pairs.keys → Exactly (λ n. Writes rows n path) found
writers_exactly pairs path rows found up few is e =
    subst (λ (ns : List ℕ). Exactly (λ n. Writes rows n path) ns) (sym e) (record {
      ascending = ascending path pairs.keys up;
      only = λ n h.
          let w = from_tasks (between path) pairs.keys n h in
          let held : holds pairs w.0 ≡ true = (btree_set_contains_iff pair_total pair_exact pairs w.0).1 w.1 in
          let there : wrote (row_at rows w.0.1).writes w.0.0 ≡ true = sym (is w.0) ∙ held in
          wrote_true (row_at rows n) path (subst (λ m. wrote (row_at rows m).writes path ≡ true) w.3
          (subst (λ (p : List ℕ). wrote (row_at rows w.0.1).writes p ≡ true) (sym (between_is path w.0 w.2)) there));
      each = λ n h.
          let there : wrote (row_at rows n).writes path ≡ true = true_wrote (row_at rows n) path h in
          let l : n < 50000 = omega (arith, below rows n path there) in
          to_tasks (between path) pairs.keys (path, n) ((btree_set_contains_iff pair_total pair_exact pairs (path, n)).0 (is (path, n) ∙ there))
          (between_at path n l);
    })

pub range_start : (path first end : List ℕ) (pairs : BTreeSet (List ℕ × ℕ)) (found : List TaskNo) (left : List (List ℕ × ℕ))
    → found ≡ [] → first ≡ path → end ≡ path → left ≡ keys_between pair_cmp (Included (first, 0)) (Excluded (end, 50000)) pairs
    → numbers found ++ map (λ (e : List ℕ × ℕ). e.1) left ≡ tasks_in (between path) pairs.keys
range_start path first end pairs found left none f l e =
    ap (λ (ts : List TaskNo). numbers ts ++ map (λ (e : List ℕ × ℕ). e.1) left) none
    ∙ ap (map (λ (e : List ℕ × ℕ). e.1)) (e ∙ ap (λ (p : List ℕ). keys_between pair_cmp (Included (p, 0)) (Excluded (end, 50000)) pairs) f
    ∙ ap (λ (p : List ℕ). keys_between pair_cmp (Included (path, 0)) (Excluded (p, 50000)) pairs) l)

pub range_more : (found : List TaskNo) (task : TaskNo) (pair : List ℕ × ℕ) (left rest : List (List ℕ × ℕ)) (all : List ℕ) → task.0 ≡ pair.1 → left ≡ pair ∷ rest
    → numbers found ++ map (λ (e : List ℕ × ℕ). e.1) left ≡ all → numbers (found ++ task ∷ []) ++ map (λ (e : List ℕ × ℕ). e.1) rest ≡ all
range_more found task pair left rest all same split h =
    ap (λ (ns : List ℕ). ns ++ map (λ (e : List ℕ × ℕ). e.1) rest) (map-append (λ (t : TaskNo). t.0) found (task ∷ []))
    ∙ append_assoc (numbers found) (task.0 ∷ []) (map (λ (e : List ℕ × ℕ). e.1) rest)
    ∙ ap (λ n. numbers found ++ (n ∷ map (λ (e : List ℕ × ℕ). e.1) rest)) same
    ∙ ap (λ (es : List (List ℕ × ℕ)). numbers found ++ map (λ (e : List ℕ × ℕ). e.1) es) (sym split) ∙ h

pub range_all : (found : List TaskNo) (left : List (List ℕ × ℕ)) (all : List ℕ) → left ≡ [] → numbers found ++ map (λ (e : List ℕ × ℕ). e.1) left ≡ all
    → numbers found ≡ all
range_all found left all none h =
    sym (append-nil (numbers found)) ∙ ap (λ (es : List (List ℕ × ℕ)). numbers found ++ map (λ (e : List ℕ × ℕ). e.1) es) (sym none) ∙ h
