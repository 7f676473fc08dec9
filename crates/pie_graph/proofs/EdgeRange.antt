-- The edges between two bounds: the users of one thing.
use Rattle.std.proofs.Common.{◌≡◌, ◌&&◌, ℕ, ◌<◌, ◌≤◌, Bool, true, false, cond, not, List, [], ◌∷◌, map, length, refl, sym, ap, ◌∙◌, subst, inl, inr, arith}
use Rattle.std.specs.declared.cmp.Ordering.{Ordering}
use Rattle.std.specs.declared.cmp.Ordering.TheVariants.{Less, Equal, Greater}
use Rattle.std.specs.declared.ops.Bound.TheVariants.{Included, Excluded}
use Rattle.std.specs.Ordering.{nat_cmp, ordering_then, is_le, is_gt}
use Rattle.std.specs.List.{filter, Contains}
use Rattle.std.specs.List.Sorted.{IsStrictlySortedBy, IsStrictlyIncreasing}
use Rattle.std.specs.BTreeSet.{BTreeSet, keys_between, IsOrdered}
use Rattle.std.specs.BTreeMap.Range.{range_contains}
use Rattle.std.proofs.lemmas.Cmp.{tied_itself, ranked}
use Rattle.std.proofs.lemmas.Bool.{cases_lt}
use Rattle.std.proofs.lemmas.Bool.Decides.{nat_tests}
use Rattle.std.proofs.Common.{◌++◌}
use Rattle.std.proofs.lemmas.List.{get_or_past, append-nil, append_assoc, map-append}
use Rattle.pie_graph.specs.declared.edges.TaskNo.{TaskNo}
use Rattle.std.proofs.lemmas.List.Elements.{All-from_recursion, All-contains}
use Rattle.std.proofs.lemmas.Map.Keys.{sorted_head, sorted_tail}
use Rattle.std.proofs.lemmas.Map.Views.{btree_set_contains_iff}
use Rattle.pie_graph.specs.declared.uses.Use.{Use}
use Rattle.pie_graph.specs.contracts.uses.UseOrd.TheImpl.Laws as use_laws
use Rattle.pie_graph.specs.Numbers.{Exactly, numbers}
use Rattle.pie_graph.specs.Rows.{Row, row_at, no_edges}
use Rattle.pie_graph.specs.Uses.{has, Has}
use Rattle.pie_graph.specs.Index.{use_cmp, edge_cmp, holds, IsIndex}
use Rattle.pie_graph.proofs.Among.{contains_here, contains_later, contains_cases, increasing_cons}
use Rattle.pie_graph.proofs.EdgeOrder.{edge_total, edge_exact, use_exact}
use Rattle.pie_graph.proofs.HasUse.{has_true, true_has, none_has}

-- the numbers of the users
abbrev pub users_in : (Use × ℕ → Bool) → List (Use × ℕ) → List ℕ
users_in p edges = map (λ (e : Use × ℕ). e.1) (filter p edges)

abbrev pub between : Use → Use × ℕ → Bool
between what = range_contains edge_cmp (Included (what, 0)) (Excluded (what, 50000))

pub starts_below : (what other : Use) → other ≡ what → is_gt (edge_cmp (other, 0) (what, 50000)) ≡ false
starts_below what other e =
    ap (λ (w : Use). is_gt (edge_cmp (w, 0) (what, 50000))) e ∙ ap (λ o. is_gt (ordering_then o (nat_cmp 0 50000))) (tied_itself use_laws.total-law what)

middle : (o : Ordering) (n : ℕ) → (is_le (ordering_then o (nat_cmp 0 n)) && not (is_le (ordering_then o (nat_cmp 50000 n)))) ≡ true → o ≡ Equal
middle Less n h = cc
middle Equal n h = refl
middle Greater n h = cc

inside : (n : ℕ) → n < 50000 → (is_le (nat_cmp 0 n) && not (is_le (nat_cmp 50000 n))) ≡ true
inside n l = grind (arith, nat_tests)

between_is : (what : Use) (edge : Use × ℕ) → between what edge ≡ true → what ≡ edge.0
between_is what edge h = use_exact what edge.0 (middle (use_cmp what edge.0) edge.1 h)

between_at : (what : Use) (n : ℕ) → n < 50000 → between what (what, n) ≡ true
between_at what n l =
    ap (λ o. is_le (ordering_then o (nat_cmp 0 n)) && not (is_le (ordering_then o (nat_cmp 50000 n)))) (tied_itself use_laws.total-law what) ∙ inside n l

from_users : (p : Use × ℕ → Bool) (edges : List (Use × ℕ)) (n : ℕ) → Contains (users_in p edges) n → (e : Use × ℕ) × Contains edges e × (p e ≡ true) × (e.1 ≡ n)
from_users p [] n h = absurd (omega (arith, h.1))
from_users p (e ∷ edges) n h =
    elim (p e) as (λ b. p e ≡ b → Contains (map (λ (f : Use × ℕ). f.1) (cond b (e ∷ filter p edges) (filter p edges))) n → (f : Use × ℕ)
    × Contains (e ∷ edges) f × (p f ≡ true) × (f.1 ≡ n)) [
      | true ↦ λ is i. elim (contains_cases e.1 n (users_in p edges) i) [
        | inl here ↦ (e, contains_here e edges, is, here)
        | inr later ↦ let w = from_users p edges n later in (w.0, contains_later e w.0 edges w.1, w.2, w.3)
      ]
      | false ↦ λ is i. let w = from_users p edges n i in (w.0, contains_later e w.0 edges w.1, w.2, w.3)
    ] refl h

to_users : (p : Use × ℕ → Bool) (edges : List (Use × ℕ)) (f : Use × ℕ) → Contains edges f → p f ≡ true → Contains (users_in p edges) f.1
to_users p [] f h is = absurd (omega (arith, h.1))
to_users p (e ∷ edges) f h is =
    elim (p e) as (λ b. p e ≡ b → Contains (map (λ (g : Use × ℕ). g.1) (cond b (e ∷ filter p edges) (filter p edges))) f.1) [
      | true ↦ λ i. elim (contains_cases e f edges h) [
        | inl here ↦ subst (λ (g : Use × ℕ). Contains (e.1 ∷ users_in p edges) g.1) here (contains_here e.1 (users_in p edges))
        | inr later ↦ contains_later e.1 f.1 (users_in p edges) (to_users p edges f later is)
      ]
      | false ↦ λ i. elim (contains_cases e f edges h) [
        | inl here ↦ let same : p e ≡ p f = ap p here in cc
        | inr later ↦ to_users p edges f later is
      ]
    ] refl

later_more : (what : Use) (a b : Use × ℕ) → what ≡ a.0 → what ≡ b.0 → edge_cmp a b ≡ Less → a.1 < b.1
later_more what a b ea eb h =
    let alone : ordering_then (use_cmp what what) (nat_cmp a.1 b.1) ≡ Less = ap (λ (w : Use). ordering_then (use_cmp w what) (nat_cmp a.1 b.1)) ea
    ∙ ap (λ (w : Use). ordering_then (use_cmp a.0 w) (nat_cmp a.1 b.1)) eb ∙ h in
    let less : Less ≡ nat_cmp a.1 b.1 = sym alone ∙ ap (λ o. ordering_then o (nat_cmp a.1 b.1)) (tied_itself use_laws.total-law what) in
    ranked a.1 b.1 Less less

ascending : (what : Use) (edges : List (Use × ℕ)) → IsStrictlySortedBy edge_cmp edges → IsStrictlyIncreasing (users_in (between what) edges)
ascending what [] up = λ k l. absurd (omega arith)
ascending what (e ∷ edges) up =
    elim (between what e) as (λ b. between what e ≡ b → IsStrictlyIncreasing
    (map (λ (f : Use × ℕ). f.1) (cond b (e ∷ filter (between what) edges) (filter (between what) edges)))) [
      | true ↦ λ is. increasing_cons e.1 (users_in (between what) edges)
          (λ y h. let w = from_users (between what) edges y h in
          let less : edge_cmp e w.0 ≡ Less = All-contains (λ (f : Use × ℕ). edge_cmp e f ≡ Less) edges w.0
          (All-from_recursion (λ (f : Use × ℕ). edge_cmp e f ≡ Less) edges (sorted_head edge_cmp e edges up)) w.1 in
          subst (λ n. e.1 < n) w.3 (later_more what e w.0 (between_is what e is) (between_is what w.0 w.2) less))
          (ascending what edges (sorted_tail edge_cmp e edges up))
      | false ↦ λ is. ascending what edges (sorted_tail edge_cmp e edges up)
    ] refl

below : (rows : List Row) (n : ℕ) (what : Use) → has (row_at rows n) what ≡ true → n < length rows
below rows n what h =
    elim (cases_lt n (length rows)) [
      | inl l ↦ l
      | inr past ↦ let none : has (row_at rows n) what ≡ false = ap (λ (row : Row). has row what) (get_or_past rows n no_edges past) ∙ none_has what in
          absurd (cc)
    ]

pub users_exactly : (index : BTreeSet (Use × ℕ)) (what : Use) (rows : List Row) (found : List ℕ) → IsOrdered edge_cmp index → length rows ≤ 50000
    → IsIndex index rows → found ≡ users_in (between what) index.keys → Exactly (λ n. Has (row_at rows n) what) found
users_exactly index what rows found up few is e =
    subst (λ (ns : List ℕ). Exactly (λ n. Has (row_at rows n) what) ns) (sym e) (record {
      ascending = ascending what index.keys up;
      only = λ n h.
          let w = from_users (between what) index.keys n h in
          let held : holds index w.0 ≡ true = (btree_set_contains_iff edge_total edge_exact index w.0).1 w.1 in
          let there : has (row_at rows w.0.1) w.0.0 ≡ true = sym (is w.0) ∙ held in
          has_true (row_at rows n) what (subst (λ m. has (row_at rows m) what ≡ true) w.3
          (subst (λ (u : Use). has (row_at rows w.0.1) u ≡ true) (sym (between_is what w.0 w.2)) there));
      each = λ n h.
          let there : has (row_at rows n) what ≡ true = true_has (row_at rows n) what h in
          let l : n < 50000 = omega (arith, below rows n what there) in
          to_users (between what) index.keys (what, n) ((btree_set_contains_iff edge_total edge_exact index (what, n)).0 (is (what, n) ∙ there))
          (between_at what n l);
    })

pub users_start : (what other : Use) (index : BTreeSet (Use × ℕ)) (found : List TaskNo) (edges : List (Use × ℕ)) → found ≡ [] → other ≡ what
    → edges ≡ keys_between edge_cmp (Included (other, 0)) (Excluded (what, 50000)) index
    → numbers found ++ map (λ (e : Use × ℕ). e.1) edges ≡ users_in (between what) index.keys
users_start what other index found edges none same e =
    ap (λ (ts : List TaskNo). numbers ts ++ map (λ (f : Use × ℕ). f.1) edges) none
    ∙ ap (map (λ (f : Use × ℕ). f.1)) (e ∙ ap (λ (w : Use). keys_between edge_cmp (Included (w, 0)) (Excluded (what, 50000)) index) same)

pub users_more : (found : List TaskNo) (task : TaskNo) (edge : Use × ℕ) (edges rest : List (Use × ℕ)) (all : List ℕ) → task.0 ≡ edge.1 → edges ≡ edge ∷ rest
    → numbers found ++ map (λ (e : Use × ℕ). e.1) edges ≡ all → numbers (found ++ task ∷ []) ++ map (λ (e : Use × ℕ). e.1) rest ≡ all
users_more found task edge edges rest all same split h =
    ap (λ (ns : List ℕ). ns ++ map (λ (e : Use × ℕ). e.1) rest) (map-append (λ (t : TaskNo). t.0) found (task ∷ []))
    ∙ append_assoc (numbers found) (task.0 ∷ []) (map (λ (e : Use × ℕ). e.1) rest)
    ∙ ap (λ n. numbers found ++ (n ∷ map (λ (e : Use × ℕ). e.1) rest)) same
    ∙ ap (λ (es : List (Use × ℕ)). numbers found ++ map (λ (e : Use × ℕ). e.1) es) (sym split) ∙ h

pub users_all : (found : List TaskNo) (edges : List (Use × ℕ)) (all : List ℕ) → edges ≡ [] → numbers found ++ map (λ (e : Use × ℕ). e.1) edges ≡ all
    → numbers found ≡ all
users_all found edges all none h = sym (append-nil (numbers found)) ∙ ap (λ (es : List (Use × ℕ)). numbers found ++ map (λ (e : Use × ℕ). e.1) es) (sym none)
    ∙ h
