-- Paths go into a set, and out of it, one after another.
use Rattle.std.proofs.Common.{◌≡◌, ◌⊎◌, ◌&&◌, ◌||◌, ℕ, ◌<◌, ◌≤◌, ◌+◌, Bool, true, false, cond, not, List, [], ◌∷◌, length, get_or, drop, refl, sym, ap, ◌∙◌}
use Rattle.std.proofs.Common.{subst, inl, inr, arith}
use Rattle.std.specs.declared.cmp.Ordering.{Ordering}
use Rattle.std.specs.declared.cmp.Ordering.TheVariants.{Less, Equal, Greater}
use Rattle.std.specs.Ordering.{is_eq}
use Rattle.std.specs.List.{list_any, Contains}
use Rattle.std.specs.BTreeSet.{BTreeSet, contains, IsOrdered}
use Rattle.std.proofs.lemmas.Cmp.{nat_list_cmp_total, eq_by_cmp_equiv}
use Rattle.std.proofs.lemmas.List.{drop_more, drop_all}
use Rattle.std.proofs.lemmas.Map.Lookups.{exact_bytes}
use Rattle.std.proofs.lemmas.Map.Views.{btree_set_contains_iff, Contains-from_any, list_any-from_Contains}
use Rattle.pie_graph.specs.Numbers.{IsMarked, Exactly}
use Rattle.pie_reach.specs.inner.Walks.{IsClosure, LedTo}
use Rattle.pie_reach.specs.Plan.{path_cmp, IsPlan}
use Rattle.pie_reach.specs.inner.Listed.{listed}

pub exactly_closed : (count : ℕ) (goes : ℕ → ℕ → Type 0) (starts : List ℕ) (marks now : List Bool) (found : List ℕ) → IsClosure count goes starts marks
    → now ≡ marks → Exactly (IsMarked now) found → Exactly (LedTo goes starts) found
exactly_closed count goes starts marks now found closed e x = record {
  ascending = x.ascending;
  only = λ n h. closed.only n (subst (λ (ms : List Bool). IsMarked ms n) e (x.only n h));
  each = λ n led. x.each n (subst (λ (ms : List Bool). IsMarked ms n) (sym e) (closed.each n led));
}

swap : (a b : List ℕ) → is_eq (path_cmp a b) ≡ is_eq (path_cmp b a)
swap a b = (eq_by_cmp_equiv nat_list_cmp_total).symm a b

added : (same held rest : Bool) → (cond same true held || rest) ≡ (held || (same || rest))
added true true rest = refl
added true false rest = refl
added false held rest = refl

removed : (same held rest : Bool) → (cond same false held && not rest) ≡ (held && not (same || rest))
removed true true rest = refl
removed true false rest = refl
removed false held rest = refl

split : (paths : List (List ℕ)) (i : ℕ) (path : List ℕ) → i < length paths → path ≡ get_or paths i path → drop i paths ≡ path ∷ drop (i + 1) paths
split paths i path l is = drop_more paths i path l ∙ ap (λ (p : List ℕ). p ∷ drop (i + 1) paths) (sym is)

pub add_step : (paths : List (List ℕ)) (i : ℕ) (path q : List ℕ) (held now all : Bool) → i < length paths → path ≡ get_or paths i path
    → now ≡ cond (is_eq (path_cmp path q)) true held → (held || listed q (drop i paths)) ≡ all → (now || listed q (drop (i + 1) paths)) ≡ all
add_step paths i path q held now all l is e inv =
    let rest = drop (i + 1) paths in
    ap (λ b. b || listed q rest) (e ∙ ap (λ b. cond b true held) (swap path q)) ∙ added (is_eq (path_cmp q path)) held (listed q rest)
    ∙ ap (λ (ps : List (List ℕ)). held || listed q ps) (sym (split paths i path l is)) ∙ inv

pub remove_step : (paths : List (List ℕ)) (i : ℕ) (path q : List ℕ) (held now all : Bool) → i < length paths → path ≡ get_or paths i path
    → now ≡ cond (is_eq (path_cmp path q)) false held → (held && not (listed q (drop i paths))) ≡ all → (now && not (listed q (drop (i + 1) paths))) ≡ all
remove_step paths i path q held now all l is e inv =
    let rest = drop (i + 1) paths in
    ap (λ b. b && not (listed q rest)) (e ∙ ap (λ b. cond b false held) (swap path q)) ∙ removed (is_eq (path_cmp q path)) held (listed q rest)
    ∙ ap (λ (ps : List (List ℕ)). held && not (listed q ps)) (sym (split paths i path l is)) ∙ inv

or_false : (b : Bool) → (b || false) ≡ b
or_false true = refl
or_false false = refl

and_true : (b : Bool) → (b && true) ≡ b
and_true true = refl
and_true false = refl

pub add_end : (paths : List (List ℕ)) (i : ℕ) (q : List ℕ) (held all : Bool) → length paths ≤ i → (held || listed q (drop i paths)) ≡ all → held ≡ all
add_end paths i q held all l h = sym (or_false held) ∙ ap (λ (ps : List (List ℕ)). held || listed q ps) (sym (drop_all i paths l)) ∙ h

pub remove_end : (paths : List (List ℕ)) (i : ℕ) (q : List ℕ) (held all : Bool) → length paths ≤ i → (held && not (listed q (drop i paths))) ≡ all → held ≡ all
remove_end paths i q held all l h = sym (and_true held) ∙ ap (λ (ps : List (List ℕ)). held && not (listed q ps)) (sym (drop_all i paths l)) ∙ h

equal : (o : Ordering) → is_eq o ≡ true → o ≡ Equal
equal Less e = cc
equal Equal e = refl
equal Greater e = cc

tied : (a b : List ℕ) → is_eq (path_cmp a b) ≡ true → a ≡ b
tied a b h = exact_bytes a b (equal (path_cmp a b) h)

both_true : (a b : Bool) → (a && not b) ≡ true → (a ≡ true) × (b ≡ false)
both_true true true h = cc
both_true true false h = (refl, refl)
both_true false b h = cc

both : (a b : Bool) → a ≡ true → b ≡ false → (a && not b) ≡ true
both a b p q = ap (λ x. x && not b) p ∙ ap (λ x. true && not x) q

is_false : (b : Bool) → (b ≡ true → ⊥) → b ≡ false
is_false true h = absurd (h refl)
is_false false h = refl

pub plan : (there kept keys : List (List ℕ)) (set : BTreeSet (List ℕ)) → IsOrdered path_cmp set → keys ≡ set.keys
    → ((q : List ℕ) → contains path_cmp set q ≡ (listed q there && not (listed q kept))) → IsPlan there kept keys
plan there kept keys set up e is =
    subst (IsPlan there kept) (sym e) (record {
      ordered = up;
      only = λ q h.
          let held : (listed q there && not (listed q kept)) ≡ true = sym (is q) ∙ (btree_set_contains_iff nat_list_cmp_total exact_bytes set q).1 h in
          let parts = both_true (listed q there) (listed q kept) held in (
            Contains-from_any tied q there parts.0,
            λ k. let clash : true ≡ false = sym (list_any-from_Contains (eq_by_cmp_equiv nat_list_cmp_total) q kept k)
                ∙ parts.1 in absurd (cc),
          );
      each = λ q t k. (btree_set_contains_iff nat_list_cmp_total exact_bytes set q).0
          (is q ∙ both (listed q there) (listed q kept) (list_any-from_Contains (eq_by_cmp_equiv nat_list_cmp_total) q there t)
          (is_false (listed q kept) (λ h. k (Contains-from_any tied q kept h))));
    })
