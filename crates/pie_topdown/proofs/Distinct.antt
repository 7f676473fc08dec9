-- Whether no path is written twice, as a set of those before tells.
use Rattle.std.proofs.Common.{◌≡◌, ◌≢◌, ℕ, zero, suc, ◌+◌, ◌<◌, Bool, true, false, not, cond, List, [], ◌∷◌, ◌++◌, Contains, length, map, take, get_or, refl, sym, ap, subst, ◌∙◌, arith}
use Rattle.std.specs.Prelude.{◌||◌, Some}
use Rattle.std.specs.Ordering.{nat_cmp, eq_by_cmp}
use Rattle.std.specs.BTreeMap.{is_at}
use Rattle.std.specs.Cmp.{eq_by_cmp_equiv}
use Rattle.std.specs.Cmp.Lexicographic.{slice_cmp, nat_list_cmp_total}
use Rattle.std.proofs.lemmas.Bool.{false≢true}
use Rattle.std.proofs.lemmas.List.{take_more, get_or-take, get_or_default, length-map, length-take-le}
use Rattle.std.proofs.lemmas.List.Folds.{list_any-append}
use Rattle.std.proofs.lemmas.List.Quantifiers.{all_pairs_push}
use Rattle.std.proofs.lemmas.Map.Views.{Contains-from_any, list_any-from_Contains, tells_apart}
use Rattle.pie_files.specs.inner.Held.{is_among}
use Rattle.pie_files.proofs.HeldLemmas.{antisymmetric}
use Rattle.pie_files.proofs.OrderedPaths.{one_gained}
use Rattle.pie_topdown_result_laws.specs.Builds.{WritesOnce}

abbrev Write : Type 0
Write = List ℕ × List ℕ

abbrev pub paths_of : List Write → List (List ℕ)
paths_of ws = map (λ (w : Write). w.0) ws

-- a path is among these as far as equality tells
there : (q : List ℕ) (ps : List (List ℕ)) → is_among q ps ≡ true → Contains ps q
there q ps h = Contains-from_any (tells_apart antisymmetric) q ps h

back : (q : List ℕ) (ps : List (List ℕ)) → Contains ps q → is_among q ps ≡ true
back q ps h = list_any-from_Contains (eq_by_cmp_equiv nat_list_cmp_total) q ps h

-- none is written twice of the first ones, and the set has their paths
pub record HasPaths (writes : List Write) (i : ℕ) (keys : List (List ℕ)) : Type 0 where
  pub once : WritesOnce (take i writes)
  pub among : (q : List ℕ) → is_among q keys ≡ is_among q (paths_of (take i writes))

pub no_paths : (writes : List Write) (keys : List (List ℕ)) → keys ≡ [] → HasPaths writes 0 keys
no_paths writes keys none = record {
  once = λ i j d lt within. absurd (omega (arith, within));
  among = λ q. ap (is_among q) none;
}

paths_push : (ws : List Write) (w : Write) → paths_of (ws ++ w ∷ []) ≡ paths_of ws ++ w.0 ∷ []
paths_push [] w = refl
paths_push (v ∷ ws) w = ap (λ ps. v.0 ∷ ps) (paths_push ws w)

turned : (a b : Bool) → ((a || false) || b) ≡ (b || (a || false))
turned true true = refl
turned true false = refl
turned false true = refl
turned false false = refl

path_at : (ws : List Write) (k : ℕ) (d : Write) → k < length ws → get_or (paths_of ws) k d.0 ≡ (get_or ws k d).0
path_at [] k d l = absurd (omega (arith, l))
path_at (w ∷ ws) zero d l = refl
path_at (w ∷ ws) (suc k) d l = path_at ws k d (omega (arith, l))

module _ (writes : List Write) (i : ℕ) (d : Write) (keys new : List (List ℕ)) (path : List ℕ) (added : Bool) (inside : i < length writes)
    (at : path ≡ (get_or writes i d).0) (tells : added ≡ not (is_among path keys)) (has : HasPaths writes i keys) where
  abbrev w : Write
  w = get_or writes i d

  -- it is a new one
  pub path_more : added ≡ true → ((q : List ℕ) → is_among q new ≡ cond (is_at (slice_cmp nat_cmp path) q) true (is_among q keys))
      → HasPaths writes (i + 1) new
  path_more fresh gains = record {
    once = subst WritesOnce (sym (take_more writes i d inside))
        (all_pairs_push (λ (v x : Write). v.0 ≢ x.0) (take i writes) w has.once (λ k e within same. new_one k e within same));
    among = λ q. gained q ∙ turned (eq_by_cmp (slice_cmp nat_cmp) q path) (is_among q keys)
        ∙ ap (λ b. b || (eq_by_cmp (slice_cmp nat_cmp) q path || false)) (has.among q)
        ∙ sym (list_any-append (eq_by_cmp (slice_cmp nat_cmp) q) (paths_of (take i writes)) (path ∷ []))
        ∙ ap (λ p. is_among q (paths_of (take i writes) ++ p ∷ [])) at
        ∙ ap (is_among q) (sym (paths_push (take i writes) w)) ∙ ap (λ ws. is_among q (paths_of ws)) (sym (take_more writes i d inside));
  }
    where
      gained : (q : List ℕ) → is_among q new ≡ (is_among q (path ∷ []) || is_among q keys)
      gained = one_gained keys new (Some path) path refl gains

      none : (b : Bool) → true ≡ not b → b ≡ true → ⊥
      none true e f = false≢true (sym e)
      none false e f = false≢true f

      new_one : (k : ℕ) (e : Write) → k < length (take i writes) → (get_or (take i writes) k e).0 ≡ w.0 → ⊥
      new_one k e within same =
          none (is_among path keys) (sym fresh ∙ tells)
          (has.among path
          ∙ back path (paths_of (take i writes)) (
            k,
            subst (λ n. k < n) (sym (length-map (take i writes) (λ (v : Write). v.0))) within,
            (path_by k within ∙ same ∙ sym at),
          ))
        where
          path_by : (k : ℕ) → k < length (take i writes) → get_or (paths_of (take i writes)) k path ≡ (get_or (take i writes) k e).0
          path_by k l = get_or_default (paths_of (take i writes)) k path e.0 (subst (λ n. k < n) (sym (length-map (take i writes) (λ (v : Write). v.0))) l)
              ∙ path_at (take i writes) k e l

  -- or it was there
  pub path_twice : added ≡ false → WritesOnce writes → ⊥
  path_twice off once =
      by (there path (paths_of (take i writes)) (sym (has.among path) ∙ found (is_among path keys) (sym off ∙ tells)))
    where
      found : (b : Bool) → false ≡ not b → b ≡ true
      found true e = refl
      found false e = absurd (false≢true e)

      by : Contains (paths_of (take i writes)) path → ⊥
      by c =
          let within : c.0 < length (take i writes) = subst (λ n. c.0 < n) (length-map (take i writes) (λ (v : Write). v.0)) c.1 in
          let below : c.0 < i = (let size = length-take-le i writes (omega (arith, inside)) in omega (arith, within, size)) in
          once c.0 i d below inside
          (ap (λ (x : Write). x.0) (sym (get_or-take i writes c.0 d below)) ∙ sym (path_at (take i writes) c.0 d within)
          ∙ get_or_default (paths_of (take i writes)) c.0 d.0 path c.1 ∙ c.2 ∙ at)
