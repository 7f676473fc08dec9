-- The directories above a path, one after another.
use Rattle.std.proofs.Common.{◌≡◌, ℕ, suc, ◌≤◌, ◌<◌, Bool, true, false, cond, ◌||◌, ◌&&◌, ◌==◌, List, [], ◌∷◌, length, Option, Some, None}
use Rattle.std.proofs.Common.{ap, sym, subst, refl, ◌∙◌, is_some, arith}
use Rattle.std.specs.Option.{option_map_or}
use Rattle.std.specs.Ordering.{nat_cmp, is_eq}
use Rattle.std.specs.Cmp.Lexicographic.{slice_cmp}
use Rattle.std.proofs.lemmas.Cmp.{nat_list_cmp_total, eq_by_cmp_equiv}
use Rattle.pie_base.specs.Path.{is_below, is_slash, parent_of, rest_below, same_text}
use Rattle.pie_graph.proofs.EdgeOrder.{text_tie}
use Rattle.pie_named.specs.declared.paths.Paths.{Paths}
use Rattle.pie_named.specs.inner.Names.{has}
use Rattle.pie_named.specs.inner.Above.{Adds, at_or_above, Rises}

-- a directory is above a path where it is the parent, or above that
below_by_parent : (q path : List ℕ) → at_or_above q (parent_of path) ≡ is_below q path
below_by_parent [] [] = refl
below_by_parent [] (b ∷ path) = by (parent_of path) (is_slash b) refl
  where
    by : (o : Option (List ℕ)) (t : Bool) → is_slash b ≡ t
        → at_or_above [] (option_map_or (λ front. Some (b ∷ front)) o (cond t (Some []) None)) ≡ is_some (cond t (Some path) None)
    by (Some front) true e = ap (λ t. is_some (cond t (Some front) None)) e
    by (Some front) false e = ap (λ t. is_some (cond t (Some front) None)) e
    by None true e = refl
    by None false e = refl
below_by_parent (c ∷ q) [] = refl
below_by_parent (c ∷ q) (b ∷ path) = by (parent_of path) (is_slash b) (c == b) refl (below_by_parent q path)
  where
    by : (o : Option (List ℕ)) (s t : Bool) → (c == b) ≡ t → at_or_above q o ≡ is_below q path
        → at_or_above (c ∷ q) (option_map_or (λ front. Some (b ∷ front)) o (cond s (Some []) None)) ≡ is_some (cond t (rest_below q path) None)
    by (Some front) s true e ih = ap (λ t. (t && same_text q front) || is_some (cond t (rest_below q front) None)) e ∙ ih
    by (Some front) s false e ih = ap (λ t. (t && same_text q front) || is_some (cond t (rest_below q front) None)) e
    by None true true e ih = ih
    by None false true e ih = ih
    by None true false e ih = refl
    by None false false e ih = refl

-- how much there is still to go up
abbrev pub way : Option (List ℕ) → ℕ
way None = 0
way (Some dir) = suc (length dir)

shorter : (path : List ℕ) → way (parent_of path) ≤ length path
shorter [] = omega arith
shorter (b ∷ path) = by (parent_of path) (is_slash b) (shorter path)
  where
    by : (o : Option (List ℕ)) (t : Bool) → way o ≤ length path
        → way (option_map_or (λ front. Some (b ∷ front)) o (cond t (Some []) None)) ≤ suc (length path)
    by (Some front) t le = omega (arith, le)
    by None true le = omega arith
    by None false le = omega arith

pub way_falls : (dir : List ℕ) (up : Option (List ℕ)) → up ≡ parent_of dir → way up < way (Some dir)
way_falls dir up is = subst (λ o. way o < suc (length dir)) (sym is) (omega (arith, shorter dir))

pub begins_above : (first : Paths) (path : List ℕ) (at : Option (List ℕ)) → at ≡ parent_of path → Rises first first path at
begins_above first path at is q = ap (λ o. at_or_above q o || has first q) is ∙ ap (λ t. t || has first q) (below_by_parent q path)

shuffled : (b s n : Bool) → (b || cond s true n) ≡ ((s || b) || n)
shuffled true true n = refl
shuffled true false n = refl
shuffled false true n = refl
shuffled false false n = refl

tied : (dir q : List ℕ) → is_eq (slice_cmp nat_cmp dir q) ≡ same_text q dir
tied dir q = (eq_by_cmp_equiv nat_list_cmp_total).symm dir q ∙ text_tie q dir

pub goes_up : (first now next : Paths) (path dir : List ℕ) (up : Option (List ℕ)) → up ≡ parent_of dir → Adds now next dir → Rises first now path (Some dir)
    → Rises first next path up
goes_up first now next path dir up is adds before q =
    ap (λ o. at_or_above q o || has next q) is ∙ ap (λ t. t || has next q) (below_by_parent q dir) ∙ ap (λ t. is_below q dir || t) (adds q)
    ∙ ap (λ s. is_below q dir || cond s true (has now q)) (tied dir q) ∙ shuffled (is_below q dir) (same_text q dir) (has now q) ∙ before q

pub ends_above : (first now : Paths) (path : List ℕ) → Rises first now path None → (q : List ℕ) → has now q ≡ (is_below q path || has first q)
ends_above first now path rises q = rises q
