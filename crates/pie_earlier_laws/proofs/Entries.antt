-- The entries of a directory are decided by the files below it.
use Rattle.std.proofs.Common.{ℕ, ◌≡◌, ◌||◌, Bool, true, false, Option, Some, None, option_map, List, [], ◌∷◌, ◌++◌, ◌⊎◌, inl, inr, sym, ◌∙◌, ap, subst, refl}
use Rattle.std.specs.Prelude.{is_some}
use Rattle.std.specs.List.{filter_map, cons_option}
use Rattle.std.specs.Ordering.{nat_cmp, is_eq, eq_by_cmp}
use Rattle.std.specs.declared.cmp.Ordering.{Ordering}
use Rattle.std.specs.declared.cmp.Ordering.TheVariants.{Less, Equal, Greater}
use Rattle.std.specs.Cmp.Lexicographic.{slice_cmp}
use Rattle.std.specs.FinMap as fin
use Rattle.std.proofs.lemmas.Cmp.{tied_itself, nat_list_cmp_total}
use Rattle.std.proofs.lemmas.Map.Lookups.{exact_bytes}
use Rattle.pie_base.specs.Path.{rest_below, is_below, entry_on_way, first_segment}
use Rattle.pie_files.specs.Directory.{Directory, file_at, paths_of, entries_of}
use Rattle.pie_files.specs.inner.Held.{is_among}
use Rattle.pie_files.proofs.OrderedPaths.{same_in_order}

tied : (o : Ordering) → is_eq o ≡ true → o ≡ Equal
tied Less e = cc
tied Equal e = refl
tied Greater e = cc

same_path : (p q : List ℕ) → eq_by_cmp (slice_cmp nat_cmp) p q ≡ true → p ≡ q
same_path p q e = exact_bytes p q (tied (slice_cmp nat_cmp p q) e)

path_same : (p : List ℕ) → eq_by_cmp (slice_cmp nat_cmp) p p ≡ true
path_same p = ap is_eq (tied_itself nat_list_cmp_total p)

either_of : (b c : Bool) → (b || c) ≡ true → (b ≡ true) ⊎ (c ≡ true)
either_of true c h = inl refl
either_of false c h = inr h

or_left : (b c : Bool) → b ≡ true → (b || c) ≡ true
or_left true c h = refl
or_left false c h = cc

or_right : (b c : Bool) → c ≡ true → (b || c) ≡ true
or_right true c h = refl
or_right false c h = h

in_front : (p : List ℕ) (ps : List (List ℕ)) → is_among p (p ∷ ps) ≡ true
in_front p ps = or_left (eq_by_cmp (slice_cmp nat_cmp) p p) (is_among p ps) (path_same p)

-- ---- what a filter keeps

module _ (f : List ℕ → Option (List ℕ)) where
  -- a kept path comes from one of these
  record ComesFrom (ks : List (List ℕ)) (e : List ℕ) : Type 0 where
    path : List ℕ
    listed : is_among path ks ≡ true
    gives : f path ≡ Some e

  sooner : (k : List ℕ) (ks : List (List ℕ)) (e : List ℕ) → ComesFrom ks e → ComesFrom (k ∷ ks) e
  sooner k ks e c =
      record { path = c.path; listed = or_right (eq_by_cmp (slice_cmp nat_cmp) c.path k) (is_among c.path ks) c.listed; gives = c.gives }

  kept_from : (ks : List (List ℕ)) (e : List ℕ) → is_among e (filter_map f ks) ≡ true → ComesFrom ks e
  kept_from [] e h = cc
  kept_from (k ∷ ks) e h = go (f k) refl h (kept_from ks e)
    where
      here : (x : List ℕ) → f k ≡ Some x → (eq_by_cmp (slice_cmp nat_cmp) e x ≡ true) ⊎ (is_among e (filter_map f ks) ≡ true)
          → (is_among e (filter_map f ks) ≡ true → ComesFrom ks e) → ComesFrom (k ∷ ks) e
      here x q (inl i) more = record { path = k; listed = in_front k ks; gives = q ∙ ap Some (sym (same_path e x i)) }
      here x q (inr i) more = sooner k ks e (more i)

      go : (o : Option (List ℕ)) → f k ≡ o → is_among e (cons_option o (filter_map f ks)) ≡ true
          → (is_among e (filter_map f ks) ≡ true → ComesFrom ks e) → ComesFrom (k ∷ ks) e
      go None q i more = sooner k ks e (more i)
      go (Some x) q i more = here x q (either_of (eq_by_cmp (slice_cmp nat_cmp) e x) (is_among e (filter_map f ks)) i) more

  from_kept : (ks : List (List ℕ)) (p e : List ℕ) → is_among p ks ≡ true → f p ≡ Some e → is_among e (filter_map f ks) ≡ true
  from_kept [] p e i h = cc
  from_kept (k ∷ ks) p e i h =
      go (f k) refl (either_of (eq_by_cmp (slice_cmp nat_cmp) p k) (is_among p ks) i) (λ j. from_kept ks p e j h)
    where
      is_that : (x : List ℕ) → f k ≡ Some x → p ≡ k → eq_by_cmp (slice_cmp nat_cmp) e x ≡ true
      is_that x q r =
          subst (λ z. eq_by_cmp (slice_cmp nat_cmp) e z ≡ true) (some_same e x (sym h ∙ ap f r ∙ q)) (path_same e)
        where
          some_same : (a b : List ℕ) → Some a ≡ Some b → a ≡ b
          some_same a b s = cc

      nothing : {A : Type 0} → f k ≡ None → p ≡ k → A
      nothing q r = absurd (never (sym q ∙ ap f (sym r) ∙ h))
        where
          never : None ≡ Some e → ⊥
          never s = cc

      go : (o : Option (List ℕ)) → f k ≡ o → (eq_by_cmp (slice_cmp nat_cmp) p k ≡ true) ⊎ (is_among p ks ≡ true)
          → (is_among p ks ≡ true → is_among e (filter_map f ks) ≡ true)
          → is_among e (cons_option o (filter_map f ks)) ≡ true
      go None q (inl r) more = nothing q (same_path p k r)
      go None q (inr j) more = more j
      go (Some x) q (inl r) more =
          or_left (eq_by_cmp (slice_cmp nat_cmp) e x) (is_among e (filter_map f ks)) (is_that x q (same_path p k r))
      go (Some x) q (inr j) more = or_right (eq_by_cmp (slice_cmp nat_cmp) e x) (is_among e (filter_map f ks)) (more j)

-- ---- entries

entry_below : (dir p e : List ℕ) (o : Option (List ℕ)) → rest_below dir p ≡ o → entry_on_way dir p ≡ Some e → is_below dir p ≡ true
entry_below dir p e (Some r) q h = ap is_some q
entry_below dir p e None q h = absurd (never (sym (ap (λ z. option_map (λ rest. dir ++ 47 ∷ first_segment rest) z) q) ∙ h))
  where
    never : None ≡ Some e → ⊥
    never s = cc

module _ (a b : Directory) (dir : List ℕ) (same : (p : List ℕ) → is_below dir p ≡ true → file_at a p ≡ file_at b p) where
  there : (e : List ℕ) → is_among e (filter_map (entry_on_way dir) (paths_of a)) ≡ true → is_among e (filter_map (entry_on_way dir) (paths_of b)) ≡ true
  there e h =
      let c = kept_from (entry_on_way dir) (paths_of a) e h in
      let below : is_below dir c.path ≡ true = entry_below dir c.path e (rest_below dir c.path) refl c.gives in
      from_kept (entry_on_way dir) (paths_of b) c.path e
      (sym (fin.contains_key-keys b c.path) ∙ ap is_some (sym (same c.path below)) ∙ fin.contains_key-keys a c.path ∙ c.listed) c.gives

both_ways : (b c : Bool) → (b ≡ true → c ≡ true) → (c ≡ true → b ≡ true) → b ≡ c
both_ways true c f g = sym (f refl)
both_ways false true f g = g refl
both_ways false false f g = refl

-- directories with the same files below a directory list it alike
pub same_entries : (a b : Directory) (dir : List ℕ) → ((p : List ℕ) → is_below dir p ≡ true → file_at a p ≡ file_at b p)
    → entries_of a dir ≡ entries_of b dir
same_entries a b dir same =
    same_in_order (filter_map (entry_on_way dir) (paths_of a)) (filter_map (entry_on_way dir) (paths_of b))
    (λ e. both_ways (is_among e (filter_map (entry_on_way dir) (paths_of a))) (is_among e (filter_map (entry_on_way dir) (paths_of b)))
    (there a b dir same e) (there b a dir (λ p k. sym (same p k)) e))
