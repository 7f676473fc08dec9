-- What a scan finds is what the directory has at the scanned paths.
use Rattle.std.proofs.Common.{◌≡◌, ℕ, Bool, true, false, ◌&&◌, cond, List, [], ◌∷◌, refl, sym, ap, ◌∙◌, subst}
use Rattle.std.specs.Prelude.{◌||◌, Option, None, Some, IfSome, is_some}
use Rattle.std.specs.Option.{option_map}
use Rattle.std.specs.List.{filter, filter_map, cons_option, flat_map}
use Rattle.std.specs.List.Sorted.{IsStrictlySortedBy}
use Rattle.std.specs.Ordering.{nat_cmp, eq_by_cmp}
use Rattle.std.specs.Cmp.Lexicographic.{slice_cmp}
use Rattle.std.specs.FinMap as fin
use Rattle.std.proofs.lemmas.List.Folds.{list_any-append}
use Rattle.pie_base.specs.Path.{same_text, is_below, is_out, is_source}
use Rattle.pie_files.specs.Directory.{Directory, file_at, files_under, paths_of}
use Rattle.pie_files.specs.inner.Held.{is_among}
use Rattle.pie_scan.specs.declared.entry.Entry.{Entry}
use Rattle.pie_scan.specs.Entries.{path_cmp, paths_in, AreInOrder, entry_at}
use Rattle.pie_scan.specs.Scanned.{is_within, is_scanned, entry_of, entry_in, AreScanned, out_dir, found_below, found_paths}
use Rattle.pie_scan.proofs.Naming.{same_is, same_swap, tie_is}
use Rattle.pie_scan.proofs.Merging.{AllAbove}

-- ---- the entries of paths

-- in order
above_entries : (d : Directory) (p : List ℕ) (paths : List (List ℕ)) → AllAbove p paths → AllAbove p (paths_in (filter_map (entry_in d) paths))
above_entries d p [] h = tt
above_entries d p (path ∷ paths) h = by (file_at d path) (above_entries d p paths h.1)
  where
    by : (o : Option (List ℕ × ℕ)) → AllAbove p (paths_in (filter_map (entry_in d) paths))
        → AllAbove p (paths_in (cons_option (option_map (entry_of path) o) (filter_map (entry_in d) paths)))
    by None more = more
    by (Some f) more = (h.0, more)

entries_ordered : (d : Directory) (paths : List (List ℕ)) → IsStrictlySortedBy path_cmp paths → AreInOrder (filter_map (entry_in d) paths)
unfolding IsStrictlySortedBy
entries_ordered d [] h = tt
entries_ordered d (path ∷ paths) h = by (file_at d path) (entries_ordered d paths h.1)
  where
    by : (o : Option (List ℕ × ℕ)) → AreInOrder (filter_map (entry_in d) paths)
        → AreInOrder (cons_option (option_map (entry_of path) o) (filter_map (entry_in d) paths))
    by None more = more
    by (Some f) more = (above_entries d path paths h.0, more)

-- at each path
cond_twice : {A : Type 0} (b : Bool) (o : Option A) → o ≡ cond b o o
cond_twice true o = refl
cond_twice false o = refl

entry_found : (d : Directory) (paths : List (List ℕ)) (q : List ℕ)
    → entry_at (filter_map (entry_in d) paths) q ≡ cond (is_among q paths) (entry_in d q) None
entry_found d [] q = refl
entry_found d (path ∷ paths) q = by (file_at d path) refl (entry_found d paths q)
  where
    rest : Option Entry
    rest = entry_at (filter_map (entry_in d) paths) q

    -- at another path
    apart : (b : Bool) → same_text path q ≡ b → b ≡ false → (eq_by_cmp (slice_cmp nat_cmp) q path || is_among q paths) ≡ is_among q paths
    apart b e f = ap (λ (c : Bool). c || is_among q paths) (tie_is q path ∙ same_swap q path ∙ e ∙ f)

    here : same_text path q ≡ true → (eq_by_cmp (slice_cmp nat_cmp) q path || is_among q paths) ≡ true
    here e = ap (λ (c : Bool). c || is_among q paths) (tie_is q path ∙ same_swap q path ∙ e)

    absent_by : (b : Bool) → same_text path q ≡ b → file_at d path ≡ None → rest ≡ cond (is_among q paths) (entry_in d q) None
        → rest ≡ cond (eq_by_cmp (slice_cmp nat_cmp) q path || is_among q paths) (entry_in d q) None
    absent_by true e none more =
        let gone : entry_in d q ≡ None = ap (λ (p : List ℕ). entry_in d p) (sym (same_is path q e)) ∙ ap (option_map (entry_of path)) none in
        more ∙ ap (λ (o : Option Entry). cond (is_among q paths) o None) gone ∙ sym (cond_twice (is_among q paths) None)
        ∙ sym (ap (λ (c : Bool). cond c (entry_in d q) None) (here e) ∙ gone)
    absent_by false e none more = more ∙ ap (λ (c : Bool). cond c (entry_in d q) None) (sym (apart false e refl))

    there_by : (b : Bool) (f : List ℕ × ℕ) → same_text path q ≡ b → file_at d path ≡ Some f → rest ≡ cond (is_among q paths) (entry_in d q) None
        → cond b (Some (entry_of path f)) rest ≡ cond (eq_by_cmp (slice_cmp nat_cmp) q path || is_among q paths) (entry_in d q) None
    there_by true f e some more =
        let this : entry_in d q ≡ Some (entry_of path f) =
        ap (λ (p : List ℕ). entry_in d p) (sym (same_is path q e)) ∙ ap (option_map (entry_of path)) some in
        sym (ap (λ (c : Bool). cond c (entry_in d q) None) (here e) ∙ this)
    there_by false f e some more = more ∙ ap (λ (c : Bool). cond c (entry_in d q) None) (sym (apart false e refl))

    by : (o : Option (List ℕ × ℕ)) → file_at d path ≡ o → rest ≡ cond (is_among q paths) (entry_in d q) None
        → entry_at (cons_option (option_map (entry_of path) o) (filter_map (entry_in d) paths)) q
        ≡ cond (eq_by_cmp (slice_cmp nat_cmp) q path || is_among q paths) (entry_in d q) None
    by None e more = absent_by (same_text path q) refl e more
    by (Some f) e more = there_by (same_text path q) f refl e more

-- ---- the paths that are looked at

among_filter : (p : List ℕ → Bool) (q : List ℕ) (xs : List (List ℕ)) → is_among q (filter p xs) ≡ (p q && is_among q xs)
among_filter p q [] = none (p q)
  where
    none : (b : Bool) → false ≡ (b && false)
    none true = refl
    none false = refl
among_filter p q (x ∷ xs) = by (p x) (same_text q x) refl refl (among_filter p q xs)
  where
    eq : Bool
    eq = eq_by_cmp (slice_cmp nat_cmp) q x

    spread : (b c : Bool) → (b && c) ≡ (b && (false || c))
    spread b c = refl

    full : (b c : Bool) → b ≡ true → true ≡ (b && (true || c))
    full true c e = refl
    full false c e = absurd (cc)

    empty : (b c r : Bool) → b ≡ false → r ≡ (b && c) → r ≡ (b && (true || c))
    empty true c r e f = absurd (cc)
    empty false c r e f = f

    by : (b s : Bool) → p x ≡ b → same_text q x ≡ s → is_among q (filter p xs) ≡ (p q && is_among q xs)
        → is_among q (cond b (x ∷ filter p xs) (filter p xs)) ≡ (p q && (eq || is_among q xs))
    by true true e f more =
        let t : eq ≡ true = tie_is q x ∙ f in
        ap (λ (c : Bool). c || is_among q (filter p xs)) t ∙ full (p q) (is_among q xs) (ap p (same_is q x f) ∙ e)
        ∙ ap (λ (c : Bool). p q && (c || is_among q xs)) (sym t)
    by true false e f more =
        let t : eq ≡ false = tie_is q x ∙ f in
        ap (λ (c : Bool). c || is_among q (filter p xs)) t ∙ more ∙ ap (λ (c : Bool). p q && (c || is_among q xs)) (sym t)
    by false true e f more =
        let t : eq ≡ true = tie_is q x ∙ f in
        empty (p q) (is_among q xs) (is_among q (filter p xs)) (ap p (same_is q x f) ∙ e) more ∙ ap (λ (c : Bool). p q && (c || is_among q xs)) (sym t)
    by false false e f more =
        let t : eq ≡ false = tie_is q x ∙ f in more ∙ ap (λ (c : Bool). p q && (c || is_among q xs)) (sym t)

module _ (d : Directory) (q : List ℕ) (there : is_some (file_at d q) ≡ true) where
  -- a file that is there lies below a directory
  below_is : (dir : List ℕ) → is_among q (files_under d dir) ≡ is_below dir q
  below_is dir =
      among_filter (is_below dir) q (paths_of d)
      ∙ ap (λ (b : Bool). is_below dir q && b) (sym (fin.contains_key-keys d q) ∙ there) ∙ and_true (is_below dir q)
    where
      and_true : (b : Bool) → (b && true) ≡ b
      and_true true = refl
      and_true false = refl

  top_is : (top : List ℕ) → is_among q (found_below d top) ≡ (is_source q && (same_text top q || is_below top q))
  top_is top =
      among_filter is_source q (top ∷ files_under d top)
      ∙ ap (λ (b : Bool). is_source q && (b || is_among q (files_under d top))) (tie_is q top ∙ same_swap q top)
      ∙ ap (λ (b : Bool). is_source q && (same_text top q || b)) (below_is top)

  tops_is : (tops : List (List ℕ)) → is_among q (flat_map (found_below d) tops) ≡ (is_source q && is_within tops q)
  tops_is [] = none (is_source q)
    where
      none : (b : Bool) → false ≡ (b && false)
      none true = refl
      none false = refl
  tops_is (top ∷ tops) =
      list_any-append (eq_by_cmp (slice_cmp nat_cmp) q) (found_below d top) (flat_map (found_below d) tops)
      ∙ ap (λ (b : Bool). b || is_among q (flat_map (found_below d) tops)) (top_is top)
      ∙ ap (λ (b : Bool). (is_source q && (same_text top q || is_below top q)) || b) (tops_is tops)
      ∙ joined (is_source q) (same_text top q || is_below top q) (is_within tops q)
    where
      joined : (s a b : Bool) → ((s && a) || (s && b)) ≡ (s && (a || b))
      joined true a b = refl
      joined false a b = refl

  found_is : (tops : List (List ℕ)) → is_among q (found_paths d tops) ≡ is_scanned tops q
  found_is tops =
      list_any-append (eq_by_cmp (slice_cmp nat_cmp) q) (flat_map (found_below d) tops) (files_under d out_dir)
      ∙ ap (λ (b : Bool). b || is_among q (files_under d out_dir)) (tops_is tops)
      ∙ ap (λ (b : Bool). (is_source q && is_within tops q) || b) (below_is out_dir)
      ∙ swapped (is_source q && is_within tops q) (is_out q)
    where
      swapped : (a b : Bool) → (a || b) ≡ (b || a)
      swapped true true = refl
      swapped true false = refl
      swapped false true = refl
      swapped false false = refl

scanned_is : (d : Directory) (tops : List (List ℕ)) (q : List ℕ)
    → cond (is_among q (found_paths d tops)) (entry_in d q) None ≡ cond (is_scanned tops q) (entry_in d q) None
scanned_is d tops q = by (file_at d q) refl
  where
    by : (o : Option (List ℕ × ℕ)) → file_at d q ≡ o
        → cond (is_among q (found_paths d tops)) (entry_in d q) None ≡ cond (is_scanned tops q) (entry_in d q) None
    by None e =
        let gone : entry_in d q ≡ None = ap (option_map (entry_of q)) e in
        ap (λ (n : Option Entry). cond (is_among q (found_paths d tops)) n None) gone ∙ sym (cond_twice (is_among q (found_paths d tops)) None)
        ∙ cond_twice (is_scanned tops q) None ∙ ap (λ (n : Option Entry). cond (is_scanned tops q) n None) (sym gone)
    by (Some f) e = ap (λ (b : Bool). cond b (entry_in d q) None) (found_is d q (ap is_some e) tops)

-- ---- the scan

pub scanned_all : (d : Directory) (tops paths : List (List ℕ)) (entries : List Entry) → IsStrictlySortedBy path_cmp paths
    → ((q : List ℕ) → is_among q paths ≡ is_among q (found_paths d tops)) → entries ≡ filter_map (entry_in d) paths → AreScanned d tops entries
scanned_all d tops paths entries sorted same is = subst (AreScanned d tops) (sym is) (record {
  ordered = entries_ordered d paths sorted;
  each = λ q.
      entry_found d paths q ∙ ap (λ (b : Bool). cond b (entry_in d q) None) (same q) ∙ scanned_is d tops q;
})

pub scanned_if : (o : Option Directory) (tops paths : List (List ℕ)) (entries : List Entry) → IsStrictlySortedBy path_cmp paths
    → IfSome o (λ d. (q : List ℕ) → is_among q paths ≡ is_among q (found_paths d tops)) → IfSome o (λ d. entries ≡ filter_map (entry_in d) paths)
    → IfSome o (λ d. AreScanned d tops entries)
scanned_if None tops paths entries sorted same is = tt
scanned_if (Some d) tops paths entries sorted same is = scanned_all d tops paths entries sorted same is
