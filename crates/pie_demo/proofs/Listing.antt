-- The files below a directory: which paths they are, and that two directories list them alike where they have files at the same paths.
use Rattle.std.proofs.Common.{◌≡◌, ◌⊎◌, ◌↔◌, ◌==◌, IsTrue, inl, inr, ⊎_elim, not, codes}
use Rattle.std.proofs.Common.{ℕ, Bool, true, false, cond, List, [], ◌∷◌, refl, sym, ap, ◌∙◌, subst, Option, None, Some}
use Rattle.std.specs.Prelude.{◌&&◌, ◌||◌, is_some, map, T}
use Rattle.std.specs.List.{filter, list_any, list_all, AllByRecursion}
use Rattle.std.specs.List.Sorted.{IsStrictlySortedBy}
use Rattle.std.specs.Option.{option_map}
use Rattle.std.specs.Ordering.{nat_cmp, eq_by_cmp, is_lt}
use Rattle.std.specs.declared.cmp.Ordering.{Ordering}
use Rattle.std.specs.declared.cmp.Ordering.TheVariants.{Less, Equal, Greater}
use Rattle.std.specs.Cmp.{eq_by_cmp_equiv}
use Rattle.std.specs.Cmp.Lexicographic.{slice_cmp, texts_ties, nat_list_cmp_total}
use Rattle.std.specs.FinMap as fin
use Rattle.std.specs.FinMap.Entries.{below_all}
use Rattle.std.proofs.lemmas.Bool.{false≢true, and_parts}
use Rattle.std.proofs.lemmas.List.Kept.{IsStrictlySortedBy-filter}
use Rattle.std.proofs.lemmas.Map.Views.{any-filter_same}
use lib.Pointwise.{pointwise}
use Rattle.pie_base.specs.Path.{same_text, is_below}
use Rattle.pie_files.specs.Directory.{Directory, file_at, files_under, paths_of, in_path_order}
use Rattle.pie_files.proofs.OrderedPaths.{rising_in_order, same_in_order}
use Rattle.pie_files.specs.inner.Held.{is_among}
use Rattle.pie_incremental.specs.Own.{bytes_at}
use Rattle.pie_demo.specs.Copies.{same_file, same_at, is_compared, AreSameAt}
use Rattle.pie_demo.proofs.Setting.{same_path}

any_ties : (q : List ℕ) (paths : List (List ℕ)) → list_any (same_text q) paths ≡ list_any (eq_by_cmp (slice_cmp nat_cmp) q) paths
any_ties q [] = refl
any_ties q (p ∷ paths) = ap (λ (x : Bool). x || list_any (same_text q) paths) (texts_ties q p)
    ∙ ap (λ (x : Bool). eq_by_cmp (slice_cmp nat_cmp) q p || x) (any_ties q paths)

-- a path is listed where it is below the directory and a file is there
pub listed : (d : Directory) (top q : List ℕ) → list_any (same_text q) (files_under d top) ≡ (is_below top q && is_some (file_at d q))
listed d top q =
    any-filter_same (same_text q) (is_below top) (is_below top q) (λ k same. ap (is_below top) (sym (same_path q k same))) (paths_of d)
    ∙ ap (λ b. is_below top q && b) (any_ties q (paths_of d) ∙ sym (fin.contains_key-keys d q))

-- ---- the list rises, so it is one of its paths in order

first : (a b : Bool) → T (a && b) → T a
first true b p = tt
first false b p = p

second : (a b : Bool) → T (a && b) → T b
second true b p = p
second false b p = absurd p

less : (o : Ordering) → T (is_lt o) → o ≡ Less
less Less p = refl
less Equal p = absurd p
less Greater p = absurd p

below_each : {X : Type 0} (x : List ℕ) (es : List (List ℕ × X)) → T (below_all (slice_cmp nat_cmp) x es)
    → AllByRecursion (λ k. slice_cmp nat_cmp x k ≡ Less) (map (λ e. e.0) es)
below_each x [] h = tt
below_each x (e ∷ es) h = (less _ (first _ _ h), below_each x es (second _ _ h))

rising : {X : Type 0} (es : List (List ℕ × X)) → T (fin.is_sorted (slice_cmp nat_cmp) es) → IsStrictlySortedBy (slice_cmp nat_cmp) (map (λ e. e.0) es)
unfolding IsStrictlySortedBy
rising [] h = tt
rising (e ∷ es) h = (below_each e.0 es (first _ _ h), rising es (second _ _ h))

listed_in_order : (d : Directory) (top : List ℕ) → files_under d top ≡ in_path_order (files_under d top)
listed_in_order d top = rising_in_order (files_under d top)
    (IsStrictlySortedBy-filter (slice_cmp nat_cmp) (is_below top) (paths_of d) (rising (fin.entries d) (fin.entries_sorted d)))

among_listed : (d : Directory) (top q : List ℕ) → is_among q (files_under d top) ≡ (is_below top q && is_some (file_at d q))
among_listed d top q = sym (any_ties q (files_under d top)) ∙ listed d top q

has_bytes : (o : Option (List ℕ × ℕ)) → is_some o ≡ is_some (option_map (λ (f : List ℕ × ℕ). f.0) o)
has_bytes None = refl
has_bytes (Some f) = refl

both_below : (b c e : Bool) → (b ≡ true → c ≡ e) → (b && c) ≡ (b && e)
both_below true c e same = same refl
both_below false c e same = refl

-- where two directories have the same files below one, they list the same
pub same_lists : (d e : Directory) (top : List ℕ) → AreSameAt (is_below top) d e → files_under d top ≡ files_under e top
same_lists d e top same =
    listed_in_order d top
    ∙ same_in_order (files_under d top) (files_under e top) (λ q.
    among_listed d top q
    ∙ both_below (is_below top q) (is_some (file_at d q)) (is_some (file_at e q))
    (λ below. has_bytes (file_at d q) ∙ ap is_some (same q below) ∙ sym (has_bytes (file_at e q)))
    ∙ sym (among_listed e top q))
    ∙ sym (listed_in_order e top)

-- ---- what is compared at each path of the list

pub same_itself : (q : List ℕ) → same_text q q ≡ true
same_itself q = texts_ties q q ∙ (eq_by_cmp_equiv nat_list_cmp_total).refl q

pub same_file_is : (a b : Option (List ℕ)) → same_file a b ≡ true → a ≡ b
same_file_is None None h = refl
same_file_is (Some x) None h = absurd (false≢true h)
same_file_is None (Some y) h = absurd (false≢true h)
same_file_is (Some x) (Some y) h = ap Some (same_path x y h)

pub same_file_on : (a b : Option (List ℕ)) → a ≡ b → same_file a b ≡ true
same_file_on a b h = subst (λ x. same_file a x ≡ true) h (itself a)
  where
    itself : (a : Option (List ℕ)) → same_file a a ≡ true
    itself None = refl
    itself (Some x) = same_itself x

-- a test that holds of each of some paths holds of one among them
holds_of : (test : List ℕ → Bool) (q : List ℕ) (paths : List (List ℕ)) → list_all test paths ≡ true → list_any (same_text q) paths ≡ true → test q ≡ true
holds_of test q [] all any = absurd (false≢true any)
holds_of test q (p ∷ paths) all any =
    let parts = and_parts (test p) (list_all test paths) all in
    by parts.0 (holds_of test q paths parts.1) (same_text q p) refl
  where
    by : test p ≡ true → (list_any (same_text q) paths ≡ true → test q ≡ true) → (b : Bool) → same_text q p ≡ b → test q ≡ true
    by here rest true e = ap test (same_path q p e) ∙ here
    by here rest false e = rest (sym (ap (λ b. b || list_any (same_text q) paths) e) ∙ any)

-- a test that holds of all paths that pass another one holds of each that is kept
holds_of_kept : (test kept : List ℕ → Bool) (paths : List (List ℕ)) → ((q : List ℕ) → kept q ≡ true → test q ≡ true)
    → list_all test (filter kept paths) ≡ true
holds_of_kept test kept [] each = refl
holds_of_kept test kept (p ∷ paths) each = by (holds_of_kept test kept paths each) (kept p) refl
  where
    by : list_all test (filter kept paths) ≡ true → (b : Bool) → kept p ≡ b
        → list_all test (cond b (p ∷ filter kept paths) (filter kept paths)) ≡ true
    by rest true e = ap (λ b. b && list_all test (filter kept paths)) (each p e) ∙ rest
    by rest false e = rest

no_bytes : (o : Option (List ℕ × ℕ)) → is_some o ≡ false → option_map (λ (f : List ℕ × ℕ). f.0) o ≡ None
no_bytes None e = refl
no_bytes (Some f) e = absurd (false≢true (sym e))

pub absent : (d : Directory) (q : List ℕ) → is_some (file_at d q) ≡ false → bytes_at d q ≡ None
absent d q e = no_bytes (file_at d q) e

-- two directories that list the same, and have the same bytes at each path of the list, are the same below it
pub same_below : (d e : Directory) (top : List ℕ) → files_under d top ≡ files_under e top → list_all (same_at d e) (files_under d top) ≡ true
    → AreSameAt (is_below top) d e
same_below d e top lists all q below = by (is_some (file_at d q)) refl
  where
    there : (c : Directory) → list_any (same_text q) (files_under c top) ≡ is_some (file_at c q)
    there c = listed c top q ∙ ap (λ b. b && is_some (file_at c q)) below

    by : (b : Bool) → is_some (file_at d q) ≡ b → bytes_at d q ≡ bytes_at e q
    by true has = same_file_is (bytes_at d q) (bytes_at e q) (holds_of (same_at d e) q (files_under d top) all (there d ∙ has))
    by false has = absent d q has ∙ sym (absent e q (sym (there e) ∙ ap (list_any (same_text q)) (sym lists) ∙ there d ∙ has))

-- and the other way round
pub all_same_below : (d e : Directory) (top : List ℕ) → AreSameAt (is_below top) d e → list_all (same_at d e) (files_under d top) ≡ true
all_same_below d e top same =
    holds_of_kept (same_at d e) (is_below top) (paths_of d) (λ q below. same_file_on (bytes_at d q) (bytes_at e q) (same q below))

-- ---- what the code compares

lists_are : (xs ys : List (List ℕ)) → pointwise (pointwise ◌==◌) xs ys ≡ true → xs ≡ ys
lists_are [] [] h = refl
lists_are [] (y ∷ ys) h = absurd (false≢true h)
lists_are (x ∷ xs) [] h = absurd (false≢true h)
lists_are (x ∷ xs) (y ∷ ys) h =
    let parts = and_parts (same_text x y) (pointwise (pointwise ◌==◌) xs ys) h in
    ap (λ z. z ∷ xs) (same_path x y parts.0) ∙ ap (λ zs. y ∷ zs) (lists_are xs ys parts.1)

lists_on : (xs : List (List ℕ)) → pointwise (pointwise ◌==◌) xs xs ≡ true
lists_on [] = refl
lists_on (x ∷ xs) = ap (λ b. b && pointwise (pointwise ◌==◌) xs xs) (same_itself x) ∙ lists_on xs

turned : (b : Bool) → false ≡ not b → b ≡ true
turned true h = refl
turned false h = h

untrue : (b : Bool) → true ≡ not b → b ≡ true → ⊥
untrue true h e = false≢true (sym h)
untrue false h e = false≢true e

-- two directories that list other paths aren't the same
pub other_lists : (d e : Directory) (top : List ℕ) (xs ys : List (List ℕ)) → xs ≡ files_under d top → ys ≡ files_under e top
    → true ≡ not (pointwise (pointwise ◌==◌) xs ys) → IsTrue false ↔ AreSameAt (is_below top) d e
other_lists d e top xs ys of_d of_e other = (
  λ h. absurd (false≢true h),
  λ same. absurd (untrue (pointwise (pointwise ◌==◌) xs ys) other
      (subst (λ zs. pointwise (pointwise ◌==◌) xs zs ≡ true) (of_d ∙ same_lists d e top same ∙ sym of_e) (lists_on xs))),
)

-- and two that list the same paths are, where they have the same at each
pub alike_lists : (d e : Directory) (top : List ℕ) (xs ys : List (List ℕ)) (b : Bool) → xs ≡ files_under d top → ys ≡ files_under e top
    → false ≡ not (pointwise (pointwise ◌==◌) xs ys) → b ≡ list_all (same_at d e) xs → IsTrue b ↔ AreSameAt (is_below top) d e
alike_lists d e top xs ys b of_d of_e alike is = (
  λ h. same_below d e top (sym of_d ∙ lists_are xs ys (turned (pointwise (pointwise ◌==◌) xs ys) alike) ∙ of_e)
      (sym (ap (list_all (same_at d e)) of_d) ∙ sym is ∙ h),
  λ same. is ∙ ap (list_all (same_at d e)) of_d ∙ all_same_below d e top same,
)

-- ---- all of it

or_parts : (a b : Bool) → (a || b) ≡ true → (a ≡ true) ⊎ (b ≡ true)
or_parts true b h = inl refl
or_parts false b h = inr h

or_first : (a b : Bool) → a ≡ true → (a || b) ≡ true
or_first a b h = ap (λ x. x || b) h

or_second : (a b : Bool) → b ≡ true → (a || b) ≡ true
or_second true b h = refl
or_second false b h = h

-- two tests hold of all that both compare
pub both_same : (d e : Directory) (one other : List ℕ → Bool) → AreSameAt one d e → AreSameAt other d e → AreSameAt (λ q. one q || other q) d e
both_same d e one other a b q h = ⊎_elim (a q) (b q) (or_parts (one q) (other q) h)

at_file : (d e : Directory) (path : List ℕ) → same_at d e path ≡ true → AreSameAt (λ q. same_text q path) d e
at_file d e path h q is = subst (λ x. bytes_at d x ≡ bytes_at e x) (sym (same_path q path is)) (same_file_is (bytes_at d path) (bytes_at e path) h)

on_file : (d e : Directory) (path : List ℕ) → AreSameAt (λ q. same_text q path) d e → same_at d e path ≡ true
on_file d e path same = same_file_on (bytes_at d path) (bytes_at e path) (same path (same_itself path))

and_all : (a b : Bool) → a ≡ true → b ≡ true → (a && b) ≡ true
and_all a b h k = ap (λ x. x && b) h ∙ k

pub all_compared : (d e : Directory) (p r s o w : Bool) → p ≡ same_at d e (codes "pie.pipeline") → r ≡ same_at d e (codes "pie.roots")
    → IsTrue s ↔ AreSameAt (is_below (codes "src")) d e → IsTrue o ↔ AreSameAt (is_below (codes "out")) d e
    → IsTrue w ↔ AreSameAt (is_below (codes ".pie")) d e → (p && (r && (s && (o && (w && true))))) ≡ true ↔ AreSameAt is_compared d e
all_compared d e p r s o w pipeline roots sources outputs own = (there, back)
  where
    all : Bool
    all = p && (r && (s && (o && (w && true))))

    there : all ≡ true → AreSameAt is_compared d e
    there h =
        let one = and_parts p (r && (s && (o && (w && true)))) h in
        let two = and_parts r (s && (o && (w && true))) one.1 in
        let three = and_parts s (o && (w && true)) two.1 in
        let four = and_parts o (w && true) three.1 in
        let five = and_parts w true four.1 in
        both_same d e _ _ (at_file d e (codes "pie.pipeline") (sym pipeline ∙ one.0))
        (both_same d e _ _ (at_file d e (codes "pie.roots") (sym roots ∙ two.0))
        (both_same d e _ _ (sources.0 three.0) (both_same d e _ _ (outputs.0 four.0) (own.0 five.0))))

    back : AreSameAt is_compared d e → all ≡ true
    back same =
        let p' : p ≡ true = pipeline ∙ on_file d e (codes "pie.pipeline") (λ q is. same q (or_first (same_text q (codes "pie.pipeline")) _ is)) in
        let r' : r ≡ true = roots ∙ on_file d e (codes "pie.roots") (λ q is. same q (or_second (same_text q (codes "pie.pipeline")) _
        (or_first (same_text q (codes "pie.roots")) _ is))) in
        let s' : s ≡ true = sources.1 (λ q is. same q (or_second (same_text q (codes "pie.pipeline")) _
        (or_second (same_text q (codes "pie.roots")) _ (or_first (is_below (codes "src") q) _ is)))) in
        let o' : o ≡ true = outputs.1 (λ q is. same q (or_second (same_text q (codes "pie.pipeline")) _
        (or_second (same_text q (codes "pie.roots")) _ (or_second (is_below (codes "src") q) _ (or_first (is_below (codes "out") q) _ is))))) in
        let w' : w ≡ true = own.1 (λ q is. same q (or_second (same_text q (codes "pie.pipeline")) _
        (or_second (same_text q (codes "pie.roots")) _ (or_second (is_below (codes "src") q) _ (or_second (is_below (codes "out") q) _ is))))) in
        and_all p _ p' (and_all r _ r' (and_all s _ s' (and_all o _ o' (and_all w true w' refl))))

-- what a call says of its own words, in others
pub file_told : (d earlier e before : Directory) (b : Bool) (path place : List ℕ) → earlier ≡ d → before ≡ e → path ≡ place
    → b ≡ same_at earlier before path → b ≡ same_at d e place
file_told d earlier e before b path place one other here is =
    is ∙ ap (λ x. same_at x before path) one ∙ ap (λ x. same_at d x path) other ∙ ap (same_at d e) here

pub below_told : (d earlier e before : Directory) (b : Bool) (path place : List ℕ) → earlier ≡ d → before ≡ e → path ≡ place
    → IsTrue b ↔ AreSameAt (is_below path) earlier before → IsTrue b ↔ AreSameAt (is_below place) d e
below_told d earlier e before b path place one other here is =
    subst (λ p. IsTrue b ↔ AreSameAt (is_below p) d e) here (subst (λ x. IsTrue b ↔ AreSameAt (is_below path) d x) other
    (subst (λ x. IsTrue b ↔ AreSameAt (is_below path) x before) one is))
