-- Paths that rise are the keys of their map, and maps with the same keys list them alike.
use Rattle.std.proofs.Common.{◌≡◌, ℕ, Bool, true, false, cond, List, [], ◌∷◌, ◌++◌, length, refl, sym, ap, ◌∙◌, subst, arith}
use Rattle.std.specs.Prelude.{◌||◌, Option, None, Some, map}
use Rattle.std.specs.Option.{option_to_list}
use Rattle.std.specs.List.{AllByRecursion}
use Rattle.std.specs.List.Sorted.{IsStrictlySortedBy}
use Rattle.std.specs.Ordering.{nat_cmp, eq_by_cmp}
use Rattle.std.specs.declared.cmp.Ordering.TheVariants.{Less}
use Rattle.std.specs.Cmp.Lexicographic.{slice_cmp, nat_list_cmp_total}
use Rattle.std.specs.FinMap as fin
use Rattle.std.specs.FinMap.Entries.{put, by_order}
use Rattle.std.proofs.lemmas.List.{append-nil}
use Rattle.std.specs.Map.{keys_of}
use Rattle.pie_files.specs.declared.files.Found.{Found}
use Rattle.pie_files.specs.Directory.{in_path_order, unmarked}
use Rattle.pie_files.specs.inner.Held.{entry_of, directory_of, is_among, Gains}
use Rattle.std.specs.BTreeMap.{is_at}
use Rattle.pie_files.proofs.HeldLemmas.{antisymmetric, turned}

no_length : {A : Type 0} (xs : List A) → length xs ≡ 0 → xs ≡ []
no_length [] e = refl
no_length (x ∷ xs) e = absurd (omega arith)

entries-empty : (X : Type 0) → fin.entries (fin.empty {X = X} {R = slice_cmp nat_cmp}) ≡ []
entries-empty X = no_length (fin.entries (fin.empty {X = X} {R =
    slice_cmp nat_cmp})) (sym (fin.len-entries (fin.empty {X = X} {R = slice_cmp nat_cmp})) ∙ fin.len-empty (slice_cmp nat_cmp) X)

-- an entry below all others goes to the front
put_first : {X : Type 0} (key : List ℕ) (value : X) (entries : List (List ℕ × X))
    → AllByRecursion (λ k. slice_cmp nat_cmp key k ≡ Less) (keys_of entries)
    → put (slice_cmp nat_cmp) key value entries ≡ (key, value) ∷ entries
put_first key value [] below = refl
put_first key value (e ∷ entries) below =
    ap (λ o. by_order o ((key, value) ∷ e ∷ entries) ((e.0, value) ∷ entries) (e ∷ put (slice_cmp nat_cmp) key value entries)) below.0

-- entries whose paths rise are those of their map
pub entries_in_order : {X : Type 0} (entries : List (List ℕ × X)) → IsStrictlySortedBy (slice_cmp nat_cmp) (keys_of entries)
    → fin.entries (fin.from_entries {R = slice_cmp nat_cmp} entries) ≡ entries
unfolding IsStrictlySortedBy
entries_in_order {X} [] sorted = entries-empty X
entries_in_order (e ∷ entries) sorted =
    fin.entries-insert nat_list_cmp_total (fin.from_entries entries) e.0 e.1
    ∙ ap (put (slice_cmp nat_cmp) e.0 e.1) (entries_in_order entries sorted.1)
    ∙ put_first e.0 e.1 entries sorted.0

keys-entry_of : (entries : List (List ℕ × Found)) → keys_of (map entry_of entries) ≡ keys_of entries
keys-entry_of [] = refl
keys-entry_of (e ∷ entries) = ap (λ ks. e.0 ∷ ks) (keys-entry_of entries)

-- the paths of a map in memory are those of its directory
pub paths_held : (entries : List (List ℕ × Found)) → IsStrictlySortedBy (slice_cmp nat_cmp) (keys_of entries)
    → fin.keys (directory_of entries) ≡ keys_of entries
paths_held entries sorted =
    ap keys_of (entries_in_order (map entry_of entries) (subst (IsStrictlySortedBy (slice_cmp nat_cmp)) (sym
    (keys-entry_of entries)) sorted)) ∙ keys-entry_of entries

keys-unmarked : (paths : List (List ℕ)) → keys_of (map unmarked paths) ≡ paths
keys-unmarked [] = refl
keys-unmarked (p ∷ paths) = ap (λ ks. p ∷ ks) (keys-unmarked paths)

-- paths that rise are in path order
pub rising_in_order : (paths : List (List ℕ)) → IsStrictlySortedBy (slice_cmp nat_cmp) paths → paths ≡ in_path_order paths
rising_in_order paths sorted = sym (ap keys_of (entries_in_order (map unmarked paths) (subst (IsStrictlySortedBy
    (slice_cmp nat_cmp)) (sym (keys-unmarked paths)) sorted)) ∙ keys-unmarked paths)

find-unmarked : (path : List ℕ) (paths : List (List ℕ)) → fin.find (slice_cmp nat_cmp) path (map unmarked paths)
    ≡ cond (is_among path paths) (Some tt) None
find-unmarked path [] = refl
find-unmarked path (p ∷ paths) =
    elim (eq_by_cmp (slice_cmp nat_cmp) path p) as (λ b. cond b (Some tt) (fin.find (slice_cmp nat_cmp) path
    (map unmarked paths)) ≡ cond (b || is_among path paths) (Some tt) None) [
      | true ↦ refl
      | false ↦ find-unmarked path paths
    ]

-- lists of the same paths are one list in path order
pub same_in_order : (xs ys : List (List ℕ)) → ((path : List ℕ) → is_among path xs ≡ is_among path ys) → in_path_order xs ≡ in_path_order ys
same_in_order xs ys is = ap fin.keys (fin.same_map nat_list_cmp_total antisymmetric (fin.from_entries
    (map unmarked xs)) (fin.from_entries (map unmarked ys)) (λ path.
    fin.get-from_entries nat_list_cmp_total (map unmarked xs) path ∙ find-unmarked path xs
    ∙ ap (λ b. cond b (Some tt) None) (is path)
    ∙ sym (fin.get-from_entries nat_list_cmp_total (map unmarked ys) path ∙ find-unmarked path ys)))

joined : (b c : Bool) → cond b true c ≡ ((b || false) || c)
joined true c = refl
joined false c = refl

-- a path put into a set of paths
pub one_gained : (old new : List (List ℕ)) (gained : Option (List ℕ)) (path : List ℕ) → gained ≡ Some path
    → ((q : List ℕ) → is_among q new ≡ cond (is_at (slice_cmp nat_cmp path) q) true (is_among q old)) → Gains old gained new
one_gained old new gained path some is q =
    is q ∙ ap (λ b. cond b true (is_among q old)) (turned path q) ∙ joined (eq_by_cmp (slice_cmp nat_cmp) q path) (is_among q old)
    ∙ ap (λ g. is_among q (option_to_list g) || is_among q old) (sym some)

-- what a loop has listed once nothing is left
pub ended : {A : Type 0} (xs rest all : List A) → xs ++ rest ≡ all → rest ≡ [] → xs ≡ all
ended xs rest all is none = sym (append-nil xs) ∙ ap (λ r. xs ++ r) (sym none) ∙ is

or-false : (b : Bool) → (b || false) ≡ b
or-false true = refl
or-false false = refl

-- a set of paths that has gained all of them
pub all_gained : (keys rest all : List (List ℕ)) → ((q : List ℕ) → (is_among q keys || is_among q rest) ≡ is_among q all) → rest ≡ []
    → in_path_order keys ≡ in_path_order all
all_gained keys rest all is none = same_in_order keys all (λ q.
    sym (or-false (is_among q keys)) ∙ ap (λ r. is_among q keys || is_among q r) (sym none) ∙ is q)
