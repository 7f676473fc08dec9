-- A copy of a directory, file by file, is the directory.
use Rattle.std.proofs.Common.{◌≡◌, ℕ, Bool, true, false, cond, List, [], ◌∷◌, refl, sym, ap, ◌∙◌}
use Rattle.std.specs.Prelude.{◌||◌, Option, None, Some}
use Rattle.std.specs.Option.{option_map, option_map_or}
use Rattle.std.specs.Ordering.{nat_cmp, eq_by_cmp}
use Rattle.std.specs.Cmp.Lexicographic.{slice_cmp, nat_list_cmp_total}
use Rattle.std.specs.FinMap as fin
use Rattle.std.specs.Map.{keys_of}
use Rattle.std.proofs.lemmas.Map.Views.{tells_apart}
use Rattle.pie_files.specs.declared.files.Found.{Found}
use Rattle.pie_files.specs.Directory.{Directory}
use Rattle.pie_files.specs.inner.Held.{content_of, directory_of, is_among, with_same, with_all}
use Rattle.pie_files.proofs.HeldLemmas.{found_at, get_held, antisymmetric}
use Rattle.pie_files.proofs.Picking.{neither}

-- after one file is made the same
get_same : (from d : Directory) (path q : List ℕ) → fin.get (with_same from d path) q
    ≡ cond (eq_by_cmp (slice_cmp nat_cmp) q path) (fin.get from path) (fin.get d q)
get_same from d path q =
    elim (fin.get from path) as (λ o. fin.get (option_map_or (λ file. fin.insert d path file) o (fin.remove d path)) q
    ≡ cond (eq_by_cmp (slice_cmp nat_cmp) q path) o (fin.get d q)) [
      | None ↦ fin.get-remove nat_list_cmp_total d path q
      | Some file ↦ fin.get-insert nat_list_cmp_total d path file q
    ]

same_path : (q path : List ℕ) → eq_by_cmp (slice_cmp nat_cmp) q path ≡ true → q ≡ path
same_path q path e = tells_apart antisymmetric q path e

-- after several files are made the same
chosen : (a b : Bool) (from at d : Option (List ℕ × ℕ)) → (a ≡ true → at ≡ from)
    → cond b from (cond a at d) ≡ cond (a || b) from d
chosen true true from at d is = refl
chosen true false from at d is = is refl
chosen false b from at d is = refl

get_all : (from d : Directory) (paths : List (List ℕ)) (q : List ℕ) → fin.get (with_all from d paths) q
    ≡ cond (is_among q paths) (fin.get from q) (fin.get d q)
get_all from d [] q = refl
get_all from d (path ∷ paths) q =
    get_all from (with_same from d path) paths q
    ∙ ap (cond (is_among q paths) (fin.get from q)) (get_same from d path q)
    ∙ chosen (eq_by_cmp (slice_cmp nat_cmp) q path) (is_among q paths) (fin.get from q) (fin.get from path) (fin.get d q)
    (λ e. ap (fin.get from) (sym (same_path q path e)))

-- what isn't among the paths isn't there
not_there : (entries : List (List ℕ × Found)) (q : List ℕ) → is_among q (keys_of entries) ≡ false → found_at entries q ≡ None
not_there [] q e = refl
not_there (x ∷ entries) q e =
    let both = neither (eq_by_cmp (slice_cmp nat_cmp) q x.0) (is_among q (keys_of entries)) e in
    ap (λ b. cond b (Some x.1) (found_at entries q)) both.0 ∙ not_there entries q both.1

all_or_none : (entries : List (List ℕ × Found)) (q : List ℕ) (b : Bool) → is_among q (keys_of entries) ≡ b
    → cond b (fin.get (directory_of entries) q) None ≡ fin.get (directory_of entries) q
all_or_none entries q true e = refl
all_or_none entries q false e = sym (get_held entries q ∙ ap (option_map content_of) (not_there entries q e))

-- the files of a map in memory, copied one by one
pub same_files : (entries : List (List ℕ × Found)) → with_all (directory_of entries) fin.empty (keys_of entries) ≡ directory_of entries
same_files entries = fin.same_map nat_list_cmp_total antisymmetric (with_all (directory_of entries) fin.empty (keys_of entries)) (directory_of entries) (λ q.
    get_all (directory_of entries) fin.empty (keys_of entries) q
    ∙ ap (λ o. cond (is_among q (keys_of entries)) (fin.get (directory_of entries) q) o) (fin.get-empty (slice_cmp nat_cmp) q)
    ∙ all_or_none entries q (is_among q (keys_of entries)) refl)
