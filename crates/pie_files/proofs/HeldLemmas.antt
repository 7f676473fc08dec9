-- A map in memory answers as the directory that it stands for, and its changes are those of the directory.
use Rattle.std.proofs.Common.{◌≡◌, ℕ, Bool, true, false, cond, List, [], ◌∷◌, refl, sym, ap, ◌∙◌}
use Rattle.std.specs.Prelude.{Option, None, Some, map}
use Rattle.std.specs.Option.{option_map}
use Rattle.std.specs.Ordering.{nat_cmp, eq_by_cmp}
use Rattle.std.specs.Cmp.{eq_by_cmp_equiv}
use Rattle.std.specs.Cmp.Lexicographic.{slice_cmp, nat_list_cmp_total}
use Rattle.std.specs.FinMap as fin
use Rattle.std.specs.BTreeMap.{is_at}
use Rattle.std.specs.Map.{lookup}
use Rattle.pie_files.specs.declared.files.Found.{Found}
use Rattle.pie_files.specs.inner.Held.{content_of, entry_of, directory_of}

-- the file that the map finds at a path
abbrev pub found_at : List (List ℕ × Found) → List ℕ → Option Found
found_at entries path = lookup (is_at (slice_cmp nat_cmp path)) entries

find_among : (path : List ℕ) (entries : List (List ℕ × Found))
    → fin.find (slice_cmp nat_cmp) path (map entry_of entries) ≡ option_map content_of (found_at entries path)
find_among path [] = refl
find_among path (e ∷ entries) =
    elim (eq_by_cmp (slice_cmp nat_cmp) path e.0) as (λ b. cond b (Some (content_of e.1)) (fin.find (slice_cmp nat_cmp) path (map entry_of entries))
    ≡ option_map content_of (cond b (Some e.1) (found_at entries path))) [
      | true ↦ refl
      | false ↦ find_among path entries
    ]

pub get_held : (entries : List (List ℕ × Found)) (path : List ℕ) → fin.get (directory_of entries) path ≡ option_map content_of (found_at entries path)
get_held entries path = fin.get-from_entries nat_list_cmp_total (map entry_of entries) path ∙ find_among path entries

mapped_choice : (b : Bool) (f : Found) (o : Option Found) → option_map content_of (cond b (Some f) o)
    ≡ cond b (Some (content_of f)) (option_map content_of o)
mapped_choice true f o = refl
mapped_choice false f o = refl

mapped_absence : (b : Bool) (o : Option Found) → option_map content_of (cond b None o) ≡ cond b None (option_map content_of o)
mapped_absence true o = refl
mapped_absence false o = refl

pub antisymmetric : fin.IsAntisymmetric (slice_cmp nat_cmp)
antisymmetric = fin.slice_cmp-IsAntisymmetric fin.nat_cmp-IsAntisymmetric

pub turned : (path q : List ℕ) → is_at (slice_cmp nat_cmp path) q ≡ eq_by_cmp (slice_cmp nat_cmp) q path
turned path q = (eq_by_cmp_equiv nat_list_cmp_total).symm path q

-- one file set
pub one_set : (old new : List (List ℕ × Found)) (path : List ℕ) (file : Found)
    → ((q : List ℕ) → found_at new q ≡ cond (is_at (slice_cmp nat_cmp path) q) (Some file) (found_at old q))
    → directory_of new ≡ fin.insert (directory_of old) path (content_of file)
one_set old new path file is = fin.same_map nat_list_cmp_total antisymmetric (directory_of new) (fin.insert
    (directory_of old) path (content_of file)) (λ q.
    get_held new q ∙ ap (option_map content_of) (is q) ∙ mapped_choice (is_at (slice_cmp nat_cmp path) q) file (found_at old q)
    ∙ ap (λ b. cond b (Some (content_of file)) (option_map content_of (found_at old q))) (turned path q)
    ∙ ap (cond (eq_by_cmp (slice_cmp nat_cmp) q path) (Some (content_of file))) (sym (get_held old q))
    ∙ sym (fin.get-insert nat_list_cmp_total (directory_of old) path (content_of file) q))

-- one file taken away
pub one_removed : (old new : List (List ℕ × Found)) (path : List ℕ)
    → ((q : List ℕ) → found_at new q ≡ cond (is_at (slice_cmp nat_cmp path) q) None (found_at old q))
    → directory_of new ≡ fin.remove (directory_of old) path
one_removed old new path is = fin.same_map nat_list_cmp_total antisymmetric (directory_of new) (fin.remove (directory_of old) path) (λ q.
    get_held new q ∙ ap (option_map content_of) (is q) ∙ mapped_absence (is_at (slice_cmp nat_cmp path) q) (found_at old q)
    ∙ ap (λ b. cond b None (option_map content_of (found_at old q))) (turned path q)
    ∙ ap (cond (eq_by_cmp (slice_cmp nat_cmp) q path) None) (sym (get_held old q))
    ∙ sym (fin.get-remove nat_list_cmp_total (directory_of old) path q))
