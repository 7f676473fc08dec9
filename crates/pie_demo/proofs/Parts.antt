-- A copy gains one file after another.
use Rattle.std.proofs.Common.{◌≡◌, ℕ, ◌+◌, ◌<◌, Bool, true, false, cond, List, length, take, get_or, refl, sym, ap, ◌∙◌, subst, Option, None, Some}
use Rattle.std.specs.Prelude.{◌&&◌, ◌||◌, is_some, codes}
use Rattle.std.specs.FinMap as fin
use Rattle.std.specs.Ordering.{nat_cmp}
use Rattle.std.specs.Cmp.Lexicographic.{slice_cmp}
use Rattle.std.specs.List.{list_any}
use Rattle.std.proofs.lemmas.Bool.{false≢true}
use Rattle.std.proofs.lemmas.List.Folds.{list_any_more}
use Rattle.pie_base.specs.Path.{same_text, is_below}
use Rattle.pie_files.specs.Directory.{Directory, file_at, files_under, with_file}
use Rattle.pie_demo.specs.Copies.{is_copied, HasPart}
use Rattle.pie_demo.proofs.Setting.{file_set, same_path}
use Rattle.pie_demo.proofs.Listing.{listed}

-- the same part, by another test
pub part_as : (d part : Directory) (test other : List ℕ → Bool) → ((q : List ℕ) → test q ≡ other q) → HasPart d part test → HasPart d part other
part_as d part test other same has q = has q ∙ ap (λ b. cond b (file_at d q) None) (same q)

-- a file is copied
pub file_copied : (d before after : Directory) (path bytes : List ℕ) (mark : ℕ) → Some (bytes, mark) ≡ file_at d path
    → after ≡ with_file before path bytes mark → (test : List ℕ → Bool) → HasPart d before test → HasPart d after (λ q. same_text q path || test q)
file_copied d before after path bytes mark there set test has q =
    ap (λ (e : Directory). file_at e q) set ∙ file_set before path bytes mark q ∙ by (same_text q path) refl
  where
    by : (b : Bool) → same_text q path ≡ b → cond b (Some (bytes, mark)) (file_at before q) ≡ cond (b || test q) (file_at d q) None
    by true e = there ∙ ap (file_at d) (sym (same_path q path e))
    by false e = has q

-- one more of some files is copied
pub one_more : (d part : Directory) (paths : List (List ℕ)) (i : ℕ) (path : List ℕ) (test : List ℕ → Bool) → i < length paths
    → path ≡ get_or paths i path → HasPart d part (λ q. same_text q path || (list_any (same_text q) (take i paths) || test q))
    → HasPart d part (λ q. list_any (same_text q) (take (i + 1) paths) || test q)
one_more d part paths i path test inside is = part_as d part _ _ (λ q.
    ap (λ p. same_text q p || (list_any (same_text q) (take i paths) || test q)) is
    ∙ turned (same_text q (get_or paths i path)) (list_any (same_text q) (take i paths)) (test q)
    ∙ ap (λ b. b || test q) (sym (list_any_more (same_text q) paths i path inside)))
  where
    turned : (a b c : Bool) → (a || (b || c)) ≡ ((b || a) || c)
    turned true true c = refl
    turned true false c = refl
    turned false true c = refl
    turned false false c = refl

no_file : (file : Option (List ℕ × ℕ)) → is_some file ≡ false → file ≡ None
no_file None e = refl
no_file (Some f) e = absurd (false≢true (sym e))

-- all files below a directory are copied
pub all_below : (d part : Directory) (top : List ℕ) (test : List ℕ → Bool) → HasPart d part (λ q. list_any (same_text q) (files_under d top) || test q)
    → HasPart d part (λ q. is_below top q || test q)
all_below d part top test has q =
    has q ∙ ap (λ b. cond (b || test q) (file_at d q) None) (listed d top q) ∙ by (is_some (file_at d q)) refl (is_below top q) (test q)
  where
    by : (b : Bool) → is_some (file_at d q) ≡ b → (below t : Bool)
        → cond ((below && is_some (file_at d q)) || t) (file_at d q) None ≡ cond (below || t) (file_at d q) None
    by b e false t = refl
    by true e true t = ap (λ s. cond (s || t) (file_at d q) None) e
    by false e true t = ap (λ s. cond (s || t) (file_at d q) None) e ∙ nothing t
      where
        nothing : (t : Bool) → cond t (file_at d q) None ≡ file_at d q
        nothing true = refl
        nothing false = sym (no_file (file_at d q) e)

-- what a call says of its own words, in others
pub then_part : (d earlier before after : Directory) (path place : List ℕ) → earlier ≡ d → path ≡ place
    → ((test : List ℕ → Bool) → HasPart earlier before test → HasPart earlier after (λ q. same_text q path || test q))
    → (test : List ℕ → Bool) → HasPart d before test → HasPart d after (λ q. same_text q place || test q)
then_part d earlier before after path place was here part = subst (λ x. (test : List ℕ → Bool) → HasPart d before test
    → HasPart d after (λ q. same_text q x || test q)) here
    (subst (λ e. (test : List ℕ → Bool) → HasPart e before test → HasPart e after (λ q. same_text q path || test q)) was part)

-- nothing is copied yet
pub nothing_yet : (d part : Directory) → part ≡ fin.empty → HasPart d part (λ q. false)
nothing_yet d part is q = ap (λ (e : Directory). file_at e q) is ∙ fin.get-empty (slice_cmp nat_cmp) q

-- the two files and those below `src` are the copy
pub copy_made : (d part : Directory)
    → HasPart d part (λ q. is_below (codes "src") q || (same_text q (codes "pie.roots") || (same_text q (codes "pie.pipeline") || false)))
    → HasPart d part is_copied
copy_made d part = part_as d part _ _ (λ q.
    ap (λ b. is_below (codes "src") q || (same_text q (codes "pie.roots") || b)) (or_nothing (same_text q (codes "pie.pipeline"))))
  where
    or_nothing : (b : Bool) → (b || false) ≡ b
    or_nothing true = refl
    or_nothing false = refl
