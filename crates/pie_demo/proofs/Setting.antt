-- What a directory has at each path once a file was set.
use Rattle.std.proofs.Common.{◌≡◌, ℕ, Bool, true, false, cond, List, refl, sym, ap, ◌∙◌, subst, Option, Some}
use Rattle.std.specs.Prelude.{Result, Ok, Err, OnOk, IfOk}
use Rattle.std.specs.Option.{option_map}
use Rattle.std.specs.Cmp.Lexicographic.{texts_ties, nat_list_cmp_total}
use Rattle.std.specs.FinMap as fin
use Rattle.std.proofs.lemmas.Map.Views.{tells_apart}
use Rattle.pie_base.specs.Path.{same_text}
use Rattle.pie_files.specs.Directory.{Directory, file_at, with_file}
use Rattle.pie_files.proofs.HeldLemmas.{antisymmetric}
use Rattle.pie_incremental.specs.Own.{bytes_at}
use Rattle.pie_demo.specs.Sources.{SetsFile}

pub same_path : (q path : List ℕ) → same_text q path ≡ true → q ≡ path
same_path q path e = tells_apart antisymmetric q path (sym (texts_ties q path) ∙ e)

pub file_set : (d : Directory) (path bytes : List ℕ) (mark : ℕ) (q : List ℕ)
    → file_at (with_file d path bytes mark) q ≡ cond (same_text q path) (Some (bytes, mark)) (file_at d q)
file_set d path bytes mark q =
    fin.get-insert nat_list_cmp_total d path (bytes, mark) q
    ∙ ap (λ b. cond b (Some (bytes, mark)) (file_at d q)) (sym (texts_ties q path))

bytes_of : (b : Bool) (bytes : List ℕ) (mark : ℕ) (file : Option (List ℕ × ℕ))
    → option_map (λ f. f.0) (cond b (Some (bytes, mark)) file) ≡ cond b (Some bytes) (option_map (λ f. f.0) file)
bytes_of true bytes mark file = refl
bytes_of false bytes mark file = refl

pub bytes_set : (d : Directory) (path bytes : List ℕ) (mark : ℕ) (q : List ℕ)
    → bytes_at (with_file d path bytes mark) q ≡ cond (same_text q path) (Some bytes) (bytes_at d q)
bytes_set d path bytes mark q =
    ap (option_map (λ (f : List ℕ × ℕ). f.0)) (file_set d path bytes mark q)
    ∙ bytes_of (same_text q path) bytes mark (file_at d q)

pub on_ok : {T E A B : Type 0} (r : Result T E) → (A → B) → OnOk r A → OnOk r B
on_ok (Ok x) f a = f a
on_ok (Err e) f a = tt

pub if_ok : {T E : Type 0} (r : Result T E) (P Q : T → Type 0) → ((x : T) → P x → Q x) → IfOk r P → IfOk r Q
if_ok (Ok x) P Q f p = f x p
if_ok (Err e) P Q f p = tt

-- the same file set, in other words
pub set_as : (path place bytes text : List ℕ) (before earlier after : Directory) → path ≡ place → bytes ≡ text → before ≡ earlier
    → SetsFile path bytes before after → SetsFile place text earlier after
set_as path place bytes text before earlier after here same was set =
    subst (λ p. SetsFile p text earlier after) here (subst (λ t. SetsFile path t earlier after) same (subst (λ d. SetsFile path bytes d after) was set))

pub set_alike : {T E : Type 0} (r : Result T E) (path place bytes text : List ℕ) (before earlier after : Directory) → path ≡ place → bytes ≡ text
    → before ≡ earlier → OnOk r (SetsFile path bytes before after) → OnOk r (SetsFile place text earlier after)
set_alike r path place bytes text before earlier after here same was = on_ok r (set_as path place bytes text before earlier after here same was)
