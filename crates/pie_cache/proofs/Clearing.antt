-- What removing all files of the cache leaves.
use Rattle.std.proofs.Common.{◌≡◌, ℕ, Bool, true, false, cond, List, [], ◌∷◌, ◌++◌, refl, sym, ap, ◌∙◌, subst}
use Rattle.std.specs.Prelude.{not, ◌||◌, All, Option, None, Some, IfSome, is_some, codes}
use Rattle.std.specs.List.{filter, list_any}
use Rattle.std.specs.Ordering.{nat_cmp, eq_by_cmp}
use Rattle.std.specs.Cmp.Lexicographic.{slice_cmp, texts_ties}
use Rattle.std.specs.FinMap as fin
use Rattle.std.proofs.lemmas.Bool.{false≢true, and_parts, and_from}
use Rattle.std.proofs.lemmas.List.Elements.{All-nil, All-cons}
use Rattle.pie_base.specs.Path.{same_text, is_below}
use Rattle.pie_commit.specs.inner.Plans.{Same, Gone, Meets, later, at, removed}
use Rattle.pie_commit.specs.Outcomes.{HasBrought}
use Rattle.pie_commit.proofs.Standing.{same_path}
use Rattle.pie_files.specs.Directory.{Directory, file_at, files_under, paths_of}
use Rattle.pie_cache.specs.inner.Clearing.{HasCleared, IsInside, is_other}
use Rattle.pie_cache.specs.inner.Places.{gate, is_in_cache}

-- ---- which paths go

pub removed_is : (paths : List (List ℕ)) (q : List ℕ) → removed paths q ≡ cond (list_any (same_text q) paths) Gone Same
removed_is [] q = refl
removed_is (p ∷ paths) q = ap (λ w. later w (at p Gone q)) (removed_is paths q) ∙ by (list_any (same_text q) paths) (same_text q p)
  where
    by : (a b : Bool) → later (cond a Gone Same) (cond b Gone Same) ≡ cond (b || a) Gone Same
    by true true = refl
    by true false = refl
    by false true = refl
    by false false = refl

-- a path that passes a test stands among those that pass it where it stands among all
passed : (test : List ℕ → Bool) (q : List ℕ) (paths : List (List ℕ)) → test q ≡ true → list_any (same_text q) (filter test paths) ≡ list_any (same_text q) paths
passed test q [] on = refl
passed test q (p ∷ paths) on = by (passed test q paths on) (test p) refl (same_text q p) refl
  where
    by : list_any (same_text q) (filter test paths) ≡ list_any (same_text q) paths → (a : Bool) → test p ≡ a → (b : Bool) → same_text q p ≡ b
        → list_any (same_text q) (cond a (p ∷ filter test paths) (filter test paths)) ≡ (same_text q p || list_any (same_text q) paths)
    by rest true e b f = ap (λ (x : Bool). same_text q p || x) rest
    by rest false e true f = absurd (false≢true (sym e ∙ ap test (sym (same_path q p f)) ∙ on))
    by rest false e false f = rest ∙ ap (λ (x : Bool). x || list_any (same_text q) paths) (sym f)

any_ties : (q : List ℕ) (paths : List (List ℕ)) → list_any (same_text q) paths ≡ list_any (eq_by_cmp (slice_cmp nat_cmp) q) paths
any_ties q [] = refl
any_ties q (p ∷ paths) = ap (λ (x : Bool). x || list_any (same_text q) paths) (texts_ties q p)
    ∙ ap (λ (x : Bool). eq_by_cmp (slice_cmp nat_cmp) q p || x) (any_ties q paths)

no_file : {A : Type 0} (o : Option A) → is_some o ≡ false → o ≡ None
no_file None e = refl
no_file (Some a) e = absurd (false≢true (sym e))

-- a path of the cache, that isn't the gate, goes if a file is there
goes : (d : Directory) (q : List ℕ) → is_in_cache q ≡ true → same_text q gate ≡ false
    → removed (filter is_other (files_under d (codes ".pie/cache"))) q ≡ cond (is_some (file_at d q)) Gone Same
goes d q on off =
    removed_is (filter is_other (files_under d (codes ".pie/cache"))) q
    ∙ ap (λ (b : Bool). cond b Gone Same) (passed is_other q (files_under d (codes ".pie/cache")) (and_from (is_in_cache q) (not (same_text q gate)) on (ap not off))
    ∙ passed (is_below (codes ".pie/cache")) q (paths_of d) on ∙ any_ties q (paths_of d) ∙ sym (fin.contains_key-keys d q))

pub none_inside : (d e : Directory) → ((q : List ℕ) → Meets (later (at gate Gone q) (removed (filter is_other (files_under d (codes ".pie/cache"))) q)) (file_at d q) (file_at e q))
    → (q : List ℕ) → is_in_cache q ≡ true → file_at e q ≡ None
none_inside d e brings q on = by (same_text q gate) refl
  where
    there : (b : Bool) → is_some (file_at d q) ≡ b → Meets (cond b Gone Same) (file_at d q) (file_at e q) → file_at e q ≡ None
    there true f meets = meets
    there false f meets = meets ∙ no_file (file_at d q) f

    by : (b : Bool) → same_text q gate ≡ b → file_at e q ≡ None
    by true f = subst (λ (b : Bool). Meets (later (cond b Gone Same) (removed (filter is_other (files_under d (codes ".pie/cache"))) q)) (file_at d q) (file_at e q)) f
        (brings q)
    by false f = there (is_some (file_at d q)) refl (subst (λ w. Meets w (file_at d q) (file_at e q)) (goes d q on f)
        (subst (λ (b : Bool). Meets (later (cond b Gone Same) (removed (filter is_other (files_under d (codes ".pie/cache"))) q)) (file_at d q) (file_at e q)) f
        (brings q)))

-- all files that were listed are removed, and the gate after them
pub cleared : (paths : List (List ℕ)) (before after : Option Directory) → IfSome before (λ d. paths ≡ filter is_other (files_under d (codes ".pie/cache")))
    → HasBrought (λ q. later (at gate Gone q) (removed paths q)) before after → IfSome before (λ d. HasCleared after)
cleared paths None after listed done = tt
cleared paths (Some d) after listed done = (
  done.0,
  done.1,
  none_inside d done.0
      (λ q. subst (λ (l : List (List ℕ)). Meets (later (at gate Gone q) (removed l q)) (file_at d q) (file_at done.0 q)) listed (done.2 q)),
)

-- one path more
pub others_more : (path : List ℕ) (rest : List (List ℕ)) → filter is_other (path ∷ rest) ≡ filter is_other (path ∷ []) ++ filter is_other rest
others_more path rest = by (is_other path)
  where
    by : (b : Bool) → cond b (path ∷ filter is_other rest) (filter is_other rest) ≡ cond b (path ∷ []) [] ++ filter is_other rest
    by true = refl
    by false = refl

pub others_inside : (paths : List (List ℕ)) → All IsInside (filter is_other paths)
others_inside [] = All-nil IsInside
others_inside (p ∷ paths) = by (others_inside paths) (is_other p) refl
  where
    by : All IsInside (filter is_other paths) → (b : Bool) → is_other p ≡ b → All IsInside (cond b (p ∷ filter is_other paths) (filter is_other paths))
    by rest true e = All-cons IsInside p (filter is_other paths) (and_parts (is_in_cache p) (not (same_text p gate)) e).0 rest
    by rest false e = rest
