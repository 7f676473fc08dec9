-- The files that a clean build removes, and the soundness of its plan.
use Rattle.std.proofs.Common.{◌≡◌, ℕ, Bool, true, false, cond, List, [], ◌∷◌, Contains, Vec, Global, refl, sym, ap, subst, ◌∙◌, arith}
use Rattle.std.specs.Prelude.{◌&&◌, ◌||◌, codes, Option, None, Some, IfSome, All, IsTrue}
use Rattle.std.specs.List.{list_all, list_any, filter}
use Rattle.std.proofs.lemmas.Bool.{false≢true}
use Rattle.std.proofs.lemmas.List.Elements.{Contains-append_right}
use Rattle.std.proofs.lemmas.List.Sums.{list_all-from_AllPass}
use Rattle.pie_base.specs.Path.{is_out, is_below, same_text}
use Rattle.pie_files.specs.Directory.{Directory, files_under, paths_of}
use Rattle.pie_reach.specs.Plan.{IsPlan}
use Rattle.pie_commit.specs.declared.plan.Pending.{Pending}
use Rattle.pie_commit.specs.declared.plan.Plan.{Plan}
use Rattle.pie_commit.specs.inner.Plans.{may_be_written, is_sound}
use Rattle.pie_commit.proofs.Standing.{same_path}
use Rattle.pie_build.specs.inner.Plans.{IsPlanOf}
use Rattle.pie_build.proofs.InPlace.{is_any}

filter_twice : (test : List ℕ → Bool) (xs : List (List ℕ)) → filter test (filter test xs) ≡ filter test xs
filter_twice test [] = refl
filter_twice test (x ∷ xs) = elim (test x) as (λ b. test x ≡ b → filter test (cond (test x) (x ∷ filter test xs) (filter test xs))
    ≡ cond (test x) (x ∷ filter test xs) (filter test xs)) [
      | true ↦ λ e. ap (λ b. filter test (cond b (x ∷ filter test xs) (filter test xs))) e
          ∙ ap (λ b. cond b (x ∷ filter test (filter test xs)) (filter test (filter test xs))) e
          ∙ ap (λ ys. x ∷ ys) (filter_twice test xs) ∙ sym (ap (λ b. cond b (x ∷ filter test xs) (filter test xs)) e)
      | false ↦ λ e. ap (λ b. filter test (cond b (x ∷ filter test xs) (filter test xs))) e ∙ filter_twice test xs
          ∙ sym (ap (λ b. cond b (x ∷ filter test xs) (filter test xs)) e)
    ] refl

-- those of the files below `out` that lie under `out/` are all of them
pub removal_plan : (before : Option Directory) (dir : List ℕ) (found there kept gone : List (List ℕ)) → dir ≡ codes "out"
    → IfSome before (λ d. found ≡ files_under d dir) → there ≡ filter is_out found → IsPlan there kept gone
    → IfSome before (λ d. IsPlan (files_under d (codes "out")) kept gone)
removal_plan None dir found there kept gone at listed passed plan = tt
removal_plan (Some d) dir found there kept gone at listed passed plan =
    let is : there ≡ files_under d (codes "out") = passed ∙ ap (filter is_out) (listed ∙ ap (files_under d) at)
    ∙ filter_twice (is_below (codes "out")) (paths_of d) in
    subst (λ (x : List (List ℕ)). IsPlan x kept gone) is plan

any_passes : (test : List ℕ → Bool) (q : List ℕ) (xs : List (List ℕ)) → list_any (same_text q) (filter test xs) ≡ true → test q ≡ true
any_passes test q [] h = absurd (false≢true h)
any_passes test q (x ∷ xs) h = by (λ k. any_passes test q xs k) (test x) refl h
  where
    first : (list_any (same_text q) (filter test xs) ≡ true → test q ≡ true) → (b : Bool) → same_text q x ≡ b → test x ≡ true
        → (b || list_any (same_text q) (filter test xs)) ≡ true → test q ≡ true
    first rest true e on k = ap test (same_path q x e) ∙ on
    first rest false e on k = rest k

    by : (list_any (same_text q) (filter test xs) ≡ true → test q ≡ true) → (t : Bool) → test x ≡ t
        → list_any (same_text q) (cond t (x ∷ filter test xs) (filter test xs)) ≡ true → test q ≡ true
    by rest true on k = first rest (same_text q x) refl on k
    by rest false off k = rest k

all_of : (test : List ℕ → Bool) (xs : List (List ℕ)) → ((x : List ℕ) → Contains xs x → test x ≡ true) → list_all test xs ≡ true
all_of test [] h = refl
all_of test (x ∷ xs) h =
    ap (λ b. b && list_all test xs) (h x (0, omega arith, refl)) ∙ all_of test xs (λ y k. h y (Contains-append_right (x ∷ []) xs y k))

-- only files under `out/` are removed
pub removed_out : (found there kept gone : List (List ℕ)) → there ≡ filter is_out found → IsPlan there kept gone → list_all is_out gone ≡ true
removed_out found there kept gone passed plan = all_of is_out gone (λ q k. any_passes is_out q found
    (is_any q (filter is_out found) (subst (λ (x : List (List ℕ)). Contains x q) passed (plan.only q k).0)))

all_written : (writes : List (List ℕ × Vec ℕ Global)) → list_all (λ w. is_out w.0) writes ≡ true → list_all (λ w. may_be_written w.0) writes ≡ true
all_written [] h = refl
all_written (w ∷ ws) h =
    ap (λ b. b && list_all (λ w. may_be_written w.0) ws) (ap (λ b. b || same_text w.0 (codes ".pie/manifest"))
    (left (is_out w.0) (list_all (λ w. is_out w.0) ws) h))
    ∙ all_written ws (right (is_out w.0) (list_all (λ w. is_out w.0) ws) h)
  where
    left : (a b : Bool) → (a && b) ≡ true → a ≡ true
    left true b e = refl
    left false b e = e

    right : (a b : Bool) → (a && b) ≡ true → b ≡ true
    right true b e = e
    right false b e = absurd (false≢true e)

-- the plan of a clean build can be committed
pub sound_plan : (gone : List (List ℕ)) (contents : List (List ℕ × Vec ℕ Global)) (pending : Pending) (store : Vec ℕ Global) (p : Plan)
    → IsPlanOf gone contents pending store p → is_sound p ≡ true
sound_plan gone contents pending store p plan =
    ap (λ a. a && list_all is_out p.removals.items && list_all (λ w. may_be_written w.0) p.writes.items) plan.places
    ∙ ap (λ a. true && a && list_all (λ w. may_be_written w.0) p.writes.items) (ap (list_all is_out) plan.removals ∙ plan.removals_out)
    ∙ ap (λ ws. list_all (λ w. may_be_written w.0) ws) plan.writes ∙ all_written contents plan.writes_out

-- each of these files lies under `out/`
pub all_out : (files : List (List ℕ × Vec ℕ Global)) → All (λ (f : List ℕ × Vec ℕ Global). IsTrue (is_out f.0)) files → list_all (λ f. is_out f.0) files ≡ true
all_out files h = list_all-from_AllPass (λ f. is_out f.0) files h
