-- Files of the cache that a build with the record cache leaves as they were.
use Rattle.std.proofs.Common.{◌≡◌, ◌∙◌, ℕ, suc, Bool, true, false, cond, List, [], ◌∷◌, map, refl, subst, arith, inl, inr}
use Rattle.std.specs.Prelude.{◌⊎◌, Contains, Option, None, Some, Result, Ok, Err, IfOk, IfSome}
use Rattle.pie_base.specs.Path.{same_text}
use Rattle.pie_cache.specs.inner.Keeping.{kept, or_else}
use Rattle.pie_cache.specs.inner.Places.{cache_path}
use Rattle.pie_commit.proofs.Standing.{same_path}
use Rattle.pie_commit.specs.inner.Plans.{Meets}
use Rattle.pie_files.specs.Directory.{Directory, file_at}
use Rattle.pie_report.specs.declared.report.Report.{Report}
use Rattle.pie_store.specs.inner.Offers.{Offered}
use Rattle.pie_topdown_build.proofs.Ran.{among_in, each_ran, row_of}
use Rattle.pie_topdown_build.specs.inner.News.{Told}
use Rattle.pie_value.specs.Canonical.{enc_task}
use Rattle.pie_value.specs.declared.verdict.Verdict.{Verdict}
use Rattle.pie_value.specs.declared.verdict.Verdict.TheVariants.{Accepted, Refused}
use Rattle.pie_cached.specs.Kept.{opened_file, IsFileOfRan, KeepsCached, KeepsFiles}
use Rattle.pie_cached.specs.inner.News.{kept_of, last_told, KeepsIn, LeavesCache}

-- what is told for a path has its task's cache file there
pub told_at : (told : List Told) (path : List ℕ) (o : Offered) → last_told told path ≡ Some o
    → (t : Told) × Contains told t × (path ≡ cache_path t.1.0.task t.0) × (t.1 ≡ o)
told_at [] path o e = let f : ⊥ = cc in absurd f
told_at (t ∷ told) path o e = by (λ q f. told_at told path q f) (last_told told path) refl e
  where
    one : (x y : Offered) → Some x ≡ Some y → x ≡ y
    one x y g = cc

    here : (b : Bool) → same_text path (cache_path t.1.0.task t.0) ≡ b → cond b (Some t.1) None ≡ Some o
        → (x : Told) × Contains (t ∷ told) x × (path ≡ cache_path x.1.0.task x.0) × (x.1 ≡ o)
    here true is f = (t, (0, omega arith, refl), same_path path (cache_path t.1.0.task t.0) is, one t.1 o f)
    here false is f = let g : ⊥ = cc in absurd g

    by : ((q : Offered) → last_told told path ≡ Some q → (x : Told) × Contains told x × (path ≡ cache_path x.1.0.task x.0) × (x.1 ≡ q))
        → (p : Option Offered) → last_told told path ≡ p → or_else p (cond (same_text path (cache_path t.1.0.task t.0)) (Some t.1) None) ≡ Some o
        → (x : Told) × Contains (t ∷ told) x × (path ≡ cache_path x.1.0.task x.0) × (x.1 ≡ o)
    by more None is f = here (same_text path (cache_path t.1.0.task t.0)) refl f
    by more (Some q) is f = let r = more q is in (r.0, (suc r.1.0, omega (arith, r.1.1), r.1.2), r.2, r.3 ∙ one q o f)

module _ (d : Directory) (r : Report) (after : Option Directory) (l : LeavesCache d r after) where
  -- the cache file of what is told is that of a task that ran
  of_ran : (path : List ℕ) (o : Offered) → last_told l.told path ≡ Some o → IsFileOfRan d r.ran.items path
  of_ran path o e =
      let n = l.news.news in
      let t = told_at l.told path o e in
      let is = each_ran l.news.funcs n.files r.ran.items n.rows t.0 (subst (λ (ts : List Told). Contains ts t.0) n.tells t.1) in
      record {
        task = t.0.1.0.task;
        ran_too = among_in (enc_task t.0.1.0.task) (map enc_task r.ran.items) is.ran_too;
        funcs = l.news.funcs;
        digests = l.news.digests d refl;
        digest = t.0.0;
        listed = row_of l.news.funcs t.0.1.0.task.func t.0.0 is.digest;
        is = t.2;
      }

  stays_or : (path : List ℕ) (o : Option Offered) → last_told l.told path ≡ o
      → Meets (kept o (opened_file d path)) (opened_file d path) (file_at l.left path)
      → (file_at l.left path ≡ opened_file d path) ⊎ IsFileOfRan d r.ran.items path
  stays_or path None e m = inl m
  stays_or path (Some o) e m = inr (of_ran path o e)

  stays : (v : Verdict) → KeepsIn (opened_file d) (kept_of v l.told) l.left → KeepsFiles v r.ran.items d l.left
  stays Accepted keeps = λ path on. stays_or path (last_told l.told path) refl (keeps path on)
  stays (Refused x) keeps = λ path on. keeps path on

  leaves_files : (left : Directory) × (after ≡ Some left) × KeepsFiles r.verdict r.ran.items d left
  leaves_files = (l.left, l.is, stays r.verdict l.keeps)

-- so it is after a build
pub keeps_cached : (V E : Type 0) (before after : Option Directory) (result : Result (Report × V) E)
    → IfSome before (λ d. IfOk result (λ x. LeavesCache d x.0 after)) → IfOk result (λ x. KeepsCached x.0.verdict x.0.ran.items before after)
keeps_cached V E None after (Ok x) l = tt
keeps_cached V E (Some d) after (Ok x) l = leaves_files d x.0 after l
keeps_cached V E before after (Err e) l = tt
