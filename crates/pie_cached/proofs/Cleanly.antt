-- A build with the record cache reports and leaves what a clean build does.
use Rattle.std.proofs.Common.{◌≡◌, ◌∙◌, ℕ, true, List, map, Option, None, Some, Result, Ok, Err, refl, subst, sym}
use Rattle.std.specs.Prelude.{All, IfOk, IfSome, OnOk, Vec}
use Rattle.std.proofs.lemmas.List.Elements.{All-map}
use Rattle.std.specs.declared.alloc.Global.{Global}
use Rattle.pie_build.specs.Left.{KeepsRest}
use Rattle.pie_cache.specs.inner.Changes.{KeepsOutside}
use Rattle.pie_cache.specs.inner.Clearing.{IsOpened}
use Rattle.pie_cache.specs.inner.Keeping.{kept}
use Rattle.pie_cache.specs.inner.Places.{gate}
use Rattle.pie_cache.specs.inner.Stored.{offers_in}
use Rattle.pie_cache.specs.inner.Texts.{IsKept}
use Rattle.pie_commit.specs.inner.Plans.{Meets}
use Rattle.pie_files.proofs.Reading.{if_always}
use Rattle.pie_files.specs.Directory.{Directory, file_at}
use Rattle.pie_project.specs.declared.fault.BuildError.{BuildError}
use Rattle.pie_report.specs.declared.report.Report.{Report}
use Rattle.pie_topdown_build.specs.declared.offered.NewOffer.{NewOffer}
use Rattle.pie_topdown_build.specs.inner.Clean.{OffersClean}
use Rattle.pie_topdown_build.specs.inner.News.{as_told, Told}
use Rattle.pie_topdown_build.specs.inner.Offered.{IsNew}
use Rattle.pie_topdown_build.specs.inner.Records.{OffersOf}
use Rattle.pie_value.specs.declared.task.Task.{Task}
use Rattle.pie_cached.specs.Cached.{is_cached, KeepsAllButCache}
use Rattle.pie_cached.specs.inner.Clean.{CachesCleanBy, OpenedClean}
use Rattle.pie_cached.specs.inner.News.{kept_of, last_told, KeepsIn, KeepsTold}
use Rattle.pie_cached.proofs.Keeping.{cache_stays}

-- what a build with the record cache answers
abbrev Answer : Type 0
Answer = Result (Report × Vec Task Global) BuildError

-- what was kept of the files of the cache that a build left as they were
kept_since : (d : Directory) (made : Report) (told : List Told) (mid after : Option Directory) (rest : KeepsRest (Some d) mid)
    → KeepsTold (kept_of made.verdict told) mid after → file_at d gate ≡ None
    → (x : Directory) × (after ≡ Some x) × KeepsIn (file_at d) (kept_of made.verdict told) x
kept_since d made told mid after rest kept_so free =
    let e = rest.kept.0 in
    let same : (q : List ℕ) → is_cached q ≡ true → file_at e q ≡ file_at d q = λ q on. rest.kept.2 q (cache_stays q on) in
    let then : file_at e gate ≡ None → (x : Directory) × (after ≡ Some x) × KeepsIn (file_at e) (kept_of made.verdict told) x =
    subst (λ o. KeepsTold (kept_of made.verdict told) o after) rest.kept.1 kept_so in
    let left = then (same gate refl ∙ free) in (
      left.0,
      left.1,
      λ q on. subst (λ (o : Option (List ℕ × ℕ)). Meets (kept (last_told (kept_of made.verdict told) q) o) o (file_at left.0 q)) (same q on) (left.2 q on),
    )

module _ (made : Report) (told : List Told) (whole : All (λ (t : Told). IsKept t.1) told) where
  left_clean : (before mid after : Option Directory) → KeepsRest before mid → IfSome before (λ d. OffersClean offers_in d made mid)
      → IfSome before (λ d. OffersOf offers_in d made told) → KeepsAllButCache mid after → KeepsTold (kept_of made.verdict told) mid after
      → IfSome before (λ d. OpenedClean d made after)
  left_clean None mid after rest clean honest keeps kept_so = tt
  left_clean (Some d) mid after rest clean honest keeps kept_so = record {
    left = rest.kept.0;
    clean = subst (OffersClean offers_in d made) rest.kept.1 clean;
    keeps = subst (λ o. KeepsAllButCache o after) rest.kept.1 keeps;
    told = told;
    whole = whole;
    honest = honest;
    kept = kept_since d made told mid after rest kept_so;
  }

  -- a build over an opened cache, and what was kept then
  pub finished_clean : (result : Answer) (before mid after : Option Directory) → KeepsRest before mid
      → IfSome before (λ d. OffersClean offers_in d made mid) → IfSome before (λ d. OffersOf offers_in d made told) → KeepsAllButCache mid after
      → OnOk result (KeepsTold (kept_of made.verdict told) mid after) → IfOk result (λ r. r.0 ≡ made)
      → IfSome before (λ d. IfOk result (λ r. OpenedClean d r.0 after))
  finished_clean (Err e) before mid after rest clean honest keeps kept_so is = if_always before (tt {0})
  finished_clean (Ok r) before mid after rest clean honest keeps kept_so is =
      subst (λ (p : Report). IfSome before (λ d. OpenedClean d p after)) (sym is) (left_clean before mid after rest clean honest keeps kept_so)

-- what is new can be kept
pub all_kept : (news : List NewOffer) → All IsNew news → All (λ (t : Told). IsKept t.1) (map as_told news)
all_kept news all = All-map (λ (t : Told). IsKept t.1) as_told news all

-- the same after opening
pub opened_clean : (result : Answer) (before mid after : Option Directory) → IfSome before (λ d. IsOpened d mid) → KeepsOutside before mid
    → IfSome mid (λ d. IfOk result (λ r. OpenedClean d r.0 after)) → IfSome before (λ d. IfOk result (λ r. CachesCleanBy d r.0 after))
opened_clean (Err e) before mid after opens kept builds = if_always before (tt {0})
opened_clean (Ok r) None mid after opens kept builds = tt
opened_clean (Ok r) (Some d) mid after opens kept builds = record {
  opened = kept.0;
  opens = subst (IsOpened d) kept.1 opens;
  same = kept.2;
  builds = subst (λ o. IfSome o (λ e. OpenedClean e r.0 after)) kept.1 builds;
}
