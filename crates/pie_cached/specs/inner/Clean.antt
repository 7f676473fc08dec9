-- What a build with the record cache reports and leaves, as a clean build does, by what the cache offers.
use Rattle.std.specs.Prelude.{◌≡◌, ℕ, false, List, All, Option, None, Some}
use Rattle.pie_cache.specs.inner.Clearing.{IsOpened}
use Rattle.pie_cache.specs.inner.Places.{gate}
use Rattle.pie_cache.specs.inner.Stored.{offers_in}
use Rattle.pie_cache.specs.inner.Texts.{IsKept}
use Rattle.pie_files.specs.Directory.{Directory, file_at}
use Rattle.pie_report.specs.declared.report.Report.{Report}
use Rattle.pie_topdown_build.specs.inner.Clean.{OffersClean}
use Rattle.pie_topdown_build.specs.inner.News.{Told}
use Rattle.pie_topdown_build.specs.inner.Records.{OffersOf}
use Rattle.pie_cached.specs.Cached.{is_cached, KeepsAllButCache}
use Rattle.pie_cached.specs.inner.News.{kept_of, KeepsIn}

-- a build over an opened cache left this directory, as a clean build does where the entries of the cache are honest; what was kept afterwards changed no
-- other file, and is what this build told, which is of its evaluations where it began honestly
pub record OpenedClean (d : Directory) (r : Report) (after : Option Directory) : Type 0 where
  pub left : Directory
  pub clean : OffersClean offers_in d r (Some left)
  pub keeps : KeepsAllButCache (Some left) after
  pub told : List Told
  pub whole : All (λ (t : Told). IsKept t.1) told
  pub honest : OffersOf offers_in d r told
  pub kept : file_at d gate ≡ None → (x : Directory) × (after ≡ Some x) × KeepsIn (file_at d) (kept_of r.verdict told) x

-- opening left this directory, outside the cache as it was, and the build that came then is so
pub record CachesCleanBy (d : Directory) (r : Report) (after : Option Directory) : Type 0 where
  pub opened : Directory
  pub opens : IsOpened d (Some opened)
  pub same : (q : List ℕ) → is_cached q ≡ false → file_at opened q ≡ file_at d q
  pub builds : OpenedClean opened r after
