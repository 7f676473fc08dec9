-- What a crash leaves of a build with the record cache, by its parts.
use Rattle.std.specs.Prelude.{◌≡◌, ◌⊎◌, ℕ, false, true, List, All, Option, IfSome}
use Rattle.pie_base.specs.Path.{same_text}
use Rattle.pie_cache.specs.inner.Gated.{HasGate, IsWhole}
use Rattle.pie_cache.specs.inner.Keeping.{kept}
use Rattle.pie_cache.specs.inner.Places.{gate}
use Rattle.pie_cache.specs.inner.Stored.{offers_in}
use Rattle.pie_cache.specs.inner.Texts.{IsKept}
use Rattle.pie_commit.specs.Outcomes.{HasFile}
use Rattle.pie_commit.specs.inner.Plans.{Meets}
use Rattle.pie_files.specs.Directory.{Directory, file_at}
use Rattle.pie_files.specs.Images.{Only}
use Rattle.pie_incremental.specs.Earlier.{Earlier}
use Rattle.pie_incremental.specs.Own.{open_path}
use Rattle.pie_topdown_build.specs.Anew.{IsSeparate}
use Rattle.pie_topdown_build.specs.Clean.{CanBegin, HasStoreOf}
use Rattle.pie_topdown_build.specs.Crashes.{StopsWith}
use Rattle.pie_topdown_build.specs.inner.Anew.{OffersHonestAlone}
use Rattle.pie_topdown_build.specs.inner.Clean.{OffersHonest}
use Rattle.pie_topdown_build.specs.inner.Crashes.{EndsOffered}
use Rattle.pie_topdown_build.specs.inner.News.{Told}
use Rattle.pie_topdown_build.specs.inner.Records.{AreOfProject}
use Rattle.pie_cached.specs.Cached.{is_cached}
use Rattle.pie_cached.specs.Crashes.{AlikeButCache}
use Rattle.pie_cached.specs.inner.News.{last_told}

-- while new offers are kept: the gate stands, or all is as before, or each file is what becomes of the one that there was by the last new offer for it
abbrev pub StopsKeeping : List Told → Directory → Directory → Type 0
StopsKeeping told d c = IsWhole (λ q. kept (last_told told q) (file_at d q)) d c

-- each file of the cache but the gate is as it was
abbrev pub HasCacheOf : Directory → Directory → Type 0
HasCacheOf d c = (q : List ℕ) → is_cached q ≡ true → same_text q gate ≡ false → file_at c q ≡ file_at d q

-- new offers are of the project of a directory, where its store is of an earlier build, or can't be read, and the cache offers honest records
pub record AreToldBy (d : Directory) (told : List Told) : Type 0 where
  pub goes_on : CanBegin d → (e : Earlier) (from : HasStoreOf e d) → OffersHonest e from.strings d offers_in → AreOfProject d told
  pub afresh : (CanBegin d → ⊥) → (apart : IsSeparate d) → OffersHonestAlone apart.strings d offers_in → AreOfProject d told

-- each file of the cache but the gate is what becomes of the one that there was by the last new offer for it
pub record HasNewOffers (d c : Directory) : Type 0 where
  pub told : List Told
  pub whole : All (λ (t : Told). IsKept t.1) told
  pub honest : AreToldBy d told
  pub keeps : (q : List ℕ) → is_cached q ≡ true → same_text q gate ≡ false → Meets (kept (last_told told q) (file_at d q)) (file_at d q) (file_at c q)

-- what a crash may leave of a build over an opened cache: outside the cache what it may leave of the build; inside it the gate, or the files as they were, or as
-- they are when all was kept
pub record StopsOpened (d c : Directory) : Type 0 where
  pub built : Directory
  pub stops : StopsWith (EndsOffered offers_in) d built
  pub outside : AlikeButCache built c
  pub inside : HasGate c ⊎ (HasCacheOf d c ⊎ HasNewOffers d c)

-- outside the cache, a build over an opened cache is done
pub record HasEndedOpened (d c : Directory) : Type 0 where
  pub built : Directory
  pub ends : EndsOffered offers_in d built
  pub outside : AlikeButCache built c

-- the marker stands in every image unless nothing changed outside the cache, or the build is done in every image
abbrev pub MarkedOpened : Directory → (Directory → Type 0) → Type 0
MarkedOpened d images =
    ((c : Directory) → images c → HasFile c open_path ⊎ AlikeButCache d c) ⊎ ((c : Directory) → images c → HasEndedOpened d c)

-- so it is where nothing was pending
abbrev pub EndsMarkedOpened : {S : Type 0} → (S → Option Directory) → (S → Directory → Type 0) → S → S → Type 0
EndsMarkedOpened holds images old new = IfSome (holds old) (λ d. Only d (images old) → MarkedOpened d (images new))
