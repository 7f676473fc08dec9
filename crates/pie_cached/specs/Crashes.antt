-- What a crash leaves of a build with the record cache.
use Rattle.std.specs.Prelude.{◌≡◌, ◌⊎◌, ℕ, false, true, List, ◌∷◌, ◌++◌, Option, Some, IfSome}
use Rattle.sha2.specs.Sha256.{sha256}
use Rattle.pie_base.specs.Path.{same_text}
use Rattle.pie_commit.specs.Outcomes.{HasFile}
use Rattle.pie_files.specs.Directory.{Directory, file_at, without_file}
use Rattle.pie_files.specs.Images.{Only}
use Rattle.pie_incremental.specs.Crashes.{IsCleanBuilt}
use Rattle.pie_incremental.specs.Earlier.{Earlier}
use Rattle.pie_incremental.specs.Own.{open_path}
use Rattle.pie_topdown_build.specs.Anew.{IsMetAlone, IsSeparate}
use Rattle.pie_topdown_build.specs.Clean.{CanBegin, HasStoreOf}
use Rattle.pie_topdown_build.specs.Crashes.{KeepsOthers, StopsWith}
use Rattle.pie_cached.specs.Cached.{is_cached}
use Rattle.pie_cached.specs.Clean.{IsOpenedAs}
use Rattle.pie_cached.specs.Honest.{entries_bytes, Entry, IsHonestCache, IsMetBy, IsTrueCache}
use Rattle.pie_cached.specs.Kept.{cache_file, gate_path}

-- ---- outside the cache

-- what a build of a directory starts from is honest: the store of an earlier build where it can be read, or nothing, and the cache
pub data StartsHonestly (d : Directory) : Type 0 where
  from_store : CanBegin d → (e : Earlier) (from : HasStoreOf e d) → IsHonestCache (IsMetBy e from.strings d) d → StartsHonestly d
  from_none : (CanBegin d → ⊥) → (apart : IsSeparate d) → IsHonestCache (IsMetAlone apart.strings d) d → StartsHonestly d

-- a build is done, with or without the marker: no other path changed, and where it started honestly, the directory is that of the clean build
pub record EndsCached (d c : Directory) : Type 0 where
  pub rest : KeepsOthers d c
  pub clean : StartsHonestly d → IsCleanBuilt d (without_file c open_path)

-- outside the cache two directories have the same files
abbrev pub AlikeButCache : Directory → Directory → Type 0
AlikeButCache d c = (q : List ℕ) → is_cached q ≡ false → file_at c q ≡ file_at d q

-- ---- inside the cache

-- a new file of the cache: its bytes are those of entries, the first of which is of a task that has this path by a digest
pub record IsNewFile (path : List ℕ) (file : Option (List ℕ × ℕ)) : Type 0 where
  pub entry : Entry
  pub more : List Entry
  pub digest : List ℕ
  pub is : path ≡ cache_file entry.0.task digest
  pub mark : ℕ
  pub there : file ≡ Some (entries_bytes (entry ∷ more) ++ sha256 (entries_bytes (entry ∷ more)), mark)

-- each file of the cache but the gate is as once it was opened, or is new; and where all entries of the cache were of evaluations in some directories, and the
-- build started honestly, all are of evaluations in these and the opened one
pub record HasWholeCache (d opened c : Directory) : Type 0 where
  pub each : (q : List ℕ) → is_cached q ≡ true → same_text q gate_path ≡ false → (file_at c q ≡ file_at opened q) ⊎ IsNewFile q (file_at c q)
  pub entries : (seen : List Directory) → IsTrueCache seen d → StartsHonestly opened → IsTrueCache (opened ∷ seen) c

-- ---- together

-- what a crash may leave of a build with the record cache of a directory: outside the cache, what it may leave of a build of the directory as it is after
-- opening, which is under way, changed nothing yet, or is done; and inside it the gate, or whole files
pub record StopsCached (d c : Directory) : Type 0 where
  pub opened : Directory
  pub opens : IsOpenedAs d opened
  pub built : Directory
  pub stops : StopsWith EndsCached opened built
  pub outside : AlikeButCache built c
  pub inside : HasFile c gate_path ⊎ HasWholeCache d opened c

-- outside the cache, a build of the directory as it is after opening is done
pub record HasEndedCached (d c : Directory) : Type 0 where
  pub opened : Directory
  pub opens : IsOpenedAs d opened
  pub built : Directory
  pub ends : EndsCached opened built
  pub outside : AlikeButCache built c

-- the marker stands in every image unless nothing changed outside the cache, or the build is done in every image
abbrev pub MarkedCached : Directory → (Directory → Type 0) → Type 0
MarkedCached d images =
    ((c : Directory) → images c → HasFile c open_path ⊎ AlikeButCache d c) ⊎ ((c : Directory) → images c → HasEndedCached d c)

-- so it is where nothing was pending
abbrev pub EndsMarkedCached : {S : Type 0} → (S → Option Directory) → (S → Directory → Type 0) → S → S → Type 0
EndsMarkedCached holds images old new = IfSome (holds old) (λ d. Only d (images old) → MarkedCached d (images new))
