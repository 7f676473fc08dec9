-- That a build with the record cache reports and leaves what a clean build does, where the cache is honest.
use Rattle.std.specs.Prelude.{◌≡◌, ℕ, false, true, List, ◌∷◌, Option, Some, None, IsSome}
use Rattle.pie_files.specs.Directory.{Directory, file_at}
use Rattle.pie_incremental.specs.Clean.{IsAsClean}
use Rattle.pie_incremental.specs.Earlier.{Earlier}
use Rattle.pie_report.specs.declared.report.Report.{Report}
use Rattle.pie_store.specs.declared.cause.Cause.{Cause}
use Rattle.pie_topdown_build.specs.Anew.{IsAsCleanAnew, IsMetAlone, IsSeparate}
use Rattle.pie_topdown_build.specs.Clean.{HasStoreOf, IsStoreCause}
use Rattle.pie_value.specs.declared.verdict.Verdict.TheVariants.{Accepted}
use Rattle.pie_cached.specs.Cached.{is_cached, KeepsAllButCache}
use Rattle.pie_cached.specs.Honest.{AreOfEntries, EntriesSeparate, IsHonestCache, IsMetBy, IsTrueCache}
use Rattle.pie_cached.specs.Kept.{gate_path}

-- opening the cache leaves the directory as it was, or where its gate stands without the files of the cache
pub record IsOpenedAs (d opened : Directory) : Type 0 where
  pub whole : file_at d gate_path ≡ None → opened ≡ d
  pub emptied : IsSome (file_at d gate_path) → (q : List ℕ) → is_cached q ≡ true → file_at opened q ≡ None
  pub same : (q : List ℕ) → is_cached q ≡ false → file_at opened q ≡ file_at d q

-- what a build with this report began from is honest: the store of an earlier build, or nothing, and the cache
pub data BeginsHonestly (d : Directory) (r : Report) : Type 0 where
  from_store : r.fresh ≡ None → (e : Earlier) (from : HasStoreOf e d) → IsHonestCache (IsMetBy e from.strings d) d → BeginsHonestly d r
  from_none : IsSome r.fresh → (apart : IsSeparate d) → IsHonestCache (IsMetAlone apart.strings d) d → BeginsHonestly d r

-- so is what it began from where the entries of the cache are of evaluations in these directories, and what must be separate for them is
pub data BeginsSeparately (seen : List Directory) (d : Directory) (r : Report) : Type 0 where
  with_store : r.fresh ≡ None → (e : Earlier) (from : HasStoreOf e d) → EntriesSeparate (IsMetBy e from.strings d) seen d → BeginsSeparately seen d r
  without_store : IsSome r.fresh → (apart : IsSeparate d) → EntriesSeparate (IsMetAlone apart.strings d) seen d → BeginsSeparately seen d r

-- what a build with the record cache came to: over the directory as it is after opening, a report that tells no cause to start afresh is as that of a clean
-- build, and so is what was left, where this directory has the store of an earlier build, and the cache is honest; so are one that tells a cause, and what it
-- left, whatever was there, where nothing that a clean build meets has the hash of something else, and the cache is honest; the cause holds; what was kept
-- afterwards changed files of the cache alone; and where all entries of the cache were of evaluations in some directories, and an accepted build began
-- honestly, all are then of evaluations in these and this one, and if each file of the cache was one of entries, each is. In place of an honest cache one whose
-- entries are of evaluations in some directories will do, where what must be separate for them is
pub record CachesClean (d : Directory) (r : Report) (after : Option Directory) : Type 0 where
  pub opened : Directory
  pub opens : IsOpenedAs d opened
  pub left : Directory
  pub goes_on : r.fresh ≡ None → (e : Earlier) (from : HasStoreOf e opened) → IsHonestCache (IsMetBy e from.strings opened) opened
      → IsAsClean opened r (Some left)
  pub goes_on_true : r.fresh ≡ None → (e : Earlier) (from : HasStoreOf e opened) (seen : List Directory) → IsTrueCache seen d
      → EntriesSeparate (IsMetBy e from.strings opened) seen opened → IsAsClean opened r (Some left)
  pub afresh : IsSome r.fresh → (apart : IsSeparate opened) → IsHonestCache (IsMetAlone apart.strings opened) opened → IsAsCleanAnew opened r (Some left)
  pub afresh_true : IsSome r.fresh → (apart : IsSeparate opened) (seen : List Directory) → IsTrueCache seen d
      → EntriesSeparate (IsMetAlone apart.strings opened) seen opened → IsAsCleanAnew opened r (Some left)
  pub cause : (c : Cause) → r.fresh ≡ Some c → IsStoreCause opened c
  pub keeps : KeepsAllButCache (Some left) after
  pub entries : (seen : List Directory) → IsTrueCache seen d → (r.verdict ≡ Accepted → BeginsHonestly opened r) → (kept : Directory) → after ≡ Some kept
      → IsTrueCache (opened ∷ seen) kept
  pub files : AreOfEntries d → (r.verdict ≡ Accepted → BeginsHonestly opened r) → (kept : Directory) → after ≡ Some kept → AreOfEntries kept
  pub stays_true : (seen : List Directory) → IsTrueCache seen d → (r.verdict ≡ Accepted → BeginsSeparately seen opened r) → (kept : Directory)
      → after ≡ Some kept → IsTrueCache (opened ∷ seen) kept
