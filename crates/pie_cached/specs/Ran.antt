-- Which tasks a build with the record cache runs, and which it takes from the cache.
use Rattle.std.specs.Prelude.{◌≡◌, ℕ, ◌<◌, ◌≤◌, List, length, All, Contains, Some, None, IsSome}
use Rattle.pie_files.specs.Directory.{Directory, file_at}
use Rattle.pie_incremental.specs.Earlier.{Earlier}
use Rattle.pie_incremental.specs.Ran.{digest_in}
use Rattle.pie_parser.specs.FunctionTrees.{FunctionTree}
use Rattle.pie_report.specs.declared.report.Report.{Report}
use Rattle.pie_topdown_build.specs.Anew.{IsMetAlone, IsSeparate}
use Rattle.pie_topdown_build.specs.Clean.{HasStoreOf}
use Rattle.pie_topdown_build.specs.Ran.{IsStanding, RanAnew, RanOffered}
use Rattle.pie_value.specs.declared.task.Task.{Task}
use Rattle.pie_cached.specs.Clean.{IsOpenedAs}
use Rattle.pie_cached.specs.Honest.{Entry, IsFileOf, IsHonestCache, IsMetBy}
use Rattle.pie_cached.specs.Kept.{cache_file}

-- an entry stands of the file of the cache that is looked at for a task by the digest of its function
pub record HasStandingEntry (d : Directory) (fs : List FunctionTree) (funcs : List (List ℕ × List ℕ)) (t : Task) : Type 0 where
  pub digest : List ℕ
  pub listed : digest_in funcs t.func ≡ Some digest
  pub file : List ℕ × ℕ
  pub there : file_at d (cache_file t digest) ≡ Some file
  pub short : length file.0 ≤ 16777216
  pub entries : List Entry
  pub is : IsFileOf entries file.0
  pub entry : Entry
  pub among : Contains entries entry
  pub stands : IsStanding fs d t entry

-- the files of the cache are of bytes
abbrev pub HasBytes : Directory → Type 0
HasBytes d = (t : Task) (digest : List ℕ) (file : List ℕ × ℕ) → file_at d (cache_file t digest) ≡ Some file → All (λ b. b < 256) file.0

-- over the directory as it is after opening, where its cache is honest: of the tasks that have a reason to run, or of all where the report tells a cause to start
-- afresh, exactly those ran of which no entry stands in the cache, and exactly those were reused of which one does
pub record CachesRun (d : Directory) (r : Report) (reused : List Task) : Type 0 where
  pub opened : Directory
  pub opens : IsOpenedAs d opened
  pub goes_on : r.fresh ≡ None → HasBytes opened → (e : Earlier) (from : HasStoreOf e opened) → IsHonestCache (IsMetBy e from.strings opened) opened
      → RanOffered e opened (HasStandingEntry opened) r.ran.items reused r.verdict
  pub afresh : IsSome r.fresh → HasBytes opened → (apart : IsSeparate opened) → IsHonestCache (IsMetAlone apart.strings opened) opened
      → RanAnew opened (HasStandingEntry opened) r.ran.items reused r.verdict
