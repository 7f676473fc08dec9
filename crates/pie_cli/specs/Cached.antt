-- What `cached` prints, the status that it ends with, and what it leaves.
use Rattle.std.specs.Prelude.{◌≡◌, ◌⊎◌, ◌≤◌, ℕ, true, List, length, Option, IfSome, Err}
use Rattle.pie_base.specs.declared.status.Status.{Status}
use Rattle.pie_base.specs.declared.status.Status.TheVariants as status
use Rattle.pie_build.specs.Crashes.{StaysAtRest}
use Rattle.pie_cached.specs.Cached.{KeepsAllButCache, KeepsOthers, StaysIfRefused}
use Rattle.pie_cached.specs.Crashes.{EndsMarkedCached, StopsCached}
use Rattle.pie_cached.specs.Kept.{KeepsCached}
use Rattle.pie_cached.specs.Clean.{CachesClean}
use Rattle.pie_cached.specs.Lines.{IsCachedText}
use Rattle.pie_cached.specs.News.{KeepsNews}
use Rattle.pie_cached.specs.Ran.{CachesRun}
use Rattle.pie_commit.specs.Outcomes.{LeavesFromRest}
use Rattle.pie_files.specs.Directory.{Directory}
use Rattle.pie_project.specs.Fronts.{ProjectSays}
use Rattle.pie_project.specs.Refusals.{Refusal}
use Rattle.pie_report.specs.declared.report.Report.{Report}
use Rattle.pie_report.specs.Refused.{refusal_line}
use Rattle.pie_value.specs.declared.task.Task.{Task}
use Rattle.pie_cli.specs.Fresh.{verdict_status}
use Rattle.pie_cli.specs.Listed.{RunsSaying}
use Rattle.pie_cli.specs.Run.{is_answer}

-- the project that is there is refused: the line tells why, and outside the cache the directory is as it was
abbrev pub RefusesOutsideCache : Option Directory → Option Directory → List ℕ → Status → Type 0
RefusesOutsideCache before after text ended = (e : Refusal) × IfSome before (λ d. ProjectSays d (Err e)) × KeepsAllButCache before after
    × (text ≡ refusal_line e) × (ended ≡ status.Pipeline)

-- there is a report of at most 50,000 tasks, with the tasks whose records came from the cache; the text is that of both; where the build is refused every file
-- outside the cache is as it was; each file of the cache is as once it was opened, but for those of tasks that ran in an accepted build, which get new entries;
-- the report and what is left are those of a clean build; and those tasks are reused of which an entry stands in the cache
pub record TellsCached (before after : Option Directory) (text : List ℕ) (ended : Status) : Type 0 where
  pub report : Report
  pub reused : List Task
  pub few : length report.ran.items ≤ 50000
  pub kept : StaysIfRefused report.verdict before after
  pub cache : KeepsCached report.verdict report.ran.items before after
  pub news : IfSome before (λ d. KeepsNews d report after)
  pub clean : IfSome before (λ d. CachesClean d report after)
  pub runs : IfSome before (λ d. CachesRun d report reused)
  pub is : IsCachedText report reused text
  pub status : ended ≡ verdict_status report.verdict

-- what a build with the record cache says
abbrev pub CachedSays : Option Directory → Option Directory → List ℕ → Status → Type 0
CachedSays before after text ended = RefusesOutsideCache before after text ended ⊎ TellsCached before after text ended

-- what `cached` says, whatever it ended with, that each path has the file that it had which isn't under `out/`, of the cache or one of the builder's own, what a
-- crash leaves, what every image has at the end, and that nothing is pending after an answer
pub record RunsCached {S : Type 0} (holds : S → Option Directory) (moment : S → ℕ) (left_since : S → ℕ → Directory → Type 0)
    (images : S → Directory → Type 0) (faults : S → ℕ) (old new : S) (held gained : Option (List ℕ)) (ended : Status) : Type 0 where
  pub said : RunsSaying CachedSays holds faults old new held gained ended
  pub rest : KeepsOthers (holds old) (holds new)
  pub crash : LeavesFromRest holds moment left_since images StopsCached old new
  pub marked : EndsMarkedCached holds images old new
  pub durable : is_answer ended ≡ true → StaysAtRest holds images old new
