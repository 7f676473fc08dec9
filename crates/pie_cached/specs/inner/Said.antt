-- What a build with the record cache and its parts say, each as one record.
use Rattle.std.specs.Prelude.{◌≡◌, ◌≤◌, ℕ, ◌+◌, List, ◌++◌, length, All, Option, Result, IfOk, IfSome, Vec}
use Rattle.std.specs.declared.alloc.Global.{Global}
use Rattle.pie_build.specs.Crashes.{StaysAtRest}
use Rattle.pie_build.specs.inner.Rebuilt.{IsRefusal}
use Rattle.pie_cache.specs.inner.Changes.{LeavesAlike}
use Rattle.pie_commit.specs.Outcomes.{LeavesFromRest}
use Rattle.pie_files.specs.Directory.{Directory}
use Rattle.pie_files.specs.Images.{Only}
use Rattle.pie_incremental.specs.inner.Refused.{RefusesRight}
use Rattle.pie_project.specs.declared.fault.BuildError.{BuildError}
use Rattle.pie_report.specs.declared.report.Report.{Report}
use Rattle.pie_topdown_build.specs.inner.News.{Told}
use Rattle.pie_value.specs.Canonical.{IsEncodableTask}
use Rattle.pie_value.specs.declared.task.Task.{Task}
use Rattle.pie_cached.specs.Cached.{KeepsAllButCache, KeepsOthers, StaysIfRefused}
use Rattle.pie_cached.specs.inner.Crashes.{StopsKeeping}

-- ---- the files

-- no path changed but those that a build with the record cache may change; and where nothing was pending, at each moment a crash leaves one of these, the
-- images at the end are as this says, and once this is settled nothing is pending
pub record Endures {S : Type 0} (holds : S → Option Directory) (moment : S → ℕ) (left_since : S → ℕ → Directory → Type 0) (images : S → Directory → Type 0)
    (May : Directory → Directory → Type 0) (Ends : Directory → (Directory → Type 0) → Type 0) (settled : Type 0) (old new : S) : Type 0 where
  pub rest : KeepsOthers (holds old) (holds new)
  pub crash : LeavesFromRest holds moment left_since images May old new
  pub marked : IfSome (holds old) (λ d. Only d (images old) → Ends d (images new))
  pub durable : settled → StaysAtRest holds images old new

-- while these new offers are kept, where nothing was pending, a crash leaves the gate, or all as before, or what keeping them leaves; whatever was pending, it
-- leaves nothing else outside the cache than before; and once this is settled, nothing is pending where nothing was
pub record EnduresKeeping {S : Type 0} (holds : S → Option Directory) (moment : S → ℕ) (left_since : S → ℕ → Directory → Type 0)
    (images : S → Directory → Type 0) (told : List Told) (settled : Type 0) (old new : S) : Type 0 where
  pub whole : LeavesFromRest holds moment left_since images (StopsKeeping told) old new
  pub alike : LeavesAlike holds moment left_since images old new
  pub durable : settled → StaysAtRest holds images old new

-- ---- a refusal

-- where the project is refused, every file outside the cache is as before, and it is refused so; and no refused build changes a file outside the cache
pub record RefusesAlike (before after : Option Directory) (result : Result (Report × Vec Task Global) BuildError) : Type 0 where
  pub refused : IsRefusal result → KeepsAllButCache before after
  pub kept : IfOk result (λ r. StaysIfRefused r.0.verdict before after)
  pub says : IfSome before (λ d. RefusesRight d result)

-- ---- the tasks

-- at most 50,000 tasks were started, a report tells them, and each has canonical bytes, as each task has that was reused
pub record TellsTasks (old new : List Task) (result : Result (Report × Vec Task Global) BuildError) : Type 0 where
  pub ran : IfOk result (λ r. new ≡ old ++ r.0.ran.items)
  pub few : length new ≤ length old + 50000
  pub encodable : IfOk result (λ r. All IsEncodableTask r.0.ran.items)
  pub reused : IfOk result (λ r. All IsEncodableTask r.1.items)
