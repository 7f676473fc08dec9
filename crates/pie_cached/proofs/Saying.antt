-- What a build with the record cache says, from what its parts say.
use Rattle.std.proofs.Common.{◌≡◌, ◌++◌, ℕ, List, Option, Result, Ok, Err, subst, sym, arith}
use Rattle.std.specs.Prelude.{All, IfOk, IfSome, Vec}
use Rattle.std.specs.declared.alloc.Global.{Global}
use Rattle.std.proofs.lemmas.Result.{IfOk-weaker}
use Rattle.pie_build.specs.inner.Rebuilt.{IsRefusal}
use Rattle.pie_cache.specs.inner.Changes.{KeepsOutside, LeavesAlike}
use Rattle.pie_cache.specs.inner.Gated.{OpensWhole}
use Rattle.pie_commit.specs.Outcomes.{LeavesFromRest}
use Rattle.pie_files.specs.Directory.{Directory}
use Rattle.pie_project.specs.declared.fault.BuildError.{BuildError}
use Rattle.pie_project.specs.declared.fault.BuildError.TheVariants as errors
use Rattle.pie_report.specs.declared.report.Report.{Report}
use Rattle.pie_topdown_build.specs.declared.offered.Offered.{Offered}
use Rattle.pie_topdown_build.specs.Refusals.{KeepsRefused}
use Rattle.pie_topdown_build.specs.inner.Said.{RefusesUnchanged, TellsRuns}
use Rattle.pie_value.specs.Canonical.{IsEncodableTask}
use Rattle.pie_value.specs.declared.task.Task.{Task}
use Rattle.pie_cached.specs.Cached.{KeepsAllButCache, StaysIfRefused}
use Rattle.pie_cached.specs.Crashes.{MarkedCached, StopsCached}
use Rattle.pie_cached.specs.inner.Said.{Endures, RefusesAlike, TellsTasks}
use Rattle.pie_cached.proofs.Others.{cache_both, cache_same, if_refused, of_cache, refused_then}
use Rattle.pie_cached.proofs.Refusing.{handed_on, never, opened}
use Rattle.pie_cached.proofs.Stopping.{opening_marked, opening_stops}

-- what a build with the record cache answers
abbrev Answer : Type 0
Answer = Result (Report × Vec Task Global) BuildError

-- ---- the files

module _ {S : Type 0} (holds : S → Option Directory) (moment : S → ℕ) (left_since : S → ℕ → Directory → Type 0) (images : S → Directory → Type 0) where
  -- the cache couldn't be opened
  pub opening_endures : (settled : Type 0) (old new : S) → (settled → ⊥) → KeepsOutside (holds old) (holds new)
      → LeavesFromRest holds moment left_since images OpensWhole old new → LeavesAlike holds moment left_since images old new
      → Endures holds moment left_since images StopsCached MarkedCached settled old new
  opening_endures settled old new not kept whole alike = record {
    rest = of_cache (holds old) (holds new) kept;
    crash = opening_stops holds moment left_since images old new whole alike;
    marked = opening_marked holds moment left_since images old new alike;
    durable = λ is. absurd (not is);
  }

-- ---- a refusal

-- an error is a refusal whatever was wanted
refusal_again : (A B : Type 0) (e : BuildError) → IsRefusal {A = A} (Err e) → IsRefusal {A = B} (Err e)
refusal_again A B (errors.Pipeline f) is = tt
refusal_again A B (errors.Roots r) is = tt
refusal_again A B errors.Files is = is
refusal_again A B errors.OutOfMemory is = is

-- the build was refused, and nothing is kept
pub refuses_built : (before after : Option Directory) (e : BuildError)
    → RefusesUnchanged {A = Offered} before after (Err e) (λ (o : Offered). o.report.value) → RefusesAlike before after (Err e)
refuses_built before after e h = record {
  refused = λ is. cache_same before after (h.refused (refusal_again (Report × Vec Task Global) Offered e is));
  kept = tt;
  says = handed_on Offered (Report × Vec Task Global) before e h.says;
}

-- it was done, and what is new was kept, or that failed
pub refuses_done : (before mid after : Option Directory) (report : Report) (result : Answer) → IfSome before (λ d. KeepsRefused report.verdict d mid)
    → KeepsAllButCache mid after → IfOk result (λ r. r.0 ≡ report) → (IsRefusal result → ⊥) → RefusesAlike before after result
refuses_done before mid after report result kept rest told not = record {
  refused = λ is. absurd (not is);
  kept = IfOk-weaker result _ _
      (λ r same. subst (λ (p : Report). StaysIfRefused p.verdict before after) (sym same) (if_refused report.verdict before mid after kept rest)) told;
  says = never (Report × Vec Task Global) before result not;
}

-- the cache was opened before
pub refuses_opened : (before mid after : Option Directory) (result : Answer) → KeepsAllButCache before mid → RefusesAlike mid after result
    → RefusesAlike before after result
refuses_opened before mid after result kept h = record {
  refused = λ is. cache_both before mid after kept (h.refused is);
  kept = IfOk-weaker result _ _ (λ r stays. refused_then r.0.verdict before mid after kept stays) h.kept;
  says = opened (Report × Vec Task Global) before mid result kept h.says;
}

-- a fault refuses no project
pub refuses_fault : (before after : Option Directory) (e : BuildError) → (IsRefusal {A = Report × Vec Task Global} (Err e) → ⊥)
    → RefusesAlike before after (Err e)
refuses_fault before after e not = record {
  refused = λ is. absurd (not is);
  kept = tt;
  says = never (Report × Vec Task Global) before (Err e) not;
}

-- ---- the tasks

-- no task was started
pub tells_none : (old : List Task) (e : BuildError) → TellsTasks old old (Err e)
tells_none old e = record { ran = tt; few = omega arith; encodable = tt; reused = tt }

-- an answer has the report and the reused tasks of the build
pub tells_built : (old new : List Task) (o : Offered) (result : Answer)
    → TellsRuns {A = Offered} {E = BuildError} old new (Ok o) (λ (x : Offered). x.report.value) → All IsEncodableTask o.reused.items → IfOk result (λ r. r.0 ≡ o.report.value) → IfOk result (λ r. r.1 ≡ o.reused) → TellsTasks old new result
tells_built old new o (Ok r) runs tasks report reused = record {
  ran = subst (λ (p : Report). new ≡ old ++ p.ran.items) (sym report) runs.ran;
  few = runs.few;
  encodable = subst (λ (p : Report). All IsEncodableTask p.ran.items) (sym report) runs.encodable;
  reused = subst (λ (ts : Vec Task Global). All IsEncodableTask ts.items) (sym reused) tasks;
}
tells_built old new o (Err e) runs tasks report reused = record { ran = tt; few = runs.few; encodable = tt; reused = tt }
