-- A build of a script, once what was put and removed before it is made to last.
use Rattle.std.proofs.Common.{◌≡◌, ◌≤◌, ℕ, List, subst, ◌∙◌}
use Rattle.std.specs.Prelude.{Option, Result, Ok, Err, IfErr, IfSome, OnOk}
use Rattle.pie_build.specs.Left.{KeepsRest}
use Rattle.pie_build.specs.inner.Rebuilt.{Tells}
use Rattle.pie_files.specs.Directory.{Directory}
use Rattle.pie_files.specs.declared.files.Call.{Call}
use Rattle.pie_files.specs.declared.files.Call.TheVariants.{Sync}
use Rattle.pie_files.specs.Faults.{Rose}
use Rattle.pie_files.specs.Calls.{Notes}
use Rattle.pie_files.proofs.Reading.{if_each}
use Rattle.pie_incremental.specs.Clean.{BuildsClean}
use Rattle.pie_incremental.specs.Treated.{TreatsNames}
use Rattle.pie_incremental.specs.Asked.{AsksRight}
use Rattle.pie_named.specs.Asking.{MakesOnly}
use Rattle.pie_named.proofs.Calls.{calls_then, one_call}
use Rattle.pie_project.specs.declared.fault.BuildError.{BuildError}
use Rattle.pie_report.specs.declared.report.Report.{Report}
use Rattle.pie_script.specs.Steps.{BuildNow}
use Rattle.pie_value.specs.declared.task.Task.{Task}
use Rattle.pie_replay.specs.Replays.{Fails, Refuses}
use Rattle.pie_replay.specs.Trace.{HasBuilt}
use Rattle.pie_replay.specs.inner.Goes.{Goes}

calls_since : (kind : Call → Type 0) (asked mid asked_now : Option (List Call)) → Notes (λ c. c ≡ Sync) asked mid → MakesOnly kind mid asked_now
    → kind Sync → MakesOnly kind asked asked_now
calls_since kind asked mid asked_now noted h is = calls_then kind asked mid asked_now (one_call kind Sync asked mid is noted) h

-- to make what was done last is no look
asks_then : (names : List (List ℕ)) (d : Directory) (report : Report) (asked mid asked_now : Option (List Call)) → Notes (λ c. c ≡ Sync) asked mid
    → AsksRight names d report mid asked_now → AsksRight names d report asked asked_now
asks_then names d report asked mid asked_now noted h = λ none e from.
    let may = h none e from in
    record {
      funcs = may.funcs;
      roots = may.roots;
      found = may.found;
      base = may.base;
      is = may.is;
      asks = calls_since _ asked mid asked_now noted may.asks (tt {0});
    }

module _ {S : Type 0} (holds : S → Option Directory) (old mid new : S) (same : holds mid ≡ holds old) where
  built_then : (names : List (List ℕ)) (report : Report) → HasBuilt holds names report mid new → HasBuilt holds names report old new
  built_then names report h = record {
    rest = subst (λ o. KeepsRest o (holds new)) same h.rest;
    treated = subst (λ o. IfSome o (λ d. TreatsNames names d report (holds new))) same h.treated;
    few = h.few;
    clean = subst (λ o. IfSome o (λ d. BuildsClean names d report (holds new))) same h.clean;
    encodable = h.encodable;
  }

  pub goes_then : {T : Type 0} (asked : S → Option (List Call)) → Notes (λ c. c ≡ Sync) (asked old) (asked mid)
      → (result : Result T BuildError) (names then : List (List ℕ)) (done more : List Report) (runs ran : List Task)
      → OnOk result (Goes holds asked BuildNow mid new names then done more runs ran)
      → OnOk result (Goes holds asked BuildNow old new names then done more runs ran)
  goes_then asked noted (Ok t) names then done more runs ran g = (
    g.0,
    built_then names g.0 g.1,
    if_each (λ d. AsksRight names d g.0 (asked mid) (asked new)) (λ d. AsksRight names d g.0 (asked old) (asked new)) (holds old)
        (λ d a. asks_then names d g.0 (asked old) (asked mid) (asked new) noted a)
        (subst (λ o. IfSome o (λ d. AsksRight names d g.0 (asked mid) (asked new))) same g.2),
    g.3,
    g.4,
    g.5,
  )
  goes_then asked noted (Err e) names then done more runs ran g = tt

  pub fails_then : {T : Type 0} (result : Result T BuildError) → IfErr result (λ e. Fails holds BuildNow e mid new)
      → IfErr result (λ e. Fails holds BuildNow e old new)
  fails_then result f = subst (λ o. IfErr result (λ e. KeepsRest o (holds new) × (Refuses e → holds new ≡ o))) same f

-- a call before it that didn't fail
pub tells_then : {S T : Type 0} (faults : S → ℕ) (old mid new : S) (result : Result T BuildError) → faults mid ≡ faults old
    → Tells faults mid new result → Tells faults old new result
tells_then faults old mid new result same h = record {
  later = subst (λ n. n ≤ faults new) same h.later;
  steady = λ v. h.steady v ∙ same;
  cause = λ f. subst (λ n. Rose n (faults new)) same (h.cause f);
}
