-- A script while it is done.
use Rattle.std.proofs.Common.{◌≡◌, ◌≤◌, ◌<◌, ◌+◌, ℕ, List, [], ◌∷◌, ◌++◌, map, drop, length, get_or, sym, ap, refl, subst, ◌∙◌}
use Rattle.std.specs.Prelude.{Option, Result, Ok, Err}
use Rattle.std.proofs.lemmas.List.{append_assoc, append-nil, drop_more}
use Rattle.std.proofs.Math.ListN.{drop_of_length-le}
use Rattle.pie_build.specs.inner.Rebuilt.{Tells}
use Rattle.pie_files.specs.Directory.{Directory}
use Rattle.pie_files.specs.declared.files.Call.{Call}
use Rattle.pie_files.specs.Faults.{Rose}
use Rattle.pie_project.specs.declared.fault.BuildError.{BuildError}
use Rattle.pie_project.specs.declared.fault.BuildError.TheVariants as errors
use Rattle.pie_project.specs.Refusals.{IsVerdict}
use Rattle.pie_report.specs.declared.report.Report.{Report}
use Rattle.pie_script.specs.Steps.{Plain, PutFile, DelFile, Name, BuildNow, plain}
use Rattle.pie_script.specs.declared.step.Step.{Step}
use Rattle.pie_value.specs.declared.task.Task.{Task}
use Rattle.pie_replay.specs.Replays.{Fails, Replays, Stopped, tasks_of}
use Rattle.pie_replay.specs.inner.Goes.{Goes, LeavesGoing, RestsAfter}
use Rattle.pie_replay.proofs.Leaving.{TracedTo, built_on, deleted_on, named_on, nothing_done, put_on, step_further}

-- some steps are done, and these are left
pub record Replaying {S : Type 0} (holds : S → Option Directory) (moment : S → ℕ) (left_since : S → ℕ → Directory → Type 0)
    (images : S → Directory → Type 0) (asked : S → Option (List Call)) (faults : S → ℕ) (all left : List Plain) (start now : S) (names : List (List ℕ))
    (before done : List Report) (runs ran : List Task) : Type 0 where
  pub front : List Plain
  pub parted : all ≡ front ++ left
  pub gained : List Report
  pub appended : done ≡ before ++ gained
  pub traced : TracedTo holds moment left_since images asked start front names gained now
  pub started : ran ≡ runs ++ tasks_of gained
  pub steady : faults now ≡ faults start

tasks-append : (reports : List Report) (r : Report) → tasks_of (reports ++ r ∷ []) ≡ tasks_of reports ++ r.ran.items
tasks-append [] r = append-nil r.ran.items
tasks-append (first ∷ reports) r =
    ap (λ (ts : List Task). first.ran.items ++ ts) (tasks-append reports r) ∙ sym (append_assoc first.ran.items (tasks_of reports) r.ran.items)

-- the next step, and those after it
pub next_step : (steps : List Step) (i : ℕ) (step : Step) → i < length steps → step ≡ get_or steps i step
    → map plain (drop i steps) ≡ plain step ∷ map plain (drop (i + 1) steps)
next_step steps i step inside is =
    ap (map plain) (drop_more steps i step inside) ∙ ap (λ s. plain s ∷ map plain (drop (i + 1) steps)) (sym is)

-- none is left at the end
pub none_left : (steps : List Step) (i : ℕ) → length steps ≤ i → map plain (drop i steps) ≡ []
none_left steps i end = ap (map plain) (drop_of_length-le steps end)

module _ {S : Type 0} (holds : S → Option Directory) (moment : S → ℕ) (left_since : S → ℕ → Directory → Type 0) (images : S → Directory → Type 0)
    (asked : S → Option (List Call)) (faults : S → ℕ) where
  abbrev Traced : S → List Plain → List (List ℕ) → List Report → S → Type 0
  Traced start steps names reports now = TracedTo holds moment left_since images asked start steps names reports now

  abbrev Doing : List Plain → List Plain → S → S → List (List ℕ) → List Report → List Report → List Task → List Task → Type 0
  Doing all left start now names before done runs ran = Replaying holds moment left_since images asked faults all left start now names before done runs ran

  -- no step is done yet
  pub begins : (all left : List Plain) (start : S) (names : List (List ℕ)) (before : List Report) (runs : List Task) → all ≡ left → names ≡ []
      → Doing all left start start names before before runs runs
  begins all left start names before runs is none = record {
    front = [];
    parted = is;
    gained = [];
    appended = sym (append-nil before);
    traced = subst (λ (ns : List (List ℕ)). Traced start [] ns [] start) (sym none) (nothing_done holds moment left_since images asked start);
    started = sym (append-nil runs);
    steady = refl;
  }

  -- the trace goes on by a step
  abbrev Further : S → List Plain → List Report → Plain → S → List (List ℕ) → List Report → List Report → List Task → List Task → Type 0
  Further start front gained step now names done more runs ran =
      (all : List Report) × Traced start (front ++ step ∷ []) names all now
      × ((before : List Report) → done ≡ before ++ gained → more ≡ before ++ all)
      × ((first : List Task) → runs ≡ first ++ tasks_of gained → ran ≡ first ++ tasks_of all)

  further : (start mid now : S) (front : List Plain) (gained : List Report) (step : Plain) (names then : List (List ℕ)) (done more : List Report)
      (runs ran : List Task) → Traced start front names gained mid → Goes holds asked step mid now names then done more runs ran
      → LeavesGoing holds moment left_since images step names mid now → RestsAfter holds images step mid now
      → Further start front gained step now then done more runs ran
  further start mid now front gained (PutFile path bytes) names then done more runs ran t g l rests = (
    gained,
    subst (λ (ns : List (List ℕ)). Traced start (front ++ PutFile path bytes ∷ []) ns gained now) (sym g.1)
        (put_on holds moment left_since images asked path bytes t now g.0 l),
    λ before is. g.2 ∙ is,
    λ first is. g.3 ∙ is,
  )
  further start mid now front gained (DelFile path) names then done more runs ran t g l rests = (
    gained,
    subst (λ (ns : List (List ℕ)). Traced start (front ++ DelFile path ∷ []) ns gained now) (sym g.1)
        (deleted_on holds moment left_since images asked path t now g.0 l),
    λ before is. g.2 ∙ is,
    λ first is. g.3 ∙ is,
  )
  further start mid now front gained (Name path) names then done more runs ran t g l rests = (
    gained,
    subst (λ (ns : List (List ℕ)). Traced start (front ++ Name path ∷ []) ns gained now) (sym g.1)
        (subst (λ (s : S). Traced start (front ++ Name path ∷ []) (names ++ path ∷ []) gained s) (sym g.0)
        (named_on holds moment left_since images asked path t)),
    λ before is. g.2 ∙ is,
    λ first is. g.3 ∙ is,
  )
  further start mid now front gained BuildNow names then done more runs ran t g l rests = (
    gained ++ g.0 ∷ [],
    subst (λ (ns : List (List ℕ)). Traced start (front ++ BuildNow ∷ []) ns (gained ++ g.0 ∷ []) now) (sym g.3)
        (built_on holds moment left_since images asked g.0 t now g.1 g.2 l rests),
    λ before is. g.4 ∙ ap (λ (rs : List Report). rs ++ g.0 ∷ []) is ∙ append_assoc before gained (g.0 ∷ []),
    λ first is. g.5 ∙ ap (λ (ts : List Task). ts ++ g.0.ran.items) is ∙ append_assoc first (tasks_of gained) g.0.ran.items
        ∙ ap (λ (ts : List Task). first ++ ts) (sym (tasks-append gained g.0)),
  )

  -- one step more is done
  pub goes_on : (all left rest : List Plain) (step : Plain) (start mid now : S) (names then : List (List ℕ)) (before done more : List Report)
      (first runs ran : List Task) → Doing all left start mid names before done first runs → left ≡ step ∷ rest
      → Goes holds asked step mid now names then done more runs ran → LeavesGoing holds moment left_since images step names mid now
      → RestsAfter holds images step mid now → faults now ≡ faults mid → Doing all rest start now then before more first ran
  goes_on all left rest step start mid now names then before done more first runs ran r is g l rests same =
      let f = further start mid now r.front r.gained step names then done more runs ran r.traced g l rests in
      record {
        front = r.front ++ step ∷ [];
        parted = r.parted ∙ ap (λ (ss : List Plain). r.front ++ ss) is ∙ sym (append_assoc r.front (step ∷ []) rest);
        gained = f.0;
        appended = f.2 before r.appended;
        traced = f.1;
        started = f.3 first r.started;
        steady = same ∙ r.steady;
      }

  -- a step failed
  pub stops : {T : Type 0} (all left rest : List Plain) (step : Plain) (start mid now : S) (names : List (List ℕ)) (before done more : List Report)
      (first runs ran : List Task) (e : BuildError) (result : Result T BuildError) → Err e ≡ result
      → Doing all left start mid names before done first runs → left ≡ step ∷ rest → Fails holds step e mid now
      → LeavesGoing holds moment left_since images step names mid now → more ≡ done
      → Replays holds moment left_since images asked all start now before more first ran result
  stops {T} all left rest step start mid now names before done more first runs ran e result is r at f l same =
      let stopped : Stopped holds all r.gained e start now = record {
        front = r.front;
        step = step;
        rest = rest;
        parted = r.parted ∙ ap (λ (ss : List Plain). r.front ++ ss) at;
        names = names;
        mid = mid;
        done = r.traced.trace;
        failed = f;
      } in
      subst (λ (x : Result T BuildError). Replays holds moment left_since images asked all start now before more first ran x) is (record {
        gained = r.gained;
        appended = same ∙ r.appended;
        went = stopped;
        crash = step_further holds moment left_since images asked r.traced now step l;
        looks = r.traced.looks;
        started = tt;
      })

  -- all steps are done
  pub ends : {T : Type 0} (all left : List Plain) (start now : S) (names : List (List ℕ)) (before done : List Report) (first runs : List Task) (t : T)
      → Doing all left start now names before done first runs → left ≡ []
      → Replays holds moment left_since images asked all start now before done first runs (Ok t)
  ends all left start now names before done first runs t r is =
      let all_is : r.front ≡ all = sym (r.parted ∙ ap (λ (ss : List Plain). r.front ++ ss) is ∙ append-nil r.front) in
      let traced : Traced start all names r.gained now = subst (λ (ss : List Plain). Traced start ss names r.gained now) all_is r.traced in
      record {
        gained = r.gained;
        appended = r.appended;
        went = (names, traced.trace);
        crash = record { since = traced.since; ended = traced.ended };
        looks = traced.looks;
        started = r.started;
      }

  -- what the count of faults tells, from the start
  pub tells_since : {A B : Type 0} (start mid now : S) (e : BuildError) (result : Result B BuildError) → Err e ≡ result → faults mid ≡ faults start
      → Tells {T = A} faults mid now (Err e) → Tells faults start now result
  tells_since {A} {B} start mid now e result is steady h =
      subst (λ (x : Result B BuildError). Tells faults start now x) is (record {
        later = subst (λ n. n ≤ faults now) steady h.later;
        steady = λ v. h.steady (verdict e v) ∙ steady;
        cause = λ f. subst (λ n. Rose n (faults now)) steady (h.cause (again f));
      })
    where
      verdict : (e : BuildError) → IsVerdict {A = B} (Err e) → IsVerdict {A = A} (Err e)
      verdict (errors.Pipeline x) v = v
      verdict (errors.Roots x) v = v
      verdict errors.Files v = v
      verdict errors.OutOfMemory v = v

      again : ◌≡◌ {A = Result B BuildError} (Err e) (Err errors.Files) → ◌≡◌ {A = Result A BuildError} (Err e) (Err errors.Files)
      again f = let same : e ≡ errors.Files = cc in ap Err same
