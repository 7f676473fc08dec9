-- What the two builds of a round tell.
use Rattle.std.proofs.Common.{◌≡◌, ℕ, List, [], ◌++◌, Option, None, Some, Result, Ok, Err, inl, inr, refl, sym, ap, ◌∙◌, subst}
use Rattle.std.specs.Prelude.{IfOk, is_some}
use Rattle.std.proofs.lemmas.List.{append-nil}
use Rattle.pie_build.specs.Left.{KeepsRest, Leaves}
use Rattle.pie_build.specs.inner.Rebuilt.{IsRefusal, RebuildSays, RebuildsOnly}
use Rattle.pie_files.specs.Directory.{Directory}
use Rattle.pie_incremental.specs.Clean.{BuildsClean}
use Rattle.pie_incremental.specs.inner.Refused.{RefusesRight}
use Rattle.pie_parser.specs.FunctionTrees.{FunctionTree}
use Rattle.pie_project.specs.declared.fault.BuildError.{BuildError}
use Rattle.pie_project.specs.declared.fault.BuildError.TheVariants as errors
use Rattle.pie_project.specs.Fronts.{ProjectSays}
use Rattle.pie_project.specs.Refusals.{Refusal, OfPipeline, OfRoots, plain, Says}
use Rattle.pie_report.specs.declared.report.Report.{Report}
use Rattle.pie_value.specs.declared.task.Task.{Task}
use Rattle.pie_demo.specs.inner.Steps.{TellsLive, BuildsNamed, Rebuilds}

or_other : Directory → Option Directory → Directory
or_other other None = other
or_other other (Some d) = d

pub some_is : (d e : Directory) → Some d ≡ Some e → d ≡ e
unfolding or_other
some_is d e is = ap (or_other d) is

-- a refusal is told by what it is
refusal_right : (d : Directory) (result : Result Report BuildError) → IsRefusal result → RefusesRight d result → (e : Refusal) × ProjectSays d (Err e)
refusal_right d (Ok r) h says = absurd h
refusal_right d (Err (errors.Pipeline f)) h says = (OfPipeline (plain f), says)
refusal_right d (Err (errors.Roots r)) h says = (OfRoots r, says)
refusal_right d (Err errors.Files) h says = absurd h
refusal_right d (Err errors.OutOfMemory) h says = absurd h

refusal_said : (d : Directory) (result : Result Report BuildError) → IsRefusal result → Says (λ (r : Report). r) (RebuildSays d) result
    → (e : Refusal) × ProjectSays d (Err e)
refusal_said d (Ok r) h says = absurd h
refusal_said d (Err (errors.Pipeline f)) h says = (OfPipeline (plain f), says)
refusal_said d (Err (errors.Roots r)) h says = (OfRoots r, says)
refusal_said d (Err errors.Files) h says = absurd h
refusal_said d (Err errors.OutOfMemory) h says = absurd h

refusal_only : (d : Directory) (result : Result Report BuildError) → IsRefusal result → Says (λ (r : Report). r) (RebuildsOnly d) result
    → (front : List FunctionTree × List Task) → ProjectSays d (Ok front) → ⊥
refusal_only d (Ok r) h only = absurd h
refusal_only d (Err (errors.Pipeline f)) h only = only
refusal_only d (Err (errors.Roots r)) h only = only
refusal_only d (Err errors.Files) h only = absurd h
refusal_only d (Err errors.OutOfMemory) h only = absurd h

-- what a build by names told, by how many tasks it calls live
pub build_told : (names : List (List ℕ)) (d e : Directory) (runs runs_after : List Task) (result : Result Report BuildError) (live : Option ℕ)
    → TellsLive result live → KeepsRest (Some d) (Some e) → (IsRefusal result → Some e ≡ Some d) → (IsRefusal result → runs_after ≡ runs)
    → IfOk result (λ r. RebuildSays d (Ok r)) → IfOk result (λ r. BuildsClean names d r (Some e)) → IfOk result (λ r. runs_after ≡ runs ++ r.ran.items)
    → RefusesRight d result → BuildsNamed names d e runs runs_after (is_some live)
build_told names d e runs runs_after result None told keeps kept idle project builds ran says =
    let refusal = refusal_right d result told says in
    record {
      started = [];
      gain = idle told ∙ sym (append-nil runs);
      outcome = inr (refl, record { refusal = refusal.0; says = refusal.1; kept = some_is e d (kept told); none = refl });
    }
build_told names d e runs runs_after result (Some live) told keeps kept idle project builds ran says =
    let front : RebuildSays d (Ok told.0) = subst (λ x. IfOk x (λ r. RebuildSays d (Ok r))) told.1 project in
    record {
      started = told.0.ran.items;
      gain = subst (λ x. IfOk x (λ (r : Report). runs_after ≡ runs ++ r.ran.items)) told.1 ran;
      outcome = inl (
        refl,
        record {
          front = front.0;
          says = front.1;
          report = told.0;
          builds = subst (λ x. IfOk x (λ r. BuildsClean names d r (Some e))) told.1 builds;
          keeps = keeps;
          started_is = refl;
        },
      );
    }

-- what a clean build told
pub rebuild_live : (d e : Directory) (runs runs_after : List Task) (result : Result Report BuildError) (live : ℕ) → TellsLive result (Some live)
    → Says (λ (r : Report). r) (RebuildSays d) result → Says (λ (r : Report). r) (RebuildsOnly d) result → IfOk result (λ r. Leaves d r (Some e))
    → KeepsRest (Some d) (Some e) → IfOk result (λ r. runs_after ≡ runs ++ r.ran.items) → Rebuilds d e runs runs_after live
rebuild_live d e runs runs_after result live told says only leaves keeps ran =
    let front : RebuildSays d (Ok told.0) = subst (λ x. Says (λ (r : Report). r) (RebuildSays d) x) told.1 says in
    record {
      started = told.0.ran.items;
      gain = subst (λ x. IfOk x (λ (r : Report). runs_after ≡ runs ++ r.ran.items)) told.1 ran;
      outcome = inl (record {
        builds = record {
          front = front.0;
          says = front.1;
          report = told.0;
          leaves = subst (λ x. IfOk x (λ r. Leaves d r (Some e))) told.1 leaves;
          keeps = keeps;
          started_is = refl;
          live_is = told.2;
        };
        only = subst (λ x. Says (λ (r : Report). r) (RebuildsOnly d) x) told.1 only;
      });
    }

pub rebuild_none : (d e : Directory) (runs runs_after : List Task) (result : Result Report BuildError) → TellsLive result None
    → Says (λ (r : Report). r) (RebuildSays d) result → Says (λ (r : Report). r) (RebuildsOnly d) result → (IsRefusal result → Some e ≡ Some d)
    → (IsRefusal result → runs_after ≡ runs) → Rebuilds d e runs runs_after 0
rebuild_none d e runs runs_after result told says only kept idle =
    let refusal = refusal_said d result told says in
    record {
      started = [];
      gain = idle told ∙ sym (append-nil runs);
      outcome = inr (record {
        refuses = record { refusal = refusal.0; says = refusal.1; kept = some_is e d (kept told); none = refl };
        none = refl;
        only = refusal_only d result told only;
      });
    }
