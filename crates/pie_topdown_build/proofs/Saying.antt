-- What a part of a build without a list says, from what the parts that it calls say.
use Rattle.std.proofs.Common.{◌≡◌, ℕ, List, Vec, Global, Option, None, Some, Result, Ok, Err, refl, sym, ap, subst, ◌∙◌, arith}
use Rattle.std.specs.Prelude.{Box, IfOk, IfSome}
use Rattle.pie_build.proofs.OwnPaths.{same_keeps}
use Rattle.pie_build.specs.Left.{Leaves, LeavesBy}
use Rattle.pie_build.specs.inner.Rebuilt.{IsRefusal, RebuildSays}
use Rattle.pie_checks.specs.declared.built.Built.{Built}
use Rattle.pie_files.proofs.Reading.{if_always}
use Rattle.pie_files.specs.Directory.{Directory}
use Rattle.pie_files.specs.Reading.{LeavesAsBefore}
use Rattle.pie_files.specs.declared.files.FilesError.{FilesError}
use Rattle.pie_incremental.proofs.Joining.{started_none as none_started}
use Rattle.pie_incremental.specs.inner.Refused.{RefusesRight}
use Rattle.pie_parser.specs.FunctionTrees.{FunctionTree}
use Rattle.pie_project.specs.Fronts.{ProjectSays}
use Rattle.pie_project.specs.Refusals.{Says}
use Rattle.pie_project.specs.declared.fault.BuildError.{BuildError}
use Rattle.pie_project.specs.declared.fault.BuildError.TheVariants as errors
use Rattle.pie_project.specs.inner.Projects.{front_of}
use Rattle.pie_record.specs.declared.task_record.TaskRecord.{TaskRecord}
use Rattle.pie_report.specs.declared.report.Report.{Report}
use Rattle.pie_store.specs.declared.cause.Cause.{Cause}
use Rattle.pie_value.specs.declared.task.Task.{Task}
use Rattle.pie_value.specs.declared.verdict.Refusal.{Refusal}
use Rattle.pie_value.specs.declared.verdict.Verdict.{Verdict}
use Rattle.pie_value.specs.declared.verdict.Verdict.TheVariants.{Accepted, Refused}
use Rattle.pie_topdown_build.specs.declared.offered.Offered.{Offered}
use Rattle.pie_topdown_build.specs.Refusals.{KeepsRefused}
use Rattle.pie_topdown_build.specs.inner.Bases.{Quiet}
use Rattle.pie_topdown_build.specs.inner.Said.{RefusesUnchanged, StartsFew, Stays, Stores, TellsOffers, TellsOffersOf, TellsRuns, TellsRunsFor, TellsVerdict}
use Rattle.pie_topdown_build.proofs.Crashing.{endures_both, endures_none, endures_still}
use Rattle.pie_topdown_build.proofs.Refusing.{read}

-- ---- the files

module _ {S : Type 0} (holds : S → Option Directory) (moment : S → ℕ) (left_since : S → ℕ → Directory → Type 0) (images : S → Directory → Type 0) where
  -- calls that change no file
  pub stays_still : (D : Directory → Directory → Type 0) (settled : Type 0) (old new : S) → holds new ≡ holds old
      → LeavesAsBefore holds moment left_since images old new → Stays holds moment left_since images D settled old new
  stays_still D settled old new same leaves = record {
    rest = same_keeps (holds old) (holds new) same;
    crash = endures_still holds moment left_since images D settled old new same leaves;
  }

  -- no call
  pub stays_none : (D : Directory → Directory → Type 0) (settled : Type 0) (s : S) → Stays holds moment left_since images D settled s s
  stays_none D settled s = record {
    rest = same_keeps (holds s) (holds s) refl;
    crash = endures_none holds moment left_since images D settled s;
  }

  -- one after another
  pub stays_both : (D : Directory → Directory → Type 0) (settled : Type 0) (old mid new : S) → holds mid ≡ holds old
      → LeavesAsBefore holds moment left_since images old mid → holds new ≡ holds mid → LeavesAsBefore holds moment left_since images mid new
      → Stays holds moment left_since images D settled old new
  stays_both D settled old mid new same first again second = record {
    rest = same_keeps (holds old) (holds new) (again ∙ same);
    crash = endures_both holds moment left_since images D settled old mid new same first again second;
  }

-- ---- a refusal

-- a refused build that changes no file leaves the directory as it was
kept_quiet : (v : Verdict) (before after : Option Directory) → Quiet v before after → IfSome before (λ d. KeepsRefused v d after)
kept_quiet v None after h = tt
kept_quiet Accepted (Some d) after h = tt
kept_quiet (Refused x) (Some d) after h = h

-- a build that is done refuses no project
pub refuses_none : {A : Type 0} (report : A → Report) (before after : Option Directory) (a : A)
    → IfSome before (λ d. KeepsRefused (report a).verdict d after) → RefusesUnchanged {A = A} before after (Ok a) report
refuses_none report before after a kept = record { refused = λ h. absurd h; kept = kept; says = if_always before (tt {0}) }

pub refuses_quiet : {A : Type 0} (report : A → Report) (before after : Option Directory) (a : A) → Quiet (report a).verdict before after
    → RefusesUnchanged {A = A} before after (Ok a) report
refuses_quiet report before after a h = refuses_none report before after a (kept_quiet (report a).verdict before after h)

-- and so does one that leaves what a clean build does
kept_by : (fs : List FunctionTree) (funcs : List (List ℕ × List ℕ)) (roots : List Task) (v : Verdict) (d : Directory) (r : Report) (after : Option Directory)
    → LeavesBy fs funcs roots v d r after → KeepsRefused v d after
kept_by fs funcs roots Accepted d r after h = tt
kept_by fs funcs roots (Refused x) d r after h = h.same

pub kept_left : (before after : Option Directory) (r : Report) → IfSome before (λ d. Leaves d r after)
    → IfSome before (λ d. KeepsRefused r.verdict d after)
kept_left None after r left = tt
kept_left (Some d) after r left = kept_by left.2.functions left.0 left.1 r.verdict d r after left.3.1

-- a fault is none of the project
says_fault : (A : Type 0) (o : Option Directory) (e : BuildError) → (IsRefusal {A = A} (Err e) → ⊥) → IfSome o (λ d. RefusesRight {A = A} d (Err e))
says_fault A None e not = tt
says_fault A (Some d) (errors.Pipeline f) not = absurd (not tt)
says_fault A (Some d) (errors.Roots r) not = absurd (not tt)
says_fault A (Some d) errors.Files not = tt
says_fault A (Some d) errors.OutOfMemory not = tt

pub refuses_fault : {A : Type 0} (report : A → Report) (before after : Option Directory) (e : BuildError) → (IsRefusal {A = A} (Err e) → ⊥)
    → RefusesUnchanged {A = A} before after (Err e) report
refuses_fault {A = A} report before after e not = record {
  refused = λ h. absurd (not h);
  kept = if_always before (tt {0});
  says = says_fault A before e not;
}

-- an error refuses the project in one way, whatever was wanted
pub refuses_again : {A B : Type 0} (f : A → Report) (g : B → Report) (before after : Option Directory) (e : BuildError)
    → RefusesUnchanged {A = A} before after (Err e) f → RefusesUnchanged {A = B} before after (Err e) g
refuses_again f g before after (errors.Pipeline x) h = record { refused = h.refused; kept = if_always before (tt {0}); says = h.says }
refuses_again f g before after (errors.Roots x) h = record { refused = h.refused; kept = if_always before (tt {0}); says = h.says }
refuses_again f g before after errors.Files h = record { refused = h.refused; kept = if_always before (tt {0}); says = h.says }
refuses_again f g before after errors.OutOfMemory h = record { refused = h.refused; kept = if_always before (tt {0}); says = h.says }

-- by a clean build
pub refuses_rebuilt : {A : Type 0} (f : A → Report) (before after : Option Directory) (e : BuildError) → (IsRefusal {A = Report} (Err e) → after ≡ before)
    → IfSome before (λ d. Says (λ (r : Report). r) (RebuildSays d) (Err e)) → RefusesUnchanged {A = A} before after (Err e) f
refuses_rebuilt f before after (errors.Pipeline x) same says = record { refused = same; kept = if_always before (tt {0}); says = says }
refuses_rebuilt f before after (errors.Roots x) same says = record { refused = same; kept = if_always before (tt {0}); says = says }
refuses_rebuilt f before after errors.Files same says = record { refused = same; kept = if_always before (tt {0}); says = says }
refuses_rebuilt f before after errors.OutOfMemory same says = record { refused = same; kept = if_always before (tt {0}); says = says }

-- where it was read
pub refuses_read : (f : Offered → Report) (before after : Option Directory) (e : BuildError) → after ≡ before
    → IfSome before (λ d. Says front_of (ProjectSays d) (Err e)) → RefusesUnchanged {A = Offered} before after (Err e) f
refuses_read f before after e same says = record { refused = λ h. same; kept = if_always before (tt {0}); says = read before e says }

-- where nothing changed before
pub refuses_then : {A : Type 0} (f : A → Report) (before mid after : Option Directory) (result : Result A BuildError) → mid ≡ before
    → RefusesUnchanged {A = A} mid after result f → RefusesUnchanged {A = A} before after result f
refuses_then f before mid after result same h = subst (λ m. RefusesUnchanged m after result f) same h

-- ---- the tasks that were started

pub starts_none : (old : List Task) → StartsFew old old
starts_none old =
    let none = none_started old in
    record { started = record { gained = none.gained; is = none.is; encodable = none.encodable }; few = omega arith }

pub runs_none : {A E : Type 0} (old : List Task) (e : E) (report : A → Report) → TellsRuns {A = A} old old (Err e) report
runs_none old e report = record { ran = tt; few = omega arith; encodable = tt }

pub runs_none_for : {A E : Type 0} (cause : Cause) (old : List Task) (e : E) (report : A → Report) → TellsRunsFor {A = A} cause old old (Err e) report
runs_none_for cause old e report = record { fresh = tt; ran = tt; few = omega arith; encodable = tt }

-- ---- what is told

-- a report that was made before a call that hands it on
pub tells_then : (v : Verdict) (tasks : Vec Task Global) (report : Box Report Global) (result : Result (Box Report Global) FilesError)
    → report.value.verdict ≡ v → report.value.fresh ≡ None → report.value.ran ≡ tasks → IfOk result (λ r. r ≡ report) → TellsVerdict v tasks result
tells_then v tasks report (Ok r) verdict fresh ran is = record {
  verdict = ap (λ (x : Box Report Global). x.value.verdict) is ∙ verdict;
  fresh = ap (λ (x : Box Report Global). x.value.fresh) is ∙ fresh;
  ran = ap (λ (x : Box Report Global). x.value.ran) is ∙ ran;
}
tells_then v tasks report (Err e) verdict fresh ran is = record { verdict = tt; fresh = tt; ran = tt }

-- by the verdict of what was made
pub tells_made : (b : Built) (v : Verdict) (tasks : Vec Task Global) (result : Result (Box Report Global) FilesError) → b.verdict ≡ v
    → TellsVerdict v tasks result → TellsVerdict b.verdict tasks result
tells_made b v tasks result is h = subst (λ (x : Verdict). TellsVerdict x tasks result) (sym is) h

-- an accepted build is no refused one
pub quiet_accepted : (before after : Option Directory) (result : Result (Box Report Global) FilesError) → IfOk result (λ r. r.value.verdict ≡ Accepted)
    → IfOk result (λ r. Quiet r.value.verdict before after)
quiet_accepted before after (Ok r) is = subst (λ (v : Verdict). Quiet v before after) (sym is) tt
quiet_accepted before after (Err e) is = tt

-- of a fault no offers are told
pub offers_fault : {E : Type 0} (asked : Type 0) (e : E) (News Honest : Offered → Type 0) → TellsOffers asked (Err e) News Honest
offers_fault asked e News Honest = record { reused = tt; new = tt; news = λ on. tt; honest = λ on. tt }

pub offers_fault_of : {E : Type 0} (before : Option Directory) (e : E) (News : Offered → Type 0) (Honest : Directory → Offered → Type 0)
    → TellsOffersOf before (Err e) News Honest
offers_fault_of before e News Honest = record { reused = tt; new = tt; news = tt; honest = if_always before (tt {0}) }

-- ---- the store

pub stores_fault : {A E : Type 0} (v : Verdict) (Known : Directory → Type 0) (funcs : List (List ℕ × List ℕ)) (rows : List TaskRecord)
    (before after : Option Directory) (e : E) → Stores {A = A} v Known funcs rows before after (Err e)
stores_fault v Known funcs rows None after e = record { stored = tt; rows_are = tt }
stores_fault v Known funcs rows (Some d) after e = record { stored = λ known. tt; rows_are = tt }

-- of a refused build nothing is said
pub stores_refused : {A E : Type 0} (b : Built) (x : Refusal) (Known : Directory → Type 0) (funcs : List (List ℕ × List ℕ)) (rows : List TaskRecord)
    (before after : Option Directory) (a : A) → b.verdict ≡ Refused x → Stores {A = A} {E = E} b.verdict Known funcs rows before after (Ok a)
stores_refused {A = A} {E = E} b x Known funcs rows before after a is =
    subst (λ (v : Verdict). Stores {A = A} {E = E} v Known funcs rows before after (Ok a)) (sym is) (by before)
  where
    by : (o : Option Directory) → Stores {A = A} {E = E} (Refused x) Known funcs rows o after (Ok a)
    by None = record { stored = tt; rows_are = tt }
    by (Some d) = record { stored = λ known. tt; rows_are = tt }

-- by the verdict of what was made
pub stores_made : {A E : Type 0} (b : Built) (v : Verdict) (Known : Directory → Type 0) (funcs : List (List ℕ × List ℕ)) (rows : List TaskRecord)
    (before after : Option Directory) (result : Result A E) → b.verdict ≡ v → Stores v Known funcs rows before after result
    → Stores b.verdict Known funcs rows before after result
stores_made b v Known funcs rows before after result is h =
    subst (λ (x : Verdict). Stores x Known funcs rows before after result) (sym is) h
