-- What was printed of a command that says something of what the files held and hold.
use Rattle.std.proofs.Common.{◌≡◌, ◌≤◌, ◌+◌, ◌++◌, Err, ℕ, List, length, Option, inl, inr, refl, sym, ap, subst, ◌∙◌, arith}
use Rattle.std.proofs.lemmas.List.{length-append}
use Rattle.pie_base.specs.declared.status.Status.{Status}
use Rattle.pie_base.specs.declared.status.Status.TheVariants as status
use Rattle.pie_files.specs.Directory.{Directory}
use Rattle.pie_files.specs.Faults.{Rose}
use Rattle.std.specs.Prelude.{IfSome}
use Rattle.pie_build.specs.inner.Rebuilt.{IsRefusal}
use Rattle.pie_incremental.specs.inner.Refused.{RefusesRight}
use Rattle.pie_project.specs.Fronts.{ProjectSays}
use Rattle.pie_project.specs.Refusals.{OfPipeline, OfRoots, plain}
use Rattle.pie_project.specs.declared.fault.BuildError.{BuildError}
use Rattle.pie_project.specs.declared.fault.BuildError.TheVariants as errors
use Rattle.pie_project.specs.declared.fault.PipelineFault.{PipelineFault}
use Rattle.pie_project.specs.declared.fault.RootsReason.{RootsReason}
use Rattle.pie_report.specs.declared.report.Report.{Report}
use Rattle.pie_value.specs.declared.task.Task.{Task}
use Rattle.pie_cli.specs.Listed.{RunsSaying}
use Rattle.pie_cli.specs.Run.{files_fault_text, GainsPrefix, GainsSome, Shows}
use Rattle.pie_cli.proofs.Statuses.{answer_is_told, fault_is_no_answer, memory_is_no_answer}

pub pipeline_refused : (e : BuildError) (fault : PipelineFault) → e ≡ errors.Pipeline fault → IsRefusal {A = Report} (Err e)
pipeline_refused e fault is = subst (λ x. IsRefusal {A = Report} (Err x)) (sym is) (tt {0})

pub roots_refused : (e : BuildError) (reason : RootsReason) → e ≡ errors.Roots reason → IsRefusal {A = Report} (Err e)
roots_refused e reason is = subst (λ x. IsRefusal {A = Report} (Err x)) (sym is) (tt {0})

pub pipeline_says : (A : Type 0) (o : Option Directory) (e : BuildError) (fault : PipelineFault) → e ≡ errors.Pipeline fault
    → IfSome o (λ d. RefusesRight {A = A} d (Err e)) → IfSome o (λ d. ProjectSays d (Err (OfPipeline (plain fault))))
pipeline_says A o e fault is says = subst (λ x. IfSome o (λ d. RefusesRight {A = A} d (Err x))) is says

pub roots_say : (A : Type 0) (o : Option Directory) (e : BuildError) (reason : RootsReason) → e ≡ errors.Roots reason
    → IfSome o (λ d. RefusesRight {A = A} d (Err e)) → IfSome o (λ d. ProjectSays d (Err (OfRoots reason)))
roots_say A o e reason is says = subst (λ x. IfSome o (λ d. RefusesRight {A = A} d (Err x))) is says

-- tasks that were all started in one call
pub few_of : (n : ℕ) (old new ran : List Task) → new ≡ old ++ ran → length new ≤ length old + n → length ran ≤ n
few_of n old new ran is few =
    let a : length new ≡ length old + length ran = ap length is ∙ length-append old ran in
    omega (arith, a, few)

module _ {S : Type 0} (says : Option Directory → Option Directory → List ℕ → Status → Type 0) (holds : S → Option Directory) (faults : S → ℕ) (old new : S)
  where
    abbrev Allowed : List ℕ → Type 0
    Allowed text = (said : Status) × says (holds old) (holds new) text said

    -- an answer
    pub made : (text : List ℕ) (told ended : Status) (held gained : Option (List ℕ)) → says (holds old) (holds new) text told
        → Shows held gained text told ended → GainsPrefix held gained text → RunsSaying says holds faults old new held gained ended
    made text told ended held gained said shows prefix =
        let some : GainsSome Allowed (Rose (faults old) (faults new)) held gained = inl (text, (told, said), prefix) in
        record {
          said = λ a. let s = shows (answer_is_told ended a) in (text, subst (λ x. says (holds old) (holds new) text x) (sym s.0) said, s.1);
          printed = record { prefix = inl some; cut = λ is. some };
        }

    -- a fault of the files
    pub made_failed : (ended : Status) (held gained : Option (List ℕ)) → Rose (faults old) (faults new)
        → Shows held gained files_fault_text status.Files ended → GainsPrefix held gained files_fault_text
        → RunsSaying says holds faults old new held gained ended
    made_failed ended held gained rose shows prefix =
        let some : GainsSome Allowed (Rose (faults old) (faults new)) held gained = inr (rose, prefix) in
        record {
          said = λ a. absurd (fault_is_no_answer ended a (shows (answer_is_told ended a)).0);
          printed = record { prefix = inl some; cut = λ is. some };
        }

    -- nothing was printed: it was out of memory
    pub made_none : (held : Option (List ℕ)) → RunsSaying says holds faults old new held held status.Memory
    made_none held = record {
      said = λ a. absurd (memory_is_no_answer a);
      printed = record { prefix = inr refl; cut = λ is. absurd (cc) };
    }
