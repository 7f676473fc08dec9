-- A step keeps a build right, or leaves why it failed, by what is in hand.
use Rattle.std.proofs.Common.{ℕ, List, Option, Result, Ok, Err, Box, Bor}
use Rattle.std.specs.declared.alloc.Global.{Global}
use Rattle.std.specs.Prelude.{IfOk}
use Rattle.pie_value.specs.declared.task.Task.{Task}
use Rattle.pie_code.specs.declared.code.Code.{Code}
use Rattle.pie_files.specs.Directory.{Directory}
use Rattle.pie_graph.specs.declared.edges.TaskNo.{TaskNo}
use Rattle.pie_running.specs.declared.frame.RunningTask.{RunningTask}
use Rattle.pie_store.specs.inner.Offers.{Offered}
use Rattle.pie_topdown.specs.declared.builder.Builder.{Builder}
use Rattle.pie_topdown.specs.declared.hand.Check.{Check}
use Rattle.pie_topdown.specs.declared.hand.Hand.TheVariants as hands
use Rattle.pie_topdown.specs.declared.hand.Turn.{Turn}
use Rattle.pie_topdown.specs.inner.Asking.{RunsSo}
use Rattle.pie_topdown.specs.inner.Calling.{ResumesSo}
use Rattle.pie_topdown.specs.inner.Offering.{BeginsSo, ComparesSo}
use Rattle.pie_topdown.specs.inner.Right.{StepsRight}

module _ (held : Option Directory) (told : Directory → Task → List ℕ → List Offered) (old new : Builder) {E : Type 0} (r : Result Turn E) where
  -- an entered task begins
  pub enters_step : (n : TaskNo) (code : Bor Code) → IfOk r (BeginsSo held told old n.0 code.now new) → IfOk r (StepsRight held told old (hands.Enters n code) new)
  enters_step n code begins = by r begins
    where
      by : (r : Result Turn E) → IfOk r (BeginsSo held told old n.0 code.now new) → IfOk r (StepsRight held told old (hands.Enters n code) new)
      by (Err e) begins = tt
      by (Ok t) begins = λ u done root holds plan honest h. begins u done root h.fs holds plan honest h.site h.waiting h.hand

  -- a record is compared in one place
  pub checks_step : (c : Box Check Global) → IfOk r (ComparesSo held told old c.value new) → IfOk r (StepsRight held told old (hands.Checks c) new)
  checks_step c compares = by r compares
    where
      by : (r : Result Turn E) → IfOk r (ComparesSo held told old c.value new) → IfOk r (StepsRight held told old (hands.Checks c) new)
      by (Err e) compares = tt
      by (Ok t) compares = λ u done root holds plan honest h. compares u done root h.fs holds plan honest h.site h.waiting h.hand

  -- a task runs up to its next event
  pub runs_step : (f : RunningTask) → IfOk r (RunsSo held old f new) → IfOk r (StepsRight held told old (hands.Runs f) new)
  runs_step f runs = by r runs
    where
      by : (r : Result Turn E) → IfOk r (RunsSo held old f new) → IfOk r (StepsRight held told old (hands.Runs f) new)
      by (Err e) runs = tt
      by (Ok t) runs = λ u done root holds plan honest h. runs u done root h.fs holds plan h.site h.waiting h.hand

  -- what waits goes on
  pub ended_step : IfOk r (ResumesSo old new) → IfOk r (StepsRight held told old hands.Ended new)
  ended_step resumes = by r resumes
    where
      by : (r : Result Turn E) → IfOk r (ResumesSo old new) → IfOk r (StepsRight held told old hands.Ended new)
      by (Err e) resumes = tt
      by (Ok t) resumes = λ u done root holds plan honest h. resumes u done root h.fs plan h.site h.waiting h.hand
