-- What comes of a running task: it asks something, or ends with a right record.
use Rattle.std.specs.Prelude.{◌≡◌, ℕ, List, map, cond}
use Rattle.pie_base.specs.declared.fault.FaultKind.{FaultKind}
use Rattle.pie_base.specs.declared.fault.FaultKind.TheVariants.{Big}
use Rattle.pie_value.specs.declared.value.Value.{Value}
use Rattle.pie_value.specs.declared.event.Answer.{Answer}
use Rattle.pie_value.specs.declared.event.Event.{Event}
use Rattle.pie_value.specs.Values.{tree_of}
use Rattle.pie_value.specs.Limits.{is_small}
use Rattle.pie_operators.specs.Domain.{wants}
use Rattle.pie_vm.specs.Machines.{Follows}
use Rattle.pie_view.specs.Content.{content}
use Rattle.pie_record.specs.declared.task_record.Outcome.{Outcome}
use Rattle.pie_record.specs.declared.task_record.Outcome.TheVariants.{Done, Failed}
use Rattle.pie_record.specs.declared.task_record.TaskRecord.{TaskRecord}
use Rattle.pie_model_pipeline.specs.Words.{effect_of}
use Rattle.pie_model_pipeline.specs.Answers.{answer_of}
use Rattle.pie_running.specs.declared.frame.RunningTask.{RunningTask}
use Rattle.pie_running.specs.declared.frame.Waiting.{Waiting}
use Rattle.pie_running.specs.declared.frame.Caller.{Caller}
use Rattle.pie_running.specs.declared.frame.Paused.{Paused}
use Rattle.pie_running.specs.declared.frame.Paused.TheVariants.{Asks, Ends, Fails}
use Rattle.pie_running.specs.inner.Noted.{Noted}
use Rattle.pie_running.specs.inner.Steps.{Comes}
use Rattle.pie_running.specs.inner.Told.{EvaluatedTo, ComesAs}
use Rattle.pie_core_laws.specs.Update.{present}
use Rattle.pie_core_laws.specs.Finishing.{IsRight}
use Rattle.pie_core_laws.specs.Seeing.{written_now}
use Rattle.pie_task_laws.specs.Sites.{Site, Build, IsThere, IsExactAt}
use Rattle.pie_task_laws.specs.Going.{Runs}

-- the running task asks this, by its code and in the model
pub record IsAsking (x : Site) (b : Build) (cs : List Caller) (w : Waiting) (e : Event) : Type 0 where
  pub runs : Runs x b cs w.code.now w.machine w.notes
  pub asks : (present x.update).next runs.frame.task runs.frame.progress.answers ≡ effect_of e
  pub came : EvaluatedTo w.code.now w.notes.task.args (map answer_of runs.frame.progress.answers) (wants e)

-- ---- how it ends

-- the record of a task that ends with these notes and so
abbrev pub left_as : Noted → Outcome → TaskRecord
left_as n o = record { task = n.task; deps = n.deps; writes = n.writes; outcome = o }

-- a task that ends with these notes and so has a right record, and what it staged is what its evaluation wrote first
pub record EndsRight (x : Site) (b : Build) (n : Noted) (o : Outcome) : Type 0 where
  pub right : IsRight x.update (left_as n o)
  pub staged : (p : List ℕ) → content b.stage n.number p ≡ written_now x.update n.task p

-- it fails for this
abbrev pub failed_by : Noted → FaultKind → Outcome
failed_by n k = Failed (record { task = n.task; kind = k })

-- its output, unless that is past the limits
abbrev pub output_by : Noted → Value → Outcome
output_by n v = cond (is_small (tree_of v)) (Done v) (failed_by n Big)

-- ---- what comes

abbrev pub PausesAs : Site → Build → List Caller → Paused → Type 0
PausesAs x b cs (Asks w e) = IsAsking x b cs w e
PausesAs x b cs (Ends n v) = EndsRight x b n (output_by n v)
PausesAs x b cs (Fails n k) = EndsRight x b n (failed_by n k)

-- what a machine gives
pub record Gives (f : RunningTask) (p : Paused) : Type 0 where
  pub comes : Comes f.notes p
  pub means : (given : List Answer) → Follows f.code.now f.notes.task.args given f.machine → ComesAs f.code.now f.notes given p

-- is what comes in the model
abbrev pub TasksPause : Type 0
TasksPause =
    (x : Site) (b : Build) (cs : List Caller) (f : RunningTask) (p : Paused) → IsThere x → IsExactAt x b → Runs x b cs f.code.now f.machine f.notes
    → Gives f p → PausesAs x b cs p
