-- Tasks that run and tasks that wait for an answer.
use Rattle.std.specs.Prelude.{◌≡◌, ℕ, ◌<◌, []}
use Rattle.pie_value.specs.declared.task.Task.{Task}
use Rattle.pie_code.specs.declared.code.Code.{Code}
use Rattle.pie_code.specs.Running.{start}
use Rattle.pie_vm.specs.Machines.{Belongs}
use Rattle.pie_vm.specs.declared.machine.MachineState.TheVariants.{Ready, Waiting as Waits}
use Rattle.pie_running.specs.declared.frame.RunningTask.{RunningTask}
use Rattle.pie_running.specs.declared.frame.Waiting.{Waiting}
use Rattle.pie_running.specs.inner.Noted.{IsSound, begun}

-- a task whose machine can go on with its code
pub record IsReady (f : RunningTask) : Type 0 where
  pub phase : f.machine.phase ≡ Ready
  pub belongs : Belongs f.code.now f.machine
  pub sound : IsSound f.notes

-- a task whose machine waits for an answer
pub record IsWaiting (w : Waiting) : Type 0 where
  pub phase : w.machine.phase ≡ Waits
  pub belongs : Belongs w.code.now w.machine
  pub sound : IsSound w.notes
  pub left : 0 < w.notes.left

-- this task has this code and number, and has done nothing yet
pub record IsStarted (code : Code) (t : Task) (number : ℕ) (f : RunningTask) : Type 0 where
  pub ready : IsReady f
  pub coded : f.code.now ≡ code
  pub config : f.machine.config ≡ start code t.args []
  pub notes : f.notes ≡ begun t number 1000001
