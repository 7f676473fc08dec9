-- The words of the model of building for those of the language: faults, looks, requires and events.
use Rattle.std.specs.Prelude.{ℕ, List, cond}
use Rattle.pie_base.specs.declared.fault.FaultKind.{FaultKind}
use Rattle.pie_base.specs.declared.fault.FaultKind.TheVariants as faults
use Rattle.pie_value.specs.declared.event.By.{By}
use Rattle.pie_value.specs.declared.event.By.TheVariants as stamped
use Rattle.pie_value.specs.declared.event.How.{How}
use Rattle.pie_value.specs.declared.event.How.TheVariants as required
use Rattle.pie_value.specs.declared.event.Event.{Event}
use Rattle.pie_value.specs.declared.event.Event.TheVariants as events
use Rattle.pie_base.specs.Path.{is_out, is_source}
use Rattle.pie_value.specs.declared.task.Task.{Task}
use Rattle.pie_value.specs.Tree.{Tree}
use Rattle.pie_value.specs.Limits.{is_small, is_small_task}
use Rattle.pie_value.specs.Canonical.{enc, enc_task}
use Rattle.pie_operators.specs.Domain.{Outcome, done, fails, wants}
use Rattle.pie_model.specs.declared.words.FaultKind.{FaultKind as ModelFault}
use Rattle.pie_model.specs.declared.words.FaultKind.TheVariants as model_faults
use Rattle.pie_model.specs.declared.words.Look.{Look}
use Rattle.pie_model.specs.declared.words.Look.TheVariants as looks
use Rattle.pie_model.specs.declared.words.How.{How as ModelHow}
use Rattle.pie_model.specs.declared.words.How.TheVariants as hows
use Rattle.pie_model.specs.declared.words.Event.{Event as ModelEvent}
use Rattle.pie_model.specs.declared.words.Event.TheVariants as model

-- a fault of a task
abbrev pub fault_of : FaultKind → ModelFault
fault_of faults.NotText = model_faults.NotText
fault_of faults.BadPath = model_faults.BadPath
fault_of faults.BadWrite = model_faults.BadWrite
fault_of faults.WroteTwice = model_faults.WroteTwice
fault_of faults.ReadThenWrite = model_faults.ReadThenWrite
fault_of faults.Clash = model_faults.Clash
fault_of faults.Budget = model_faults.Budget
fault_of faults.Big = model_faults.Big
fault_of faults.Overflow = model_faults.Overflow
fault_of faults.Zero = model_faults.Zero
fault_of faults.Null = model_faults.Null
fault_of (faults.Said s) = model_faults.Said s
fault_of faults.Range = model_faults.Range
fault_of faults.BadList = model_faults.BadList
fault_of faults.Unknown = model_faults.Unknown

-- how a file is read
abbrev pub look_by : By → Look
look_by stamped.Hash = looks.ByHash
look_by stamped.Mark = looks.ByMark
look_by stamped.Raw = looks.ByHash

-- how a task is required
abbrev pub how_of : How → ModelHow
how_of required.Whole = hows.Whole
how_of required.Hashed = hows.Hashed
how_of required.Ran = hows.Ran

-- an output; a value past the limits is the fault Big
abbrev pub output_or_big : Tree → ModelEvent
output_or_big t = cond (is_small t) (model.Done (enc t)) (model.Fail model_faults.Big)

-- a require; a task past the limits is the fault Big
abbrev pub require_or_big : Task → ModelHow → ModelEvent
require_or_big t how = cond (is_small_task t) (model.Require how (enc_task t)) (model.Fail model_faults.Big)

-- a write; one that isn't under `out/` is the fault BadWrite
abbrev pub write_or_bad : List ℕ → List ℕ → ModelEvent
write_or_bad p bytes = cond (is_out p) (model.Write p bytes) (model.Fail model_faults.BadWrite)

-- a listing; one of what is no source is the fault BadList
abbrev pub list_or_bad : List ℕ → ModelEvent
list_or_bad d = cond (is_source d) (model.ListOf d) (model.Fail model_faults.BadList)

-- the effect that a task waits for; an ending is none
abbrev pub effect_of : Event → ModelEvent
effect_of (events.Exists p) = model.LookAt looks.Exists p
effect_of (events.Read p by) = model.LookAt (look_by by) p
effect_of (events.Digest p) = model.LookAt looks.Digest p
effect_of (events.List d) = list_or_bad d
effect_of (events.Write p bytes) = write_or_bad p bytes
effect_of (events.Require t how) = require_or_big t (how_of how)
effect_of (events.Done v) = model.Fail model_faults.Unknown
effect_of (events.Fail k) = model.Fail (fault_of k)

-- what a task does next
abbrev pub event_of : Outcome Tree → ModelEvent
event_of (done t) = output_or_big t
event_of (fails k) = model.Fail (fault_of k)
event_of (wants e) = effect_of e
