-- The first root that failed.
use Rattle.std.specs.Prelude.{◌≡◌, ◌⊎◌, ℕ, Bool, true, false, List, [], ◌∷◌, Option, Some, None, slice_get, IsSome}
use Rattle.std.specs.List.{Contains}
use Rattle.pie_value.specs.declared.task.Task.{Task}
use Rattle.pie_value.specs.declared.verdict.Refusal.{Refusal}
use Rattle.pie_value.specs.declared.verdict.Refusal.TheVariants.{Fault, Cycle}
use Rattle.pie_record.specs.declared.records.Records.{Records}
use Rattle.pie_record.specs.declared.task_record.Outcome.{Outcome}
use Rattle.pie_record.specs.declared.task_record.Outcome.TheVariants.{Done, Failed, Cycled}
use Rattle.pie_record.specs.declared.task_record.TaskRecord.{TaskRecord}
use Rattle.pie_record.specs.inner.Records.{record_of}

-- whether a task ended with an output
abbrev pub is_done : Outcome → Bool
is_done (Done value) = true
is_done (Failed fault) = false
is_done (Cycled tasks) = false

-- why a build is refused whose root ended so, if it is
abbrev pub refusal_in : Outcome → Option Refusal
refusal_in (Done value) = None
refusal_in (Failed fault) = Some (Fault fault)
refusal_in (Cycled tasks) = Some (Cycle tasks)

-- the same of a record
abbrev pub refusal_by : Option TaskRecord → Option Refusal
refusal_by None = None
refusal_by (Some r) = refusal_in r.outcome

-- why a build with this root is refused, as the record of its number says; a root without a number refuses none
abbrev pub Fails : List Task → Records → Task → Option Refusal → Type 0
Fails names records root why =
    ((n : ℕ) × (slice_get names n ≡ Some root) × (why ≡ refusal_by (record_of records n))) ⊎ ((Contains names root → ⊥) × (why ≡ None))

-- the first of the roots that refuses the build, if one does
abbrev pub FailsFirst : List Task → Records → List Task → Option Refusal → Type 0
FailsFirst names records [] why = why ≡ None
FailsFirst names records (t ∷ ts) why = (Fails names records t why × IsSome why) ⊎ (Fails names records t None × FailsFirst names records ts why)
