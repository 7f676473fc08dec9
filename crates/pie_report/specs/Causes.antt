-- How a cause to start afresh is printed.
use Rattle.std.specs.Prelude.{ℕ, List, ◌++◌, codes}
use Rattle.std.specs.Fmt.{decimal}
use Rattle.pie_store.specs.declared.cause.Cause.{Cause}
use Rattle.pie_store.specs.declared.cause.Cause.TheVariants as causes
use Rattle.pie_store.specs.declared.store_fault.StoreFault.{StoreFault}
use Rattle.pie_store.specs.declared.store_fault.StoreFault.TheVariants as faults
use Rattle.pie_value.specs.Shown.{shown_task}
use Rattle.pie_report.specs.Verdicts.{cycle}

-- why bytes are no store: the name, and the place where there is one
abbrev pub fault_text : StoreFault → List ℕ
fault_text faults.Short = codes "Short"
fault_text faults.Magic = codes "Magic"
fault_text faults.Version = codes "Version"
fault_text faults.Digest = codes "Digest"
fault_text (faults.Row at) = codes "Row at " ++ decimal at
fault_text (faults.Order at) = codes "Order at " ++ decimal at
fault_text faults.Rest = codes "Rest"
fault_text faults.OutOfMemory = codes "OutOfMemory"

-- why a build started afresh
abbrev pub cause_text : Cause → List ℕ
cause_text causes.Interrupted = codes "Interrupted"
cause_text causes.NoStore = codes "NoStore"
cause_text (causes.Damaged fault) = codes "Damaged " ++ fault_text fault
cause_text causes.BadPending = codes "BadPending"
cause_text (causes.UnionCycle tasks) = codes "UnionCycle " ++ cycle tasks
cause_text (causes.UnionMany old entered task) = codes "UnionMany " ++ shown_task task
