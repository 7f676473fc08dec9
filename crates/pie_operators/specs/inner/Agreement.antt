-- When an answer of the program is that of the definition.
use Rattle.std.specs.Prelude.{◌≡◌, Result, Ok, Err}
use Rattle.pie_value.specs.declared.value.Value.{Value}
use Rattle.pie_value.specs.Values.{tree_of}
use Rattle.pie_value.specs.BuiltinForms.{Answered}
use Rattle.pie_operators.specs.declared.fault.OperatorFault.{OperatorFault}
use Rattle.pie_operators.specs.declared.fault.OperatorFault.TheVariants.{Fault, OutOfMemory}

-- a value exactly where the definition gives its tree, a fault exactly where it gives that fault; out of memory says nothing
abbrev pub ResultAgrees : Result Value OperatorFault → Answered → Type 0
ResultAgrees (Ok v) answer = answer ≡ Ok (tree_of v)
ResultAgrees (Err (Fault kind)) answer = answer ≡ Err kind
ResultAgrees (Err OutOfMemory) answer = Unit {0}
