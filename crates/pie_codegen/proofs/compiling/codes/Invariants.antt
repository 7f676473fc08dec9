use Rattle.std.proofs.Common.{take}
use Rattle.pie_codegen.specs.Pipelines.{AreCodesOf}
use Rattle.pie_codegen.proofs.compiling.codes.Given as goal

abbrev pub invariant-loop-function : goal.invariant-loop-function
invariant-loop-function l = AreCodesOf (take l.function-index l.functions) l.codes.items
