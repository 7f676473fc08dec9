use Rattle.std.proofs.Common.{arith}
use Rattle.pie_codegen.proofs.Coded.{all_of_them, one_more}
use Rattle.pie_codegen.proofs.Pipelined.{formed_at}
use Rattle.pie_codegen.proofs.compiling.codes.Goals as goal

pub checked-requires : goal.checked-requires
checked-requires c = grind (arith, formed_at)

pub loop-function-preserved : goal.loop-function-preserved
loop-function-preserved c = grind (arith, one_more)

pub returns : goal.returns
returns c = grind (arith, all_of_them)
