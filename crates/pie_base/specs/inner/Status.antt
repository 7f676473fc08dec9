-- The exit statuses as numbers.
use Rattle.std.specs.Prelude.{ℕ}
use Rattle.pie_base.specs.declared.status.Status.{Status}
use Rattle.pie_base.specs.declared.status.Status.TheVariants.{Ok, Refused, Usage, BadInput, Pipeline, Files, Input, Output, Memory}

-- the number of a status
abbrev pub code_of : Status → ℕ
code_of Ok = 0
code_of Refused = 1
code_of Usage = 2
code_of BadInput = 3
code_of Pipeline = 4
code_of Files = 5
code_of Input = 6
code_of Output = 7
code_of Memory = 8
