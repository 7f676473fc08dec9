use Rattle.pie_topdown_laws.proofs.Building.{is_reason}
use Rattle.pie_topdown_laws.proofs.checks.differences_are_reasons.Goals as goal

pub returns : goal.returns
returns c = λ x before R told names root fs t r passed rest o M tells h. is_reason x before R root fs t r names passed rest o M told tells h
