use Rattle.pie_check_laws.proofs.Found.{judged}
use Rattle.pie_check_laws.proofs.laws.the_first_refusal_is_the_verdict.Goals as goal

pub returns : goal.returns
returns c = λ written missed v h. judged written missed v h
