use Rattle.std.proofs.Common.{inl, inr, refl, rules}
use Rattle.pie_results.proofs.failures.failure.Goals as goal

pub returns-in_ok-why-in-Some : goal.returns-in_ok-why-in-Some
returns-in_ok-why-in-Some c = inl (c.in-Some.no.0, search rules, c.in_ok-why-in-Some.ensures)

pub returns-in-None : goal.returns-in-None
returns-in-None c = inr (search rules, refl)
