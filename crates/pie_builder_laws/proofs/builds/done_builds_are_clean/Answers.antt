use Rattle.pie_builder_laws.proofs.Ended.{checked_is, accepted_is}
use Rattle.pie_builder_laws.proofs.builds.done_builds_are_clean.Goals as goal

pub returns-clause-accepted : goal.returns-clause-accepted
returns-clause-accepted c =
    λ fs d roots names records live staged rows files outputs D alive h s R F O.
    accepted_is fs d roots names records live D alive staged rows files outputs h s R F O

pub returns-clause-checked : goal.returns-clause-checked
returns-clause-checked c = λ fs d roots names records live refusal D alive h. checked_is fs d roots names records live D alive refusal h
