use Rattle.pie_builder_laws.proofs.Naming.{distinct_names, named_to, named_back, other_to, other_back}
use Rattle.pie_builder_laws.proofs.names.names_are_bytes.Goals as goal

pub returns-clause-among : goal.returns-clause-among
returns-clause-among c = λ names t a k. (λ h. named_to names t a k h, λ h. named_back names t h)

pub returns-clause-others : goal.returns-clause-others
returns-clause-others c = λ names t a k. (λ h. other_to names t h, λ h. other_back names t a k h)

pub returns-clause-distinct : goal.returns-clause-distinct
returns-clause-distinct c = λ names a. distinct_names names a
