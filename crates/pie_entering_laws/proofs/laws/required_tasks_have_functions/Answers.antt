use Rattle.pie_entering_laws.proofs.Known.{required_known, roots_known}
use Rattle.pie_entering_laws.proofs.laws.required_tasks_have_functions.Goals as goal

pub returns-clause-required : goal.returns-clause-required
returns-clause-required c = λ fs d t v before after typed own canonical known is spoken.
    required_known fs d t v before after typed own canonical known is spoken

pub returns-clause-roots : goal.returns-clause-roots
returns-clause-roots c = λ fs roots t typed are canonical is. roots_known fs roots t typed are canonical is
