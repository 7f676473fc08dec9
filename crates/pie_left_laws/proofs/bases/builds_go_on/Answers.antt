use Rattle.pie_left_laws.proofs.Going.{accepted_goes_on, refused_goes_on, own_files_kept}
use Rattle.pie_left_laws.proofs.bases.builds_go_on.Goals as goal

pub returns-clause-accepted : goal.returns-clause-accepted
returns-clause-accepted c = λ u kept files text left t apart met A put names. accepted_goes_on u kept files text left t apart met A put names

pub returns-clause-refused : goal.returns-clause-refused
returns-clause-refused c = λ u refused list t h same names old new. refused_goes_on u refused list t h same names old new

pub returns-clause-own : goal.returns-clause-own
returns-clause-own c = λ d e f. own_files_kept d e f
