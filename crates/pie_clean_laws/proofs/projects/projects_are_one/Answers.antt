use Rattle.pie_clean_laws.proofs.OneProject.{one_project}
use Rattle.pie_clean_laws.proofs.projects.projects_are_one.Goals as goal

pub returns : goal.returns
returns c = λ d r s a b. one_project d r s a b
