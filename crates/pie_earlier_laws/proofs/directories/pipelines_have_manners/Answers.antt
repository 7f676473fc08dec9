use Rattle.pie_earlier_laws.proofs.Pipelines.{manners_of, write_once}
use Rattle.pie_earlier_laws.proofs.directories.pipelines_have_manners.Goals as goal

pub returns : goal.returns
returns c = λ fs d. (manners_of fs d, write_once fs d)
