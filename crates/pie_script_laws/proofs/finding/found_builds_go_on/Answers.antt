use Rattle.pie_script_laws.proofs.Scanning.{found_base, lists_go_on}
use Rattle.pie_script_laws.proofs.finding.found_builds_go_on.Goals as goal

pub returns-clause-lists : goal.returns-clause-lists
returns-clause-lists c = λ e tops d paths goes listed. lists_go_on e tops d paths goes listed

pub returns-clause-bases : goal.returns-clause-bases
returns-clause-bases c = λ e tops d left r clean accepted. found_base e tops d left r clean accepted
