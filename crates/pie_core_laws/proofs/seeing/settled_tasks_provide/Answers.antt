use Rattle.pie_core_laws.proofs.Seen.{provides, files_written}
use Rattle.pie_core_laws.proofs.seeing.settled_tasks_provide.Goals as goal

pub returns-clause-provided : goal.returns-clause-provided
returns-clause-provided c =
    λ u names records s staged required us path seen e w apart a all only f.
    provides u names records s e w apart required us a all path staged seen only f

pub returns-clause-files : goal.returns-clause-files
returns-clause-files c =
    λ u names records s n rec path bytes hash e w apart h k there i at met.
    files_written u names records s e w apart n rec path bytes hash h k there i at met
