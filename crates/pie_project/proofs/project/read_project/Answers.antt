use Rattle.pie_project.specs.inner.Projects.{front_of}
use Rattle.pie_project.proofs.Finding.{project_holds, only_project}
use Rattle.pie_project.proofs.project.read_project.Goals as goal

pub returns-clause-found : goal.returns-clause-found
returns-clause-found g c = project_holds front_of (g.F.Files.holds c.args.files.now) c.project_in.result c.project_in.ensures.found

pub returns-clause-only : goal.returns-clause-only
returns-clause-only g c = only_project front_of (g.F.Files.holds c.args.files.now) c.project_in.result c.project_in.ensures.found
