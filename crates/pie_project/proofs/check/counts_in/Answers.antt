use Rattle.std.proofs.Common.{ℕ, Ok, Err}
use Rattle.pie_project.specs.declared.project.Project.{Project}
use Rattle.pie_project.specs.Looking.{prefix_calls}
use Rattle.pie_project.specs.inner.Projects.{front_of}
use Rattle.pie_project.proofs.Finding.{counts_good, counts_bad, project_alone}
use Rattle.pie_project.proofs.Lookings.{looks_as, looks_err}
use Rattle.pie_project.proofs.check.counts_in.Goals as goal

pub returns-in-Ok-clause-found : goal.returns-in-Ok-clause-found
returns-in-Ok-clause-found g c =
    counts_good (λ p. p) (g.F.Files.holds c.args.files.now) (Ok (front_of c.in-Ok.project)) c.counts.result
    (project_alone front_of (g.F.Files.holds c.args.files.now) (Ok c.in-Ok.project) c.in-Ok.ensures.found c.in-Ok.ensures.only) c.counts.ensures.found

pub returns-in-Ok-clause-looks : goal.returns-in-Ok-clause-looks
returns-in-Ok-clause-looks g c =
    looks_as g.F.Files.holds g.F.Files.asked g.F.Files.faults c.in-Ok.project c.counts.result prefix_calls c.args.files.now c.read_project.new.files
    c.in-Ok.ensures.looks c.counts.ensures.no_fault

pub returns-in-Err-clause-found : goal.returns-in-Err-clause-found
returns-in-Err-clause-found g c =
    counts_bad Project (ℕ × ℕ) front_of (λ p. p) (g.F.Files.holds c.args.files.now) c.in-Err.error
    (project_alone front_of (g.F.Files.holds c.args.files.now) (Err c.in-Err.error) c.in-Err.ensures.found c.in-Err.ensures.only)

pub returns-in-Err-clause-looks : goal.returns-in-Err-clause-looks
returns-in-Err-clause-looks g c =
    looks_err g.F.Files.holds g.F.Files.asked g.F.Files.faults Project
    (ℕ × ℕ) c.in-Err.error prefix_calls c.args.files.now c.read_project.new.files c.in-Err.ensures.looks
