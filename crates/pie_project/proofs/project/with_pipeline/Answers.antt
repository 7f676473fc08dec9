use Rattle.std.proofs.Common.{refl}
use Rattle.pie_project.specs.declared.pipeline.Digested.{Digested}
use Rattle.pie_project.specs.declared.project.Project.{Project}
use Rattle.pie_project.specs.inner.Projects.{front_of}
use Rattle.pie_project.proofs.Finding.{pipeline_good, pipeline_bad}
use Rattle.pie_project.proofs.Digesting.{digested_project}
use Rattle.pie_project.proofs.project.with_pipeline.Goals as goal

pub returns-in-Ok-clause-found : goal.returns-in-Ok-clause-found
returns-in-Ok-clause-found g c =
    pipeline_good front_of (g.F.Files.holds c.args.files.now) c.args.bytes.now c.args.bytes.now c.in-Ok.pipeline.typed c.with_digested.result
    refl c.in-Ok.ensures.found c.with_digested.ensures.found

pub returns-in-Err-clause-found : goal.returns-in-Err-clause-found
returns-in-Err-clause-found g c =
    pipeline_bad Digested Project (λ p. p.typed) front_of (g.F.Files.holds c.args.files.now) c.args.bytes.now c.args.bytes.now c.in-Err.error
    refl c.in-Err.ensures.found

pub returns-in-Ok-clause-digested : goal.returns-in-Ok-clause-digested
returns-in-Ok-clause-digested g c =
    digested_project c.args.bytes.now c.in-Ok.pipeline c.with_digested.result c.in-Ok.ensures.digested c.with_digested.ensures.typed
    c.with_digested.ensures.digests
