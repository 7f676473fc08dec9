use Rattle.pie_model.specs.inner.RecordLaws.{Passes}
use Rattle.pie_model_pipeline.specs.World.{world, project}
use Rattle.pie_earlier_laws.proofs.Beginning.{earlier_begin}
use Rattle.pie_earlier_laws.proofs.Pipelines.{manners_of, sources_agree}
use Rattle.pie_earlier_laws.proofs.directories.earlier_pipelines_begin.Goals as goal

pub returns : goal.returns
returns c =
    λ fs gs built left now old_roots roots besides changes R told held rank busy E N same lower tells few counted idle.
    earlier_begin world (project fs built) (project gs now) old_roots roots besides (manners_of fs built) E.accepted changes
    (sources_agree fs gs built left now old_roots changes E N) R told held rank (Passes busy) same lower tells few counted idle
