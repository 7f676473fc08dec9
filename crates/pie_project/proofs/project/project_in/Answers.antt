use Rattle.std.proofs.Common.{[], ◌∷◌, Err}
use Rattle.pie_files.specs.declared.files.Call.TheVariants.{Read}
use Rattle.pie_project.specs.declared.fault.BuildError.TheVariants as errors
use Rattle.pie_project.specs.declared.fault.PipelineFault.TheVariants as faults
use Rattle.pie_project.specs.Looking.{pipeline_path, roots_path}
use Rattle.pie_project.specs.inner.Projects.{front_of}
use Rattle.pie_project.proofs.Finding.{pipeline_there, pipeline_long, pipeline_away}
use Rattle.pie_project.proofs.Digesting.{digests_there, names_of_digested, funcs_of_digested}
use Rattle.pie_project.proofs.Lookings.{looks_here, looks_then, looks_failed}
use Rattle.pie_project.proofs.project.project_in.Goals as goal

pub returns-in-Ok-Whole-clause-found : goal.returns-in-Ok-Whole-clause-found
returns-in-Ok-Whole-clause-found g c =
    pipeline_there front_of (g.F.Files.holds c.args.files.now) (g.F.Files.holds c.load.new.files) c.in-Ok-Whole.field-0
    c.in-Ok-Whole.found c.as_slice.result.now c.with_pipeline.result c.in-Ok-Whole.ensures.found c.in-Ok-Whole.field-0-is c.as_slice.ensures.value
    c.in-Ok-Whole.ensures.same c.with_pipeline.ensures.found

pub returns-in-Ok-Whole-clause-looks : goal.returns-in-Ok-Whole-clause-looks
returns-in-Ok-Whole-clause-looks g c =
    looks_then g.F.Files.holds g.F.Files.asked g.F.Files.faults c.in-Ok-Whole.field-0 c.with_pipeline.result (Read pipeline_path)
    (Read roots_path ∷ []) c.args.files.now c.load.new.files c.with_pipeline.new.files
    c.in-Ok-Whole.ensures.same c.in-Ok-Whole.ensures.called c.with_pipeline.ensures.looks

pub returns-in-Ok-Long-clause-found : goal.returns-in-Ok-Long-clause-found
returns-in-Ok-Long-clause-found g c =
    pipeline_long (g.F.Files.holds c.args.files.now) c.in-Ok-Long.field-0 c.in-Ok-Long.ensures.found c.in-Ok-Long.field-0-is

pub returns-in-Ok-Long-clause-looks : goal.returns-in-Ok-Long-clause-looks
returns-in-Ok-Long-clause-looks g c =
    looks_here g.F.Files.holds g.F.Files.asked g.F.Files.faults c.in-Ok-Long.field-0 (Err (errors.Pipeline faults.TooLong)) (Read pipeline_path)
    (Read roots_path ∷ []) c.args.files.now c.load.new.files
    c.in-Ok-Long.ensures.same c.in-Ok-Long.ensures.called tt (λ q. absurd (cc))

pub returns-in-Ok-Absent-clause-found : goal.returns-in-Ok-Absent-clause-found
returns-in-Ok-Absent-clause-found g c =
    pipeline_away (g.F.Files.holds c.args.files.now) c.in-Ok-Absent.field-0 c.in-Ok-Absent.ensures.found c.in-Ok-Absent.field-0-is

pub returns-in-Ok-Absent-clause-looks : goal.returns-in-Ok-Absent-clause-looks
returns-in-Ok-Absent-clause-looks g c =
    looks_here g.F.Files.holds g.F.Files.asked g.F.Files.faults c.in-Ok-Absent.field-0 (Err (errors.Pipeline faults.Absent)) (Read pipeline_path)
    (Read roots_path ∷ []) c.args.files.now c.load.new.files
    c.in-Ok-Absent.ensures.same c.in-Ok-Absent.ensures.called tt (λ q. absurd (cc))

pub returns-in-Err-clause-looks : goal.returns-in-Err-clause-looks
returns-in-Err-clause-looks g c =
    rw c.files_error.ensures (looks_failed g.F.Files.holds g.F.Files.asked g.F.Files.faults c.in-Err.error (Read pipeline_path) (Read roots_path ∷ [])
    c.args.files.now c.load.new.files c.in-Err.ensures.same c.in-Err.ensures.called)

pub returns-in-Ok-Whole-clause-digests : goal.returns-in-Ok-Whole-clause-digests
returns-in-Ok-Whole-clause-digests g c =
    digests_there (g.F.Files.holds c.args.files.now) c.in-Ok-Whole.field-0 c.in-Ok-Whole.found c.as_slice.result.now
    c.with_pipeline.result
    c.in-Ok-Whole.ensures.found c.in-Ok-Whole.field-0-is c.as_slice.ensures.value c.with_pipeline.ensures.digested

pub returns-in-Ok-Whole-clause-names : goal.returns-in-Ok-Whole-clause-names
returns-in-Ok-Whole-clause-names g c = names_of_digested c.as_slice.result.now c.with_pipeline.result c.with_pipeline.ensures.digested

pub returns-in-Ok-Whole-clause-funcs : goal.returns-in-Ok-Whole-clause-funcs
returns-in-Ok-Whole-clause-funcs g c = funcs_of_digested c.as_slice.result.now c.with_pipeline.result c.with_pipeline.ensures.digested
