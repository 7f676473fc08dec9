use Rattle.std.proofs.Common.{[], Err}
use Rattle.pie_files.specs.declared.files.Call.TheVariants.{Read}
use Rattle.pie_project.specs.declared.fault.BuildError.TheVariants as errors
use Rattle.pie_project.specs.declared.fault.RootsReason.TheVariants as reasons
use Rattle.pie_project.specs.Looking.{roots_path}
use Rattle.pie_project.specs.inner.Projects.{front_of}
use Rattle.pie_project.proofs.Finding.{roots_there, roots_long, roots_away}
use Rattle.pie_project.proofs.Lookings.{looks_here, looks_failed, always_none}
use Rattle.pie_project.proofs.project.with_digested.Goals as goal

pub returns-in-Ok-Whole-clause-found : goal.returns-in-Ok-Whole-clause-found
returns-in-Ok-Whole-clause-found g c =
    roots_there front_of (g.F.Files.holds c.args.files.now) c.in-Ok-Whole.field-0 c.in-Ok-Whole.found c.as_slice.result.now
    c.args.pipeline.typed
    c.with_roots.result c.in-Ok-Whole.ensures.found c.in-Ok-Whole.field-0-is c.as_slice.ensures.value c.with_roots.ensures.found

pub returns-in-Ok-Whole-clause-looks : goal.returns-in-Ok-Whole-clause-looks
returns-in-Ok-Whole-clause-looks g c =
    looks_here g.F.Files.holds g.F.Files.asked g.F.Files.faults c.in-Ok-Whole.field-0 c.with_roots.result (Read roots_path) [] c.args.files.now c.load.new.files
    c.in-Ok-Whole.ensures.same c.in-Ok-Whole.ensures.called (always_none c.with_roots.result) c.with_roots.ensures.no_fault

pub returns-in-Ok-Long-clause-found : goal.returns-in-Ok-Long-clause-found
returns-in-Ok-Long-clause-found g c =
    roots_long (g.F.Files.holds c.args.files.now) c.in-Ok-Long.field-0 c.args.pipeline.typed c.in-Ok-Long.ensures.found c.in-Ok-Long.field-0-is

pub returns-in-Ok-Long-clause-looks : goal.returns-in-Ok-Long-clause-looks
returns-in-Ok-Long-clause-looks g c =
    looks_here g.F.Files.holds g.F.Files.asked g.F.Files.faults c.in-Ok-Long.field-0 (Err (errors.Roots reasons.TooLong))
    (Read roots_path) [] c.args.files.now c.load.new.files
    c.in-Ok-Long.ensures.same c.in-Ok-Long.ensures.called tt (λ q. absurd (cc))

pub returns-in-Ok-Absent-clause-found : goal.returns-in-Ok-Absent-clause-found
returns-in-Ok-Absent-clause-found g c =
    roots_away (g.F.Files.holds c.args.files.now) c.in-Ok-Absent.field-0 c.args.pipeline.typed c.in-Ok-Absent.ensures.found
    c.in-Ok-Absent.field-0-is

pub returns-in-Ok-Absent-clause-looks : goal.returns-in-Ok-Absent-clause-looks
returns-in-Ok-Absent-clause-looks g c =
    looks_here g.F.Files.holds g.F.Files.asked g.F.Files.faults c.in-Ok-Absent.field-0 (Err (errors.Roots reasons.Absent))
    (Read roots_path) [] c.args.files.now c.load.new.files
    c.in-Ok-Absent.ensures.same c.in-Ok-Absent.ensures.called tt (λ q. absurd (cc))

pub returns-in-Err-clause-looks : goal.returns-in-Err-clause-looks
returns-in-Err-clause-looks g c =
    rw c.files_error.ensures (looks_failed g.F.Files.holds g.F.Files.asked g.F.Files.faults c.in-Err.error (Read roots_path) [] c.args.files.now
    c.load.new.files c.in-Err.ensures.same c.in-Err.ensures.called)
