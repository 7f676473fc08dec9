use Rattle.pie_project.specs.declared.fault.BuildError.TheVariants as errors
use Rattle.pie_build.proofs.Changing.{no_report}
use Rattle.pie_build.proofs.building.with_project.Goals as goal

pub returns-in-Ok-clause-rebuilds : goal.returns-in-Ok-clause-rebuilds
returns-in-Ok-clause-rebuilds g c = record {
  left = c.in-Ok.ensures.rebuilds.left;
  changed = c.build.ensures.rebuilds.changed;
  rest = c.build.ensures.rebuilds.rest;
}

pub returns-in-Err-Failed-clause-rebuilds : goal.returns-in-Err-Failed-clause-rebuilds
returns-in-Err-Failed-clause-rebuilds g c = record {
  left = no_report c.args.project (g.F.Files.holds c.args.files.now) (g.F.Files.holds c.build.new.files) errors.Files;
  changed = c.build.ensures.rebuilds.changed;
  rest = c.build.ensures.rebuilds.rest;
}

pub returns-in-Err-OutOfMemory-clause-rebuilds : goal.returns-in-Err-OutOfMemory-clause-rebuilds
returns-in-Err-OutOfMemory-clause-rebuilds g c = record {
  left = no_report c.args.project (g.F.Files.holds c.args.files.now) (g.F.Files.holds c.build.new.files) errors.OutOfMemory;
  changed = c.build.ensures.rebuilds.changed;
  rest = c.build.ensures.rebuilds.rest;
}

pub returns-in-Ok-clause-started : goal.returns-in-Ok-clause-started
returns-in-Ok-clause-started g c = record {
  ran = c.in-Ok.ensures.started.ran;
  few = c.build.ensures.started.few;
  encodable = c.in-Ok.ensures.started.encodable;
}

pub returns-in-Err-Failed-clause-started : goal.returns-in-Err-Failed-clause-started
returns-in-Err-Failed-clause-started g c = record { ran = tt; few = c.build.ensures.started.few; encodable = tt }

pub returns-in-Err-OutOfMemory-clause-started : goal.returns-in-Err-OutOfMemory-clause-started
returns-in-Err-OutOfMemory-clause-started g c = record { ran = tt; few = c.build.ensures.started.few; encodable = tt }
