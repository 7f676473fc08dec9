use Rattle.std.proofs.Common.{arith, refl}
use Rattle.pie_files.proofs.Reading.{if_always}
use Rattle.pie_build.specs.Left.{Leaves}
use Rattle.pie_build.specs.inner.Projects.{LeavesFor}
use Rattle.pie_build.proofs.Asking.{reads_project}
use Rattle.pie_build.proofs.AskingClean.{project_asks, project_entered, refused_asks, refused_entered}
use Rattle.pie_build.proofs.Changing.{project_changes, untouched}
use Rattle.pie_build.proofs.Cleaning.{is_ready}
use Rattle.pie_build.proofs.Crashing.{rests_still, rests_then, withstands_as, withstands_still, withstands_then}
use Rattle.pie_build.proofs.OneAnswer.{refusal_alone, report_alone, reported}
use Rattle.pie_build.proofs.OwnPaths.{same_keeps}
use Rattle.pie_build.proofs.Ran.{rest_before}
use Rattle.pie_build.proofs.Storing.{project_leaves, project_left}
use Rattle.pie_build.proofs.building.rebuild.Goals as goal

pub with_project-requires : goal.with_project-requires
with_project-requires g c = record {
  ready = is_ready (g.F.Files.holds c.args.files.now) (g.F.Files.holds c.read_project.new.files) c.in-Ok.project c.in-Ok.ensures.found
      c.in-Ok.ensures.looks.same;
  table = record { names = c.in-Ok.ensures.names; funcs = c.in-Ok.ensures.funcs };
}

pub returns-in-Ok-clause-says : goal.returns-in-Ok-clause-says
returns-in-Ok-clause-says g c =
    report_alone (g.F.Files.holds c.args.files.now) c.in-Ok.project c.with_project.result c.in-Ok.ensures.found c.in-Ok.ensures.only c.with_project.ensures.says

pub returns-in-Err-clause-says : goal.returns-in-Err-clause-says
returns-in-Err-clause-says g c = refusal_alone (g.F.Files.holds c.args.files.now) c.in-Err.error c.in-Err.ensures.found c.in-Err.ensures.only

pub returns-in-Ok-clause-files : goal.returns-in-Ok-clause-files
returns-in-Ok-clause-files g c =
    let before = g.F.Files.holds c.args.files.now in
    let mid = g.F.Files.holds c.read_project.new.files in
    let after = g.F.Files.holds c.with_project.new.files in
    let e = c.in-Ok.ensures in
    let built = c.with_project.ensures.rebuilds in
    record {
      left = project_leaves before mid after c.in-Ok.project c.with_project.result e.found e.digests e.names e.looks.same built.left;
      changed = project_changes before mid after c.in-Ok.project e.found e.digests e.names e.looks.same built.changed;
      rest = rest_before before mid after e.looks.same built.rest;
    }

pub returns-in-Err-clause-files : goal.returns-in-Err-clause-files
returns-in-Err-clause-files g c =
    let before = g.F.Files.holds c.args.files.now in
    let after = g.F.Files.holds c.read_project.new.files in
    record {
      left = if_always before tt;
      changed = untouched before after c.in-Err.ensures.looks.same;
      rest = same_keeps before after c.in-Err.ensures.looks.same;
    }

pub returns-in-Ok-clause-refuses : goal.returns-in-Ok-clause-refuses
returns-in-Ok-clause-refuses g c = record {
  refused = reported c.with_project.result _ c.with_project.ensures.says;
  idle = reported c.with_project.result _ c.with_project.ensures.says;
}

pub returns-in-Err-clause-refuses : goal.returns-in-Err-clause-refuses
returns-in-Err-clause-refuses g c = record { refused = λ h. c.in-Err.ensures.looks.same; idle = λ h. refl }

pub returns-in-Ok-clause-crash : goal.returns-in-Ok-clause-crash
returns-in-Ok-clause-crash g c =
    let p = c.in-Ok.project in
    withstands_then g.F.Files.holds g.F.Files.moment g.F.Files.left_since g.F.Files.images Leaves c.args.files.now c.read_project.new.files
    c.with_project.new.files c.in-Ok.ensures.looks.same c.in-Ok.ensures.crash
    (withstands_as g.F.Files.holds g.F.Files.moment g.F.Files.left_since g.F.Files.images (LeavesFor p) Leaves
    c.read_project.new.files c.with_project.new.files
    (project_left (g.F.Files.holds c.args.files.now) (g.F.Files.holds c.read_project.new.files) p c.in-Ok.ensures.found c.in-Ok.ensures.digests
    c.in-Ok.ensures.names c.in-Ok.ensures.looks.same) c.with_project.ensures.crash)

pub returns-in-Err-clause-crash : goal.returns-in-Err-clause-crash
returns-in-Err-clause-crash g c = grind (arith, withstands_still)

pub returns-in-Ok-clause-durable : goal.returns-in-Ok-clause-durable
returns-in-Ok-clause-durable g c = grind (arith, rests_then)

pub returns-in-Err-clause-durable : goal.returns-in-Err-clause-durable
returns-in-Err-clause-durable g c = grind (arith, rests_still)

pub returns-in-Ok-clause-started : goal.returns-in-Ok-clause-started
returns-in-Ok-clause-started g c = c.with_project.ensures.started

pub returns-in-Err-clause-started : goal.returns-in-Err-clause-started
returns-in-Err-clause-started g c = record { ran = tt; few = omega arith; encodable = tt }

pub returns-in-Ok-clause-asks : goal.returns-in-Ok-clause-asks
returns-in-Ok-clause-asks g c =
    let before = g.F.Files.holds c.args.files.now in
    let mid = g.F.Files.holds c.read_project.new.files in
    let asked = g.F.Files.asked c.args.files.now in
    let begun = g.F.Files.asked c.read_project.new.files in
    let asked_now = g.F.Files.asked c.with_project.new.files in
    let e = c.in-Ok.ensures in
    let built = c.with_project.ensures in
    record {
      asks = project_asks before mid c.in-Ok.project c.args.runs.now c.with_project.new.runs asked begun asked_now e.found e.looks.same
          (reads_project asked begun e.looks.asks) built.asks;
      entered = project_entered before mid (g.F.Files.holds c.with_project.new.files) c.in-Ok.project c.args.runs.now c.with_project.new.runs
          c.with_project.result asked begun asked_now e.found e.looks.same (reads_project asked begun e.looks.asks) built.asks built.says
          built.rebuilds.left built.started.ran;
    }

pub returns-in-Err-clause-asks : goal.returns-in-Err-clause-asks
returns-in-Err-clause-asks g c =
    let before = g.F.Files.holds c.args.files.now in
    let asked = g.F.Files.asked c.args.files.now in
    let asked_now = g.F.Files.asked c.read_project.new.files in
    let own = reads_project asked asked_now c.in-Err.ensures.looks.asks in
    record { asks = refused_asks before c.args.runs.now asked asked_now own; entered = refused_entered before _ asked asked_now own }
