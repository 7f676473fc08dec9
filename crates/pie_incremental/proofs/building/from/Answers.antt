use Rattle.std.proofs.Common.{refl}
use Rattle.std.specs.Prelude.{◌++◌}
use Rattle.pie_build.proofs.Cleaning.{is_ready}
use Rattle.pie_files.proofs.Reading.{if_always}
use Rattle.pie_project.specs.Refusals.{IsVerdict}
use Rattle.pie_store.specs.Pending.{in_order}
use Rattle.pie_incremental.specs.inner.Crashed.{MayFrom}
use Rattle.pie_incremental.specs.inner.Marked.{EndsFrom}
use Rattle.pie_incremental.proofs.Asked.{from_asking}
use Rattle.pie_incremental.proofs.Asking.{looks_project}
use Rattle.pie_incremental.proofs.Cleanly.{from_project}
use Rattle.pie_incremental.proofs.Crashing.{from_first}
use Rattle.pie_incremental.proofs.Parts.{endures_from, endures_still}
use Rattle.pie_incremental.proofs.Refusing.{has_project, not_refused}
use Rattle.pie_incremental.proofs.Treating.{treats_result}
use Rattle.pie_incremental.proofs.building.from.Goals as goal

pub with_project-requires-clause-project : goal.with_project-requires-clause-project
with_project-requires-clause-project g c =
    let e = c.in-Ok.ensures in
    record {
      ready = is_ready (g.F.Files.holds c.args.files.now) (g.F.Files.holds c.read_project.new.files) c.in-Ok.project e.found e.looks.same;
      names = e.names;
      funcs = e.funcs;
    }

pub returns-in-Ok-clause-names : goal.returns-in-Ok-clause-names
returns-in-Ok-clause-names g c = treats_result c.args.base.value.own (in_order (c.args.changes.now ++ c.args.base.value.names.items))
    (g.F.Files.holds c.args.files.now) (g.F.Files.holds c.read_project.new.files) (g.F.Files.holds c.with_project.new.files) c.with_project.result
    c.in-Ok.ensures.looks.same c.with_project.ensures.names

pub returns-in-Ok-clause-updates : goal.returns-in-Ok-clause-updates
returns-in-Ok-clause-updates g c =
    let b = c.args.base.value in
    let p = c.in-Ok.project in
    let before = g.F.Files.holds c.args.files.now in
    let mid = g.F.Files.holds c.read_project.new.files in
    let asked = g.F.Files.asked c.args.files.now in
    let begun = g.F.Files.asked c.read_project.new.files in
    let e = c.in-Ok.ensures in
    record {
      clean = from_project b p c.args.changes.now before mid (g.F.Files.holds c.with_project.new.files) c.with_project.result e.looks.same e.found e.digests
          e.names e.funcs c.with_project.ensures.updates.clean;
      asks = from_asking b p c.args.changes.now before mid asked begun (g.F.Files.asked c.with_project.new.files) c.with_project.result e.looks.same e.found
          e.digests e.names e.funcs (looks_project asked begun e.looks.asks) c.with_project.ensures.updates.asks;
    }

pub returns-in-Ok-clause-files : goal.returns-in-Ok-clause-files
returns-in-Ok-clause-files g c =
    let e = c.in-Ok.ensures in
    endures_from g.F.Files.holds g.F.Files.moment g.F.Files.left_since g.F.Files.images c.args.base.value c.in-Ok.project c.args.changes.now
    (IsVerdict c.with_project.result) c.args.files.now c.read_project.new.files c.with_project.new.files e.looks.same e.crash e.found e.digests e.names e.funcs
    c.with_project.ensures.files

pub returns-in-Err-clause-files : goal.returns-in-Err-clause-files
returns-in-Err-clause-files g c =
    let b = c.args.base.value in
    let list = c.args.changes.now in
    endures_still g.F.Files.holds g.F.Files.moment g.F.Files.left_since g.F.Files.images (MayFrom b list) (EndsFrom b list) _ (from_first b list)
    c.args.files.now c.read_project.new.files c.in-Err.ensures.looks.same c.in-Err.ensures.crash

pub returns-in-Ok-clause-project : goal.returns-in-Ok-clause-project
returns-in-Ok-clause-project g c =
    let before = g.F.Files.holds c.args.files.now in
    let mid = g.F.Files.holds c.read_project.new.files in
    let e = c.in-Ok.ensures in
    record {
      idle = not_refused _ before mid c.in-Ok.project c.with_project.result e.looks.same e.only c.with_project.ensures.refuses.says;
      project = has_project before c.in-Ok.project c.with_project.result e.found;
    }

pub returns-in-Err-clause-project : goal.returns-in-Err-clause-project
returns-in-Err-clause-project g c =
    let before = g.F.Files.holds c.args.files.now in
    record { idle = if_always before (λ h. refl); project = if_always before tt }
