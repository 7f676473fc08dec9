use Rattle.std.proofs.Common.{◌≡◌, refl, rules}
use Rattle.std.specs.Prelude.{Err}
use Rattle.pie_files.specs.declared.files.FilesError.TheVariants.{OutOfMemory}
use Rattle.pie_build.specs.inner.Projects.{LeavesFor}
use Rattle.pie_build.specs.inner.Reported.{PutsMade}
use Rattle.pie_build.proofs.Cleaning.{IsMadeOf, made_left, put_left, ran_of, refused_left}
use Rattle.pie_build.proofs.Changing.{accepted, failed_rebuilds, unchanged}
use Rattle.pie_build.proofs.Crashing.{rests_none, withstands_as}
use Rattle.pie_build.proofs.Storing.{may_stand}
use Rattle.std.proofs.Common.{arith}
use Rattle.pie_build.proofs.Crashing.{withstands_none}
use Rattle.pie_build.proofs.OwnPaths.{same_keeps}
use Rattle.pie_build.proofs.Asking.{makes_none}
use Rattle.pie_build.proofs.building.finish.Goals as goal

pub made_of-requires : goal.made_of-requires
made_of-requires g c =
    may_stand c.args.project.typed c.args.project.digests.items c.args.project.roots.items c.args.built c.requires.placed.table.names
    c.requires.placed.table.funcs c.requires.placed.kept c.in-Accepted.is c.requires.placed.stored

pub returns-in_ok-made-in-Accepted-clause-rebuilds : goal.returns-in_ok-made-in-Accepted-clause-rebuilds
returns-in_ok-made-in-Accepted-clause-rebuilds g c =
    let p = c.args.project in
    let made = c.in_ok-made-in-Accepted.made in
    let held = g.F.Files.holds c.args.files.now in
    let of : IsMadeOf p c.args.built made = record {
      contents = c.in_ok-made-in-Accepted.ensures.contents;
      outputs = c.in_ok-made-in-Accepted.ensures.outputs;
      live = c.in_ok-made-in-Accepted.ensures.live;
      store = c.in_ok-made-in-Accepted.ensures.store;
    } in
    record {
      left = put_left held (g.F.Files.holds c.put_into_place.new.files) p made c.args.ran c.put_into_place.result
          (made_left held p c.args.built made c.args.ran of c.in-Accepted.is c.requires.clean) c.put_into_place.ensures.left c.put_into_place.ensures.report;
      changed = accepted p held (g.F.Files.holds c.put_into_place.new.files) c.args.built c.args.ran.items c.in-Accepted.is c.requires.clean;
      rest = c.put_into_place.ensures.rest;
    }

pub returns-in_ok-made-in-Accepted-clause-ran : goal.returns-in_ok-made-in-Accepted-clause-ran
returns-in_ok-made-in-Accepted-clause-ran g c =
    ran_of c.in_ok-made-in-Accepted.made c.args.ran c.put_into_place.result c.put_into_place.ensures.report

pub returns-in_ok-made-in-Accepted-clause-crash : goal.returns-in_ok-made-in-Accepted-clause-crash
returns-in_ok-made-in-Accepted-clause-crash g c =
    let p = c.args.project in
    let made = c.in_ok-made-in-Accepted.made in
    let held = g.F.Files.holds c.args.files.now in
    let of : IsMadeOf p c.args.built made = record {
      contents = c.in_ok-made-in-Accepted.ensures.contents;
      outputs = c.in_ok-made-in-Accepted.ensures.outputs;
      live = c.in_ok-made-in-Accepted.ensures.live;
      store = c.in_ok-made-in-Accepted.ensures.store;
    } in
    withstands_as g.F.Files.holds g.F.Files.moment g.F.Files.left_since g.F.Files.images (PutsMade made c.args.ran) (LeavesFor p) c.args.files.now
    c.put_into_place.new.files
    (made_left held p c.args.built made c.args.ran of c.in-Accepted.is c.requires.clean) c.put_into_place.ensures.crash

pub returns-in-Refused-clause-rebuilds : goal.returns-in-Refused-clause-rebuilds
returns-in-Refused-clause-rebuilds g c = record {
  left = refused_left (g.F.Files.holds c.args.files.now) c.args.project c.args.built c.args.ran c.in-Refused.refusal c.refused.result c.in-Refused.is
      c.refused.ensures.verdict c.refused.ensures.fresh c.refused.ensures.wrote c.refused.ensures.removed c.refused.ensures.outputs
      c.refused.ensures.live c.refused.ensures.ran c.requires.clean;
  changed = unchanged c.args.project (g.F.Files.holds c.args.files.now) (g.F.Files.holds c.args.files.now) refl;
  rest = same_keeps (g.F.Files.holds c.args.files.now) (g.F.Files.holds c.args.files.now) refl;
}

pub returns-in-Refused-clause-durable : goal.returns-in-Refused-clause-durable
returns-in-Refused-clause-durable g c = rests_none g.F.Files.holds g.F.Files.moment g.F.Files.left_since g.F.Files.images c.args.files.now

pub returns-in_err-made-in-Accepted-clause-rebuilds : goal.returns-in_err-made-in-Accepted-clause-rebuilds
returns-in_err-made-in-Accepted-clause-rebuilds g c =
    let failed : Err OutOfMemory ≡ c.from_residual.result = search rules in
    failed_rebuilds c.args.project (g.F.Files.holds c.args.files.now) (g.F.Files.holds c.args.files.now) c.from_residual.result OutOfMemory failed refl

pub returns-in-Refused-clause-crash : goal.returns-in-Refused-clause-crash
returns-in-Refused-clause-crash g c = grind (arith, withstands_none)

pub returns-in_err-made-in-Accepted-clause-crash : goal.returns-in_err-made-in-Accepted-clause-crash
returns-in_err-made-in-Accepted-clause-crash g c = grind (arith, withstands_none)

pub returns-in_err-made-in-Accepted-clause-asks : goal.returns-in_err-made-in-Accepted-clause-asks
returns-in_err-made-in-Accepted-clause-asks g c =
    makes_none (g.F.Files.asked c.args.files.now) (g.F.Files.asked c.args.files.now) refl

pub returns-in-Refused-clause-asks : goal.returns-in-Refused-clause-asks
returns-in-Refused-clause-asks g c =
    makes_none (g.F.Files.asked c.args.files.now) (g.F.Files.asked c.args.files.now) refl
