use Rattle.pie_incremental.proofs.Joining.{rest_then}
use Rattle.pie_topdown_build.specs.declared.offered.Offered.{Offered}
use Rattle.pie_topdown_build.proofs.Cleanly.{from_project}
use Rattle.pie_topdown_build.proofs.Crashing.{project_endures}
use Rattle.pie_topdown_build.proofs.Handing.{told_of_project}
use Rattle.pie_topdown_build.proofs.Offering.{tells_of_project}
use Rattle.pie_topdown_build.proofs.Reasons.{project_runs}
use Rattle.pie_topdown_build.proofs.Saying.{offers_fault, refuses_read, refuses_then, runs_none, stays_still}
use Rattle.pie_topdown_build.proofs.joining.from.Goals as goal

pub with_project-requires : goal.with_project-requires
with_project-requires g c = record { base = c.requires; names = c.in-Ok.ensures.names; funcs = c.in-Ok.ensures.funcs }

pub returns-in-Ok-clause-clean : goal.returns-in-Ok-clause-clean
returns-in-Ok-clause-clean g c =
    let e = c.in-Ok.ensures in
    from_project c.args.base.value c.in-Ok.project (g.O.Offers.told c.args.offers.now) (g.F.Files.holds c.args.files.now)
    (g.F.Files.holds c.read_project.new.files) (g.F.Files.holds c.with_project.new.files) c.with_project.result e.looks.same e.found e.digests e.names e.funcs
    c.with_project.ensures.clean

pub returns-in-Ok-clause-runs : goal.returns-in-Ok-clause-runs
returns-in-Ok-clause-runs g c =
    let e = c.in-Ok.ensures in
    project_runs c.args.base.value c.in-Ok.project (g.O.Offers.told c.args.offers.now) (g.F.Files.holds c.args.files.now)
    (g.F.Files.holds c.read_project.new.files) c.with_project.result e.looks.same e.found e.digests e.names e.funcs c.with_project.ensures.runs

pub returns-in-Ok-clause-offers : goal.returns-in-Ok-clause-offers
returns-in-Ok-clause-offers g c =
    let e = c.in-Ok.ensures in
    record {
      reused = c.with_project.ensures.offers.reused;
      new = c.with_project.ensures.offers.new;
      news = told_of_project c.in-Ok.project c.args.base.value.store (g.F.Files.holds c.args.files.now) (g.F.Files.holds c.read_project.new.files)
          (g.F.Files.holds c.with_project.new.files) c.args.tells c.with_project.result e.looks.same e.found e.digests c.with_project.ensures.offers.news;
      honest = tells_of_project c.args.base.value c.in-Ok.project (g.O.Offers.told c.args.offers.now) (g.F.Files.holds c.args.files.now)
          (g.F.Files.holds c.read_project.new.files) c.args.tells c.with_project.result e.looks.same e.found e.digests e.names e.funcs
          c.with_project.ensures.offers.honest;
    }

pub returns-in-Err-clause-offers : goal.returns-in-Err-clause-offers
returns-in-Err-clause-offers g c = offers_fault _ _ _ _

pub returns-in-Ok-clause-stays : goal.returns-in-Ok-clause-stays
returns-in-Ok-clause-stays g c =
    let e = c.in-Ok.ensures in
    record {
      rest = rest_then (g.F.Files.holds c.args.files.now) (g.F.Files.holds c.read_project.new.files) (g.F.Files.holds c.with_project.new.files) e.looks.same
          c.with_project.ensures.stays.rest;
      crash = project_endures g.F.Files.holds g.F.Files.moment g.F.Files.left_since g.F.Files.images c.args.base.value c.in-Ok.project
          (g.O.Offers.told c.args.offers.now) _ c.args.files.now c.read_project.new.files c.with_project.new.files e.looks.same e.crash e.found e.digests
          e.names e.funcs c.with_project.ensures.stays.crash;
    }

pub returns-in-Err-clause-stays : goal.returns-in-Err-clause-stays
returns-in-Err-clause-stays g c =
    stays_still g.F.Files.holds g.F.Files.moment g.F.Files.left_since g.F.Files.images _ _ c.args.files.now c.read_project.new.files
    c.in-Err.ensures.looks.same c.in-Err.ensures.crash

pub returns-in-Ok-clause-refuses : goal.returns-in-Ok-clause-refuses
returns-in-Ok-clause-refuses g c =
    refuses_then (λ (o : Offered). o.report.value) (g.F.Files.holds c.args.files.now) (g.F.Files.holds c.read_project.new.files)
    (g.F.Files.holds c.with_project.new.files) c.with_project.result c.in-Ok.ensures.looks.same c.with_project.ensures.refuses

pub returns-in-Err-clause-refuses : goal.returns-in-Err-clause-refuses
returns-in-Err-clause-refuses g c =
    refuses_read (λ (o : Offered). o.report.value) (g.F.Files.holds c.args.files.now) (g.F.Files.holds c.read_project.new.files) c.in-Err.error
    c.in-Err.ensures.looks.same c.in-Err.ensures.found

pub returns-in-Ok-clause-ran : goal.returns-in-Ok-clause-ran
returns-in-Ok-clause-ran g c = c.with_project.ensures.ran

pub returns-in-Err-clause-ran : goal.returns-in-Err-clause-ran
returns-in-Err-clause-ran g c = runs_none c.args.runs.now _ (λ (o : Offered). o.report.value)
