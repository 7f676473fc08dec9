use Rattle.pie_project.specs.declared.fault.BuildError.TheVariants as errors
use Rattle.pie_topdown_build.specs.declared.offered.Offered.{Offered}
use Rattle.pie_topdown_build.proofs.Cleanly.{anew_by}
use Rattle.pie_topdown_build.proofs.Crashing.{bare_endures}
use Rattle.pie_topdown_build.proofs.Handing.{told_anew}
use Rattle.pie_topdown_build.proofs.Offering.{tells_anew}
use Rattle.pie_topdown_build.proofs.Reasons.{anew_runs}
use Rattle.pie_topdown_build.proofs.Saying.{offers_fault_of, refuses_fault, runs_none_for, stays_none}
use Rattle.pie_topdown_build.proofs.building.anew.Goals as goal

pub returns-in-Ok-clause-clean : goal.returns-in-Ok-clause-clean
returns-in-Ok-clause-clean g c =
    anew_by (g.O.Offers.told c.args.offers.now) c.in-Ok.base.value (g.F.Files.holds c.args.files.now) (g.F.Files.holds c.anew_from.new.files) c.anew_from.result
    c.in-Ok.ensures.none c.anew_from.ensures.clean

pub returns-in-Ok-clause-runs : goal.returns-in-Ok-clause-runs
returns-in-Ok-clause-runs g c =
    anew_runs (g.O.Offers.told c.args.offers.now) c.in-Ok.base.value (g.F.Files.holds c.args.files.now) c.anew_from.result c.in-Ok.ensures.none
    c.anew_from.ensures.runs

pub returns-in-Ok-clause-offers : goal.returns-in-Ok-clause-offers
returns-in-Ok-clause-offers g c =
    let before = g.F.Files.holds c.args.files.now in
    let offers = c.anew_from.ensures.offers in
    record {
      reused = offers.reused;
      new = offers.new;
      news = told_anew c.in-Ok.base before (g.F.Files.holds c.anew_from.new.files) c.anew_from.result c.in-Ok.ensures.none.store offers.news;
      honest = tells_anew (g.O.Offers.told c.args.offers.now) c.in-Ok.base.value before c.anew_from.result c.in-Ok.ensures.none offers.honest;
    }

pub returns-in-Err-clause-offers : goal.returns-in-Err-clause-offers
returns-in-Err-clause-offers g c = offers_fault_of (g.F.Files.holds c.args.files.now) _ _ _

pub returns-in-Ok-clause-stays : goal.returns-in-Ok-clause-stays
returns-in-Ok-clause-stays g c = record {
  rest = c.anew_from.ensures.stays.rest;
  crash = bare_endures g.F.Files.holds g.F.Files.moment g.F.Files.left_since g.F.Files.images c.in-Ok.base.value (g.O.Offers.told c.args.offers.now) _
      c.args.files.now c.anew_from.new.files c.in-Ok.ensures.none c.anew_from.ensures.stays.crash;
}

pub returns-in-Err-clause-stays : goal.returns-in-Err-clause-stays
returns-in-Err-clause-stays g c = stays_none g.F.Files.holds g.F.Files.moment g.F.Files.left_since g.F.Files.images _ _ c.args.files.now

pub returns-in-Ok-clause-refuses : goal.returns-in-Ok-clause-refuses
returns-in-Ok-clause-refuses g c = c.anew_from.ensures.refuses

pub returns-in-Err-clause-refuses : goal.returns-in-Err-clause-refuses
returns-in-Err-clause-refuses g c =
    refuses_fault (λ (o : Offered). o.report.value) (g.F.Files.holds c.args.files.now) (g.F.Files.holds c.args.files.now) errors.OutOfMemory (λ h. h)

pub returns-in-Ok-clause-ran : goal.returns-in-Ok-clause-ran
returns-in-Ok-clause-ran g c = c.anew_from.ensures.ran

pub returns-in-Err-clause-ran : goal.returns-in-Err-clause-ran
returns-in-Err-clause-ran g c = runs_none_for c.args.cause c.args.runs.now _ (λ (o : Offered). o.report.value)
