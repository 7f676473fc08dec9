use Rattle.std.proofs.Common.{refl}
use Rattle.pie_incremental.proofs.Joining.{rest_then}
use Rattle.pie_project.specs.Refusals.{IsVerdict}
use Rattle.pie_project.specs.declared.fault.BuildError.TheVariants as errors
use Rattle.pie_topdown_build.specs.declared.offered.Offered.{Offered}
use Rattle.pie_topdown_build.proofs.Cleanly.{anew_cleans, offered_cleans}
use Rattle.pie_topdown_build.proofs.Crashing.{anew_endures, offered_endures}
use Rattle.pie_topdown_build.proofs.Handing.{told_afresh, told_from}
use Rattle.pie_topdown_build.proofs.Offering.{tells_afresh, tells_stored}
use Rattle.pie_topdown_build.proofs.Reasons.{afresh_offers, store_offers}
use Rattle.pie_topdown_build.proofs.Saying.{offers_fault_of, refuses_fault, refuses_then, runs_none, stays_still}
use Rattle.pie_topdown_build.proofs.building.build_offered.Goals as goal

pub returns-in-Ok-Afresh-clause-stays : goal.returns-in-Ok-Afresh-clause-stays
returns-in-Ok-Afresh-clause-stays g c =
    let e = c.in-Ok-Afresh in
    record {
      rest = rest_then (g.F.Files.holds c.args.files.now) (g.F.Files.holds c.find_base.new.files) (g.F.Files.holds c.anew.new.files) e.ensures.reads.same
          c.anew.ensures.stays.rest;
      crash = anew_endures g.F.Files.holds g.F.Files.moment g.F.Files.left_since g.F.Files.images e.field-0 (IsVerdict c.anew.result) c.args.files.now
          c.find_base.new.files c.anew.new.files e.ensures.reads.same e.ensures.reads.crash (g.O.Offers.told c.args.offers.now) e.cause e.field-0-is
          e.ensures.only c.anew.ensures.stays.crash;
    }

pub returns-in-Ok-From-clause-stays : goal.returns-in-Ok-From-clause-stays
returns-in-Ok-From-clause-stays g c =
    let e = c.in-Ok-From in
    record {
      rest = rest_then (g.F.Files.holds c.args.files.now) (g.F.Files.holds c.find_base.new.files) (g.F.Files.holds c.from.new.files) e.ensures.reads.same
          c.from.ensures.stays.rest;
      crash = offered_endures g.F.Files.holds g.F.Files.moment g.F.Files.left_since g.F.Files.images e.field-0 (IsVerdict c.from.result) c.args.files.now
          c.find_base.new.files c.from.new.files e.ensures.reads.same e.ensures.reads.crash (g.O.Offers.told c.args.offers.now) e.base e.field-0-is
          e.ensures.starts c.from.ensures.stays.crash;
    }

pub returns-in-Err-Failed-clause-stays : goal.returns-in-Err-Failed-clause-stays
returns-in-Err-Failed-clause-stays g c =
    stays_still g.F.Files.holds g.F.Files.moment g.F.Files.left_since g.F.Files.images _ _ c.args.files.now c.find_base.new.files
    c.in-Err-Failed.ensures.reads.same c.in-Err-Failed.ensures.reads.crash

pub returns-in-Err-OutOfMemory-clause-stays : goal.returns-in-Err-OutOfMemory-clause-stays
returns-in-Err-OutOfMemory-clause-stays g c =
    stays_still g.F.Files.holds g.F.Files.moment g.F.Files.left_since g.F.Files.images _ _ c.args.files.now c.find_base.new.files
    c.in-Err-OutOfMemory.ensures.reads.same c.in-Err-OutOfMemory.ensures.reads.crash

pub returns-in-Ok-Afresh-clause-refuses : goal.returns-in-Ok-Afresh-clause-refuses
returns-in-Ok-Afresh-clause-refuses g c =
    refuses_then (λ (o : Offered). o.report.value) (g.F.Files.holds c.args.files.now) (g.F.Files.holds c.find_base.new.files)
    (g.F.Files.holds c.anew.new.files) c.anew.result c.in-Ok-Afresh.ensures.reads.same c.anew.ensures.refuses

pub returns-in-Ok-From-clause-refuses : goal.returns-in-Ok-From-clause-refuses
returns-in-Ok-From-clause-refuses g c =
    refuses_then (λ (o : Offered). o.report.value) (g.F.Files.holds c.args.files.now) (g.F.Files.holds c.find_base.new.files)
    (g.F.Files.holds c.from.new.files) c.from.result c.in-Ok-From.ensures.reads.same c.from.ensures.refuses

pub returns-in-Err-Failed-clause-refuses : goal.returns-in-Err-Failed-clause-refuses
returns-in-Err-Failed-clause-refuses g c =
    refuses_fault (λ (o : Offered). o.report.value) (g.F.Files.holds c.args.files.now) (g.F.Files.holds c.find_base.new.files) errors.Files (λ h. h)

pub returns-in-Err-OutOfMemory-clause-refuses : goal.returns-in-Err-OutOfMemory-clause-refuses
returns-in-Err-OutOfMemory-clause-refuses g c =
    refuses_fault (λ (o : Offered). o.report.value) (g.F.Files.holds c.args.files.now) (g.F.Files.holds c.find_base.new.files) errors.OutOfMemory (λ h. h)

pub returns-in-Ok-Afresh-clause-clean : goal.returns-in-Ok-Afresh-clause-clean
returns-in-Ok-Afresh-clause-clean g c =
    let e = c.in-Ok-Afresh in
    anew_cleans (g.O.Offers.told c.args.offers.now) e.field-0 e.cause (g.F.Files.holds c.args.files.now) (g.F.Files.holds c.find_base.new.files)
    (g.F.Files.holds c.anew.new.files) c.anew.result e.field-0-is e.ensures.starts e.ensures.only e.ensures.reads.same c.anew.ensures.clean
    c.anew.ensures.ran.fresh

pub returns-in-Ok-From-clause-clean : goal.returns-in-Ok-From-clause-clean
returns-in-Ok-From-clause-clean g c =
    let e = c.in-Ok-From in
    offered_cleans (g.O.Offers.told c.args.offers.now) e.field-0 e.base (g.F.Files.holds c.args.files.now) (g.F.Files.holds c.find_base.new.files)
    (g.F.Files.holds c.from.new.files) c.from.result e.field-0-is e.ensures.starts e.ensures.reads.same c.from.ensures.clean

pub returns-in-Ok-Afresh-clause-runs : goal.returns-in-Ok-Afresh-clause-runs
returns-in-Ok-Afresh-clause-runs g c =
    let e = c.in-Ok-Afresh in
    afresh_offers (g.O.Offers.told c.args.offers.now) e.cause (g.F.Files.holds c.args.files.now) (g.F.Files.holds c.find_base.new.files) c.anew.result
    e.ensures.reads.same c.anew.ensures.runs c.anew.ensures.ran.fresh

pub returns-in-Ok-From-clause-runs : goal.returns-in-Ok-From-clause-runs
returns-in-Ok-From-clause-runs g c =
    let e = c.in-Ok-From in
    store_offers (g.O.Offers.told c.args.offers.now) e.field-0 e.base (g.F.Files.holds c.args.files.now) (g.F.Files.holds c.find_base.new.files)
    (g.F.Files.holds c.from.new.files) c.from.result e.field-0-is e.ensures.starts e.ensures.reads.same c.from.ensures.clean c.from.ensures.runs

pub returns-in-Ok-Afresh-clause-ran : goal.returns-in-Ok-Afresh-clause-ran
returns-in-Ok-Afresh-clause-ran g c =
    let ran = c.anew.ensures.ran in
    record { ran = ran.ran; few = ran.few; encodable = ran.encodable }

pub returns-in-Ok-From-clause-ran : goal.returns-in-Ok-From-clause-ran
returns-in-Ok-From-clause-ran g c = c.from.ensures.ran

pub returns-in-Err-Failed-clause-ran : goal.returns-in-Err-Failed-clause-ran
returns-in-Err-Failed-clause-ran g c = runs_none c.args.runs.now _ (λ (o : Offered). o.report.value)

pub returns-in-Err-OutOfMemory-clause-ran : goal.returns-in-Err-OutOfMemory-clause-ran
returns-in-Err-OutOfMemory-clause-ran g c = runs_none c.args.runs.now _ (λ (o : Offered). o.report.value)

pub returns-in-Ok-Afresh-clause-tells : goal.returns-in-Ok-Afresh-clause-tells
returns-in-Ok-Afresh-clause-tells g c =
    let e = c.in-Ok-Afresh in
    let offers = c.anew.ensures.offers in
    record {
      reused = offers.reused;
      new = offers.new;
      news = told_afresh (g.F.Files.holds c.args.files.now) (g.F.Files.holds c.find_base.new.files) (g.F.Files.holds c.anew.new.files) c.anew.result
          e.ensures.reads.same offers.news;
      honest = tells_afresh (g.O.Offers.told c.args.offers.now) e.cause (g.F.Files.holds c.args.files.now) (g.F.Files.holds c.find_base.new.files)
          c.anew.result e.ensures.reads.same offers.honest c.anew.ensures.ran.fresh;
    }

pub returns-in-Ok-From-clause-tells : goal.returns-in-Ok-From-clause-tells
returns-in-Ok-From-clause-tells g c =
    let e = c.in-Ok-From in
    let offers = c.from.ensures.offers in
    record {
      reused = offers.reused;
      new = offers.new;
      news = told_from e.field-0 e.base (g.F.Files.holds c.args.files.now) (g.F.Files.holds c.find_base.new.files) (g.F.Files.holds c.from.new.files)
          c.from.result e.field-0-is e.ensures.starts e.ensures.reads.same (offers.news refl);
      honest = tells_stored (g.O.Offers.told c.args.offers.now) e.field-0 e.base (g.F.Files.holds c.args.files.now) (g.F.Files.holds c.find_base.new.files)
          (g.F.Files.holds c.from.new.files) c.from.result e.field-0-is e.ensures.starts e.ensures.reads.same c.from.ensures.clean (offers.honest refl);
    }

pub returns-in-Err-Failed-clause-tells : goal.returns-in-Err-Failed-clause-tells
returns-in-Err-Failed-clause-tells g c = offers_fault_of (g.F.Files.holds c.args.files.now) _ _ _

pub returns-in-Err-OutOfMemory-clause-tells : goal.returns-in-Err-OutOfMemory-clause-tells
returns-in-Err-OutOfMemory-clause-tells g c = offers_fault_of (g.F.Files.holds c.args.files.now) _ _ _
