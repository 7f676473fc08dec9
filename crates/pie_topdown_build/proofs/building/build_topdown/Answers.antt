use Rattle.pie_incremental.proofs.Joining.{rest_then}
use Rattle.pie_project.specs.Refusals.{IsVerdict}
use Rattle.pie_project.specs.declared.fault.BuildError.TheVariants as errors
use Rattle.pie_report.specs.declared.report.Report.{Report}
use Rattle.pie_topdown_build.proofs.Cleanly.{afresh_cleans, from_cleans}
use Rattle.pie_topdown_build.proofs.Crashing.{afresh_endures, from_endures}
use Rattle.pie_topdown_build.proofs.Reasons.{afresh_runs, store_runs}
use Rattle.pie_topdown_build.proofs.Saying.{refuses_fault, refuses_then, runs_none, stays_still}
use Rattle.pie_topdown_build.proofs.building.build_topdown.Goals as goal

pub returns-in-Ok-Afresh-clause-stays : goal.returns-in-Ok-Afresh-clause-stays
returns-in-Ok-Afresh-clause-stays g c =
    let e = c.in-Ok-Afresh in
    record {
      rest = rest_then (g.F.Files.holds c.args.files.now) (g.F.Files.holds c.find_base.new.files) (g.F.Files.holds c.afresh.new.files) e.ensures.reads.same
          c.afresh.ensures.stays.rest;
      crash = afresh_endures g.F.Files.holds g.F.Files.moment g.F.Files.left_since g.F.Files.images e.field-0 (IsVerdict c.afresh.result) c.args.files.now
          c.find_base.new.files c.afresh.new.files e.ensures.reads.same e.ensures.reads.crash e.cause e.field-0-is e.ensures.only c.afresh.ensures.stays.crash;
    }

pub returns-in-Ok-From-clause-stays : goal.returns-in-Ok-From-clause-stays
returns-in-Ok-From-clause-stays g c =
    let e = c.in-Ok-From in
    record {
      rest = rest_then (g.F.Files.holds c.args.files.now) (g.F.Files.holds c.find_base.new.files) (g.F.Files.holds c.from_store.new.files) e.ensures.reads.same
          c.from_store.ensures.stays.rest;
      crash = from_endures g.F.Files.holds g.F.Files.moment g.F.Files.left_since g.F.Files.images e.field-0 (IsVerdict c.from_store.result) c.args.files.now
          c.find_base.new.files c.from_store.new.files e.ensures.reads.same e.ensures.reads.crash e.base e.field-0-is e.ensures.starts
          c.from_store.ensures.stays.crash;
    }

pub returns-in-Err-Failed-clause-stays : goal.returns-in-Err-Failed-clause-stays
returns-in-Err-Failed-clause-stays g c =
    stays_still g.F.Files.holds g.F.Files.moment g.F.Files.left_since g.F.Files.images _ _ c.args.files.now c.find_base.new.files
    c.in-Err-Failed.ensures.reads.same c.in-Err-Failed.ensures.reads.crash

pub returns-in-Err-OutOfMemory-clause-stays : goal.returns-in-Err-OutOfMemory-clause-stays
returns-in-Err-OutOfMemory-clause-stays g c =
    stays_still g.F.Files.holds g.F.Files.moment g.F.Files.left_since g.F.Files.images _ _ c.args.files.now c.find_base.new.files
    c.in-Err-OutOfMemory.ensures.reads.same c.in-Err-OutOfMemory.ensures.reads.crash

pub returns-in-Ok-Afresh-clause-refuses : goal.returns-in-Ok-Afresh-clause-refuses
returns-in-Ok-Afresh-clause-refuses g c =
    refuses_then (λ (r : Report). r) (g.F.Files.holds c.args.files.now) (g.F.Files.holds c.find_base.new.files) (g.F.Files.holds c.afresh.new.files)
    c.afresh.result c.in-Ok-Afresh.ensures.reads.same c.afresh.ensures.refuses

pub returns-in-Ok-From-clause-refuses : goal.returns-in-Ok-From-clause-refuses
returns-in-Ok-From-clause-refuses g c =
    refuses_then (λ (r : Report). r) (g.F.Files.holds c.args.files.now) (g.F.Files.holds c.find_base.new.files) (g.F.Files.holds c.from_store.new.files)
    c.from_store.result c.in-Ok-From.ensures.reads.same c.from_store.ensures.refuses

pub returns-in-Err-Failed-clause-refuses : goal.returns-in-Err-Failed-clause-refuses
returns-in-Err-Failed-clause-refuses g c =
    refuses_fault (λ (r : Report). r) (g.F.Files.holds c.args.files.now) (g.F.Files.holds c.find_base.new.files) errors.Files (λ h. h)

pub returns-in-Err-OutOfMemory-clause-refuses : goal.returns-in-Err-OutOfMemory-clause-refuses
returns-in-Err-OutOfMemory-clause-refuses g c =
    refuses_fault (λ (r : Report). r) (g.F.Files.holds c.args.files.now) (g.F.Files.holds c.find_base.new.files) errors.OutOfMemory (λ h. h)

pub returns-in-Ok-Afresh-clause-clean : goal.returns-in-Ok-Afresh-clause-clean
returns-in-Ok-Afresh-clause-clean g c =
    let e = c.in-Ok-Afresh in
    afresh_cleans e.field-0 e.cause (g.F.Files.holds c.args.files.now) (g.F.Files.holds c.find_base.new.files) (g.F.Files.holds c.afresh.new.files)
    c.afresh.result e.field-0-is e.ensures.starts e.ensures.reads.same c.afresh.ensures.clean c.afresh.ensures.ran.fresh

pub returns-in-Ok-From-clause-clean : goal.returns-in-Ok-From-clause-clean
returns-in-Ok-From-clause-clean g c =
    let e = c.in-Ok-From in
    from_cleans e.field-0 e.base (g.F.Files.holds c.args.files.now) (g.F.Files.holds c.find_base.new.files) (g.F.Files.holds c.from_store.new.files)
    c.from_store.result e.field-0-is e.ensures.starts e.ensures.reads.same c.from_store.ensures.clean

pub returns-in-Ok-Afresh-clause-runs : goal.returns-in-Ok-Afresh-clause-runs
returns-in-Ok-Afresh-clause-runs g c =
    let e = c.in-Ok-Afresh in
    afresh_runs e.cause (g.F.Files.holds c.args.files.now) c.afresh.result c.afresh.ensures.ran.fresh

pub returns-in-Ok-From-clause-runs : goal.returns-in-Ok-From-clause-runs
returns-in-Ok-From-clause-runs g c =
    let e = c.in-Ok-From in
    store_runs e.field-0 e.base (g.F.Files.holds c.args.files.now) (g.F.Files.holds c.find_base.new.files) c.from_store.result e.field-0-is e.ensures.starts
    e.ensures.reads.same c.from_store.ensures.runs

pub returns-in-Ok-Afresh-clause-ran : goal.returns-in-Ok-Afresh-clause-ran
returns-in-Ok-Afresh-clause-ran g c =
    let ran = c.afresh.ensures.ran in
    record { ran = ran.ran; few = ran.few; encodable = ran.encodable }

pub returns-in-Ok-From-clause-ran : goal.returns-in-Ok-From-clause-ran
returns-in-Ok-From-clause-ran g c = c.from_store.ensures.ran

pub returns-in-Err-Failed-clause-ran : goal.returns-in-Err-Failed-clause-ran
returns-in-Err-Failed-clause-ran g c = runs_none c.args.runs.now _ (λ (r : Report). r)

pub returns-in-Err-OutOfMemory-clause-ran : goal.returns-in-Err-OutOfMemory-clause-ran
returns-in-Err-OutOfMemory-clause-ran g c = runs_none c.args.runs.now _ (λ (r : Report). r)
