use Rattle.std.specs.Prelude.{IsOk}
use Rattle.pie_incremental.specs.inner.Crashed.{MayRun}
use Rattle.pie_incremental.specs.inner.Marked.{EndsRun}
use Rattle.pie_incremental.proofs.Asked.{runs_asking}
use Rattle.pie_incremental.proofs.Crashing.{run_first}
use Rattle.pie_incremental.proofs.Parts.{endures_begun, endures_still, stops_then}
use Rattle.pie_incremental.proofs.Updating.{begins_ok, runs_ok}
use Rattle.pie_incremental.proofs.run.run.Goals as goal

pub returns-clause-updates : goal.returns-clause-updates
returns-clause-updates g c =
    let b = c.args.base.value in
    let p = c.args.project.now in
    let list = c.args.changes.now in
    let e = c.in_ok-begun.begun.ending.value in
    let s = c.in_ok-begun.begun.image.value in
    let before = g.F.Files.holds c.args.files.now in
    let mid = g.F.Files.holds c.begin.new.files in
    let h = c.in_ok-begun.ensures in
    record {
      clean = runs_ok b e p list s before mid (g.F.Files.holds c.go_on.new.files) c.go_on.result h.reads.same h.ending h.known h.digested
          c.go_on.ensures.updates.clean;
      asks = runs_asking b e p list s before mid (g.F.Files.asked c.args.files.now) (g.F.Files.asked c.begin.new.files) (g.F.Files.asked c.go_on.new.files)
          c.go_on.result h.reads.same h.ending h.known h.digested h.asks c.go_on.ensures.updates.asks;
      before = begins_ok b e p list s before mid c.args.runs.now c.go_on.new.runs c.go_on.result h.reads.same h.ending h.known h.digested
          c.go_on.ensures.updates.before;
    }

pub returns-clause-files : goal.returns-clause-files
returns-clause-files g c =
    let b = c.in_ok-begun in
    endures_begun g.F.Files.holds g.F.Files.moment g.F.Files.left_since g.F.Files.images c.args.base.value b.begun.ending.value c.args.project.now
    c.args.changes.now b.begun.image.value c.args.files.now c.begin.new.files c.go_on.new.files (IsOk c.go_on.result) b.ensures.reads.same
    b.ensures.reads.crash b.ensures.ending b.ensures.known b.ensures.digested c.go_on.ensures.files

pub returns-in_err-begun-clause-files : goal.returns-in_err-begun-clause-files
returns-in_err-begun-clause-files g c =
    let b = c.args.base.value in
    let p = c.args.project.now in
    let list = c.args.changes.now in
    endures_still g.F.Files.holds g.F.Files.moment g.F.Files.left_since g.F.Files.images (MayRun b p list) (EndsRun b p list) _ (run_first b p list)
    c.args.files.now c.begin.new.files c.in_err-begun.ensures.reads.same c.in_err-begun.ensures.reads.crash

pub returns-clause-stops : goal.returns-clause-stops
returns-clause-stops g c =
    stops_then g.F.Files.holds g.F.Files.moment g.F.Files.left_since g.F.Files.images c.args.files.now c.begin.new.files c.go_on.new.files c.go_on.result
    c.in_ok-begun.ensures.reads.same c.in_ok-begun.ensures.reads.crash c.go_on.ensures.stops
