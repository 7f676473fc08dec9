use Rattle.std.proofs.Common.{rules, ◌≡◌, true, false, subst}
use Rattle.std.specs.Prelude.{IfSome, IsOk}
use Rattle.pie_incremental.specs.declared.ending.Ending.{Ending}
use Rattle.pie_incremental.specs.Crashes.{MarkedBy}
use Rattle.pie_incremental.specs.inner.Asked.{AsksEach, AsksWhere}
use Rattle.pie_incremental.specs.inner.Cleaned.{LeavesBy, MayLeaveBy}
use Rattle.pie_incremental.specs.inner.Crashed.{MayGo}
use Rattle.pie_incremental.specs.inner.Evaluated.{EvaluatesExact, MakesExact, StopsWhere}
use Rattle.pie_incremental.specs.inner.Marked.{EndsBy, EndsGo}
use Rattle.pie_incremental.specs.inner.Parts.{Endures}
use Rattle.pie_incremental.specs.inner.Ran.{BeginsEach, RunsEach, RunsWhere}
use Rattle.pie_incremental.proofs.Asked.{goes_asking}
use Rattle.pie_incremental.proofs.Crashing.{go_first}
use Rattle.pie_incremental.proofs.Joining.{told_report}
use Rattle.pie_incremental.proofs.Parts.{endures_end, endures_settled, endures_still, no_answer}
use Rattle.pie_incremental.proofs.Running.{told_reasons}
use Rattle.pie_incremental.proofs.Updating.{goes_clean}
use Rattle.pie_incremental.proofs.run.go_on.Goals as goal

pub returns-in_ok-report-in-Built-clause-updates : goal.returns-in_ok-report-in-Built-clause-updates
returns-in_ok-report-in-Built-clause-updates g c =
    let s = c.args.begun.image.value in
    let e = c.args.begun.ending.value in
    let p = c.args.project.now in
    let before = g.F.Files.holds c.args.files.now in
    let mid = g.F.Files.holds c.evaluate.new.files in
    let after = g.F.Files.holds c.finish.new.files in
    let asked = g.F.Files.asked c.args.files.now in
    let asked_mid = g.F.Files.asked c.evaluate.new.files in
    let b = c.in-Built.built.value in
    let report = c.in_ok-report-in-Built in
    let r = report.report.value in
    let names : c.as_slice.result.now ≡ e.names.items = search rules in
    let ending : c.deref-in-Built.result.now ≡ e = search rules in
    let evaluated : MakesExact before p.typed p.digests.items p.roots.items s c.as_slice.result.now b =
    subst (EvaluatesExact before p.typed p.digests.items p.roots.items s c.as_slice.result.now) c.in-Built.is c.in_ok-built.ensures.exact in
    let makes : MakesExact before p.typed p.digests.items p.roots.items s e.names.items b =
    subst (λ ns. MakesExact before p.typed p.digests.items p.roots.items s ns b) names evaluated in
    let leaves : IfSome mid (λ d. LeavesBy b.verdict e.own e.held p.digests.items p.roots.items b d r after) =
    subst (λ (x : Ending). IfSome mid (λ d. LeavesBy b.verdict x.own x.held p.digests.items p.roots.items b d r after)) ending report.ensures.left in
    let runs : RunsEach before p.typed p.digests.items p.roots.items s e.names.items c.args.runs.now c.evaluate.new.runs =
    subst (λ ns. RunsEach before p.typed p.digests.items p.roots.items s ns c.args.runs.now c.evaluate.new.runs) names
    (subst (RunsWhere before p.typed p.digests.items p.roots.items s c.as_slice.result.now c.args.runs.now c.evaluate.new.runs) c.in-Built.is
    c.in_ok-built.ensures.ran) in
    let asks : AsksEach before p.typed p.digests.items p.roots.items s c.as_slice.result.now c.args.runs.now c.evaluate.new.runs asked asked_mid =
    subst (AsksWhere before p.typed p.digests.items p.roots.items s c.as_slice.result.now c.args.runs.now c.evaluate.new.runs asked asked_mid) c.in-Built.is
    c.in_ok-built.ensures.asks in
    record {
      clean = goes_clean s e p before mid after b r c.in_ok-built.ensures.reads.same makes leaves report.ensures.report.verdict report.ensures.report.fresh
          (told_reasons before p.typed p.digests.items p.roots.items s e.names.items c.count-before.result c.args.runs.now c.evaluate.new.runs
          c.in_ok-ran-in-Built.ran r c.count-before.ensures runs c.in_ok-ran-in-Built.ensures report.ensures.report.ran);
      asks = goes_asking s e p before c.as_slice.result.now c.count-before.result c.args.runs.now c.evaluate.new.runs c.in_ok-ran-in-Built.ran report.report
          asked asked_mid (g.F.Files.asked c.finish.new.files) names c.count-before.ensures c.in_ok-ran-in-Built.ensures report.ensures.report.ran asks
          c.finish.ensures.calls.asks;
      before = tt;
    }

pub returns-in_ok-stop-in-Afresh-clause-updates : goal.returns-in_ok-stop-in-Afresh-clause-updates
returns-in_ok-stop-in-Afresh-clause-updates g c =
    let s = c.args.begun.image.value in
    let e = c.args.begun.ending.value in
    let p = c.args.project.now in
    let before = g.F.Files.holds c.args.files.now in
    let cause = c.in-Afresh.cause in
    let names : c.as_slice.result.now ≡ e.names.items = search rules in
    let same : cause ≡ c.in_ok-stop-in-Afresh.stop.value.cause = search rules in
    let stops : StopsWhere before p.typed p.digests.items p.roots.items s c.as_slice.result.now cause =
    subst (EvaluatesExact before p.typed p.digests.items p.roots.items s c.as_slice.result.now) c.in-Afresh.is c.in_ok-built.ensures.exact in
    let begins : BeginsEach before p.typed p.digests.items p.roots.items s c.as_slice.result.now cause c.args.runs.now c.evaluate.new.runs =
    subst (RunsWhere before p.typed p.digests.items p.roots.items s c.as_slice.result.now c.args.runs.now c.evaluate.new.runs) c.in-Afresh.is
    c.in_ok-built.ensures.ran in
    record {
      clean = subst (StopsWhere before p.typed p.digests.items p.roots.items s e.names.items) same
          (subst (λ ns. StopsWhere before p.typed p.digests.items p.roots.items s ns cause) names stops);
      asks = tt;
      before = subst (λ x. BeginsEach before p.typed p.digests.items p.roots.items s e.names.items x c.args.runs.now c.evaluate.new.runs) same
          (subst (λ ns. BeginsEach before p.typed p.digests.items p.roots.items s ns cause c.args.runs.now c.evaluate.new.runs) names begins);
    }

pub returns-in_ok-report-in-Built-clause-files : goal.returns-in_ok-report-in-Built-clause-files
returns-in_ok-report-in-Built-clause-files g c =
    let s = c.args.begun.image.value in
    let e = c.args.begun.ending.value in
    let p = c.args.project.now in
    let before = g.F.Files.holds c.args.files.now in
    let b = c.in-Built.built.value in
    let settled = true ≡ true in
    let names : c.as_slice.result.now ≡ e.names.items = search rules in
    let ending : c.deref-in-Built.result.now ≡ e = search rules in
    let evaluated : MakesExact before p.typed p.digests.items p.roots.items s c.as_slice.result.now b =
    subst (EvaluatesExact before p.typed p.digests.items p.roots.items s c.as_slice.result.now) c.in-Built.is c.in_ok-built.ensures.exact in
    endures_end g.F.Files.holds g.F.Files.moment g.F.Files.left_since g.F.Files.images s e p c.args.files.now c.evaluate.new.files c.finish.new.files b settled
    c.in_ok-built.ensures.reads.same c.in_ok-built.ensures.reads.crash
    (subst (λ ns. MakesExact before p.typed p.digests.items p.roots.items s ns b) names evaluated)
    (subst (λ (x : Ending). Endures g.F.Files.holds g.F.Files.moment g.F.Files.left_since g.F.Files.images
    (MayLeaveBy b.verdict x.own x.held p.digests.items p.roots.items b x.names.items)
    (MarkedBy (EndsBy b.verdict x.own x.held p.digests.items p.roots.items b x.names.items)) settled c.evaluate.new.files c.finish.new.files) ending
    c.in_ok-report-in-Built.ensures.files)

pub returns-in_err-report-in-Built-clause-files : goal.returns-in_err-report-in-Built-clause-files
returns-in_err-report-in-Built-clause-files g c =
    let s = c.args.begun.image.value in
    let e = c.args.begun.ending.value in
    let p = c.args.project.now in
    let before = g.F.Files.holds c.args.files.now in
    let b = c.in-Built.built.value in
    let given = c.from_residual-in_err-report-in-Built in
    let settled = false ≡ true in
    let names : c.as_slice.result.now ≡ e.names.items = search rules in
    let ending : c.deref-in-Built.result.now ≡ e = search rules in
    let evaluated : MakesExact before p.typed p.digests.items p.roots.items s c.as_slice.result.now b =
    subst (EvaluatesExact before p.typed p.digests.items p.roots.items s c.as_slice.result.now) c.in-Built.is c.in_ok-built.ensures.exact in
    endures_settled g.F.Files.holds g.F.Files.moment g.F.Files.left_since g.F.Files.images (MayGo s e p) (MarkedBy (EndsGo s e p)) settled (IsOk given.result)
    c.args.files.now c.finish.new.files (λ ok. no_answer given.result given.ensures.0 ok)
    (endures_end g.F.Files.holds g.F.Files.moment g.F.Files.left_since g.F.Files.images s e p c.args.files.now c.evaluate.new.files c.finish.new.files b settled
    c.in_ok-built.ensures.reads.same c.in_ok-built.ensures.reads.crash
    (subst (λ ns. MakesExact before p.typed p.digests.items p.roots.items s ns b) names evaluated)
    (subst (λ (x : Ending). Endures g.F.Files.holds g.F.Files.moment g.F.Files.left_since g.F.Files.images
    (MayLeaveBy b.verdict x.own x.held p.digests.items p.roots.items b x.names.items)
    (MarkedBy (EndsBy b.verdict x.own x.held p.digests.items p.roots.items b x.names.items)) settled c.evaluate.new.files c.finish.new.files) ending
    c.in_err-report-in-Built.ensures.files))

pub returns-in_err-built-clause-files : goal.returns-in_err-built-clause-files
returns-in_err-built-clause-files g c =
    let s = c.args.begun.image.value in
    let e = c.args.begun.ending.value in
    let p = c.args.project.now in
    endures_still g.F.Files.holds g.F.Files.moment g.F.Files.left_since g.F.Files.images (MayGo s e p) (EndsGo s e p) _ (go_first s e p) c.args.files.now
    c.evaluate.new.files c.in_err-built.ensures.reads.same c.in_err-built.ensures.reads.crash

pub returns-in_err-ran-in-Built-clause-files : goal.returns-in_err-ran-in-Built-clause-files
returns-in_err-ran-in-Built-clause-files g c =
    let s = c.args.begun.image.value in
    let e = c.args.begun.ending.value in
    let p = c.args.project.now in
    endures_still g.F.Files.holds g.F.Files.moment g.F.Files.left_since g.F.Files.images (MayGo s e p) (EndsGo s e p) _ (go_first s e p) c.args.files.now
    c.evaluate.new.files c.in_ok-built.ensures.reads.same c.in_ok-built.ensures.reads.crash

pub returns-in_ok-stop-in-Afresh-clause-files : goal.returns-in_ok-stop-in-Afresh-clause-files
returns-in_ok-stop-in-Afresh-clause-files g c =
    let s = c.args.begun.image.value in
    let e = c.args.begun.ending.value in
    let p = c.args.project.now in
    endures_still g.F.Files.holds g.F.Files.moment g.F.Files.left_since g.F.Files.images (MayGo s e p) (EndsGo s e p) _ (go_first s e p) c.args.files.now
    c.evaluate.new.files c.in_ok-built.ensures.reads.same c.in_ok-built.ensures.reads.crash

pub returns-in_err-stop-in-Afresh-clause-files : goal.returns-in_err-stop-in-Afresh-clause-files
returns-in_err-stop-in-Afresh-clause-files g c =
    let s = c.args.begun.image.value in
    let e = c.args.begun.ending.value in
    let p = c.args.project.now in
    endures_still g.F.Files.holds g.F.Files.moment g.F.Files.left_since g.F.Files.images (MayGo s e p) (EndsGo s e p) _ (go_first s e p) c.args.files.now
    c.evaluate.new.files c.in_ok-built.ensures.reads.same c.in_ok-built.ensures.reads.crash

pub returns-in_ok-report-in-Built-clause-runs : goal.returns-in_ok-report-in-Built-clause-runs
returns-in_ok-report-in-Built-clause-runs g c =
    let report = c.in_ok-report-in-Built in
    record {
      ran = told_report c.count-before.result c.args.runs.now c.evaluate.new.runs c.in_ok-ran-in-Built.ran report.report.value c.count-before.ensures
          c.in_ok-built.ensures.runs.started c.in_ok-ran-in-Built.ensures report.ensures.report.ran;
      few = c.in_ok-built.ensures.runs.few;
    }
