use Rattle.pie_value.specs.Canonical.{IsEncodableTask}
use Rattle.std.specs.List.{All}
use Rattle.std.proofs.Common.{◌≡◌, ◌++◌, ◌∙◌, Vec, Global, ap, true, false, map, rules, subst, sym}
use Rattle.pie_checks.specs.declared.built.Built.{Built}
use Rattle.pie_results.specs.inner.Files.{contents_in}
use Rattle.pie_value.specs.declared.task.Task.{Task}
use Rattle.pie_topdown_build.specs.declared.base.Base.{Base}
use Rattle.pie_topdown_build.specs.inner.Bases.{IsSealedIf}
use Rattle.pie_topdown_build.specs.inner.Clean.{RunsAsClean}
use Rattle.pie_topdown_build.specs.inner.Crashes.{Endures, EndsRun}
use Rattle.pie_topdown_build.proofs.Crashing.{evaluated_endures}
use Rattle.pie_topdown_build.specs.inner.News.{as_told, news_in, TellsNews}
use Rattle.pie_topdown_build.specs.inner.Stored.{IsBegunFrom}
use Rattle.pie_topdown_build.specs.inner.Records.{TellsOf}
use Rattle.pie_topdown_build.proofs.Handing.{told_of_made}
use Rattle.pie_topdown_build.proofs.Offering.{made_tells}
use Rattle.pie_incremental.proofs.Joining.{rest_then, still_there, told_encodable, told_report}
use Rattle.pie_topdown_build.specs.inner.Ran.{RunsBy}
use Rattle.pie_topdown_build.specs.inner.Reused.{InByteOrder}
use Rattle.pie_topdown_build.specs.inner.Said.{CanSettle}
use Rattle.pie_topdown_build.proofs.Running.{runs_clean}
use Rattle.pie_topdown_build.proofs.Reasons.{runs_ran}
use Rattle.pie_topdown_build.proofs.Saying.{stays_still}
use Rattle.pie_topdown_build.proofs.joining.run.Goals as goal

pub evaluate-requires : goal.evaluate-requires
evaluate-requires g c =
    subst (λ (b : Base). CanSettle b.image c.args.project.now) (sym c.into_inner-image.ensures)
    (record { image = c.requires.base.image; names = c.requires.names; funcs = c.requires.funcs; roots = c.requires.roots })

pub since-requires : goal.since-requires
since-requires g c =
    let started = c.in_ok-built.ensures.starts.started in
    still_there c.count-before.result c.args.runs.now c.evaluate.new.runs c.count-before.ensures
    (record { gained = started.gained; is = started.is; encodable = started.encodable })

pub news_if-requires-clause-ran : goal.news_if-requires-clause-ran
news_if-requires-clause-ran g c =
    let started = c.in_ok-built.ensures.starts.started in
    subst (All IsEncodableTask) (sym c.as_slice-2.ensures.value)
    (told_encodable c.count-before.result c.args.runs.now c.evaluate.new.runs c.in_ok-ran.ran.items c.count-before.ensures
    (record { gained = started.gained; is = started.is; encodable = started.encodable }) c.in_ok-ran.ensures)

pub finish-requires-clause-sealed : goal.finish-requires-clause-sealed
finish-requires-clause-sealed g c = subst (λ (b : Base). IsSealedIf b.store) (sym c.into_inner-image.ensures) c.requires.base.text

pub returns-in-Ok-clause-clean : goal.returns-in-Ok-clause-clean
returns-in-Ok-clause-clean g c =
    let p = c.args.project.now in
    let told = g.O.Offers.told c.args.offers.now in
    let before = g.F.Files.holds c.args.files.now in
    let after = g.F.Files.holds c.finish.new.files in
    let made = c.in_ok-built in
    let r = c.in-Ok.report.value in
    subst (λ (b : Base). RunsAsClean b p told before after r) c.into_inner-image.ensures
    (runs_clean c.into_inner-image.result p told before (g.F.Files.holds c.evaluate.new.files) after c.args.runs.now c.evaluate.new.runs
    made.field-0.reused.items made.field-0.built.value r made.ensures.reads.same made.ensures.clean made.ensures.files c.in-Ok.ensures.left c.in-Ok.ensures.report.verdict c.in-Ok.ensures.report.fresh)

pub returns-in-Ok-clause-offers : goal.returns-in-Ok-clause-offers
returns-in-Ok-clause-offers g c =
    let p = c.args.project.now in
    let funcs = p.digests.items in
    let offers = g.O.Offers.told c.args.offers.now in
    let before = g.F.Files.holds c.args.files.now in
    let after = g.F.Files.holds c.finish.new.files in
    let e = c.in_ok-built in
    let b = e.field-0.built.value in
    let r = c.in-Ok.report.value in
    let ran = c.in_ok-ran.ran.items in
    let told = map as_told c.in_ok-new.new.items in
    let report = c.in-Ok.ensures.report in
    let made : c.deref.result.now ≡ b = search rules in
    let gained : c.evaluate.new.runs ≡ c.args.runs.now ++ r.ran.items =
    (let started = e.ensures.starts.started in
    told_report c.count-before.result c.args.runs.now c.evaluate.new.runs c.in_ok-ran.ran r c.count-before.ensures
    (record { gained = started.gained; is = started.is; encodable = started.encodable }) c.in_ok-ran.ensures report.ran).0 in
    record {
      reused = c.in_ok-reused.ensures.encodable;
      new = c.in_ok-new.ensures.new;
      news = λ on.
          let tells : told ≡ news_in funcs b.rows.items (contents_in b.files.items) ran =
          c.in_ok-new.ensures.news on
          ∙ ap (λ (x : Built). news_in funcs x.rows.items (contents_in x.files.items) c.as_slice-2.result.now) made
          ∙ ap (news_in funcs b.rows.items (contents_in b.files.items)) c.as_slice-2.ensures.value in
          subst (λ (x : Base). TellsNews (IsBegunFrom x.store) funcs before after r.verdict r.ran.items told) c.into_inner-image.ensures
          (told_of_made funcs c.into_inner-image.result.store b r ran before (g.F.Files.holds c.evaluate.new.files) after told tells
          (ap (λ (v : Vec Task Global). v.items) report.ran) report.verdict e.ensures.reads.same c.in-Ok.ensures.stores.stored);
      honest = λ on.
          let tells : told ≡ news_in funcs b.rows.items (contents_in b.files.items) r.ran.items =
          c.in_ok-new.ensures.news on
          ∙ ap (λ (x : Built). news_in funcs x.rows.items (contents_in x.files.items) c.as_slice-2.result.now) made
          ∙ ap (news_in funcs b.rows.items (contents_in b.files.items))
          (c.as_slice-2.ensures.value ∙ sym (ap (λ (v : Vec Task Global). v.items) report.ran)) in
          subst (λ (x : Base). TellsOf before p x.image offers r.verdict r.ran.items told) c.into_inner-image.ensures
          (made_tells p c.into_inner-image.result.image offers before c.args.runs.now c.evaluate.new.runs e.field-0.reused.items b r.verdict r.ran.items told
          e.ensures.clean e.ensures.files e.ensures.made gained report.verdict c.in-Ok.ensures.stores.rows_are tells);
    }

pub returns-in-Ok-clause-runs : goal.returns-in-Ok-clause-runs
returns-in-Ok-clause-runs g c =
    let p = c.args.project.now in
    let told = g.O.Offers.told c.args.offers.now in
    let before = g.F.Files.holds c.args.files.now in
    let made = c.in_ok-built in
    let r = c.in-Ok.report.value in
    let gained : c.evaluate.new.runs ≡ c.args.runs.now ++ r.ran.items =
    (let started = made.ensures.starts.started in
    told_report c.count-before.result c.args.runs.now c.evaluate.new.runs c.in_ok-ran.ran r c.count-before.ensures
    (record { gained = started.gained; is = started.is; encodable = started.encodable }) c.in_ok-ran.ensures c.in-Ok.ensures.report.ran).0 in
    let slice : c.as_slice.result.now ≡ made.field-0.reused.items = search rules in
    subst (λ (b : Base). RunsBy b p told before r c.in_ok-reused.reused.items) c.into_inner-image.ensures
    (runs_ran c.into_inner-image.result p told before c.args.runs.now c.evaluate.new.runs made.field-0.reused.items c.in_ok-reused.reused.items
    made.field-0.built.value r (subst (λ ts. InByteOrder ts c.in_ok-reused.reused.items) slice c.in_ok-reused.ensures.order) made.ensures.runs
    c.in-Ok.ensures.report.verdict gained)

pub returns-in-Ok-clause-ran : goal.returns-in-Ok-clause-ran
returns-in-Ok-clause-ran g c =
    let starts = c.in_ok-built.ensures.starts in
    let started = starts.started in
    let told = told_report c.count-before.result c.args.runs.now c.evaluate.new.runs c.in_ok-ran.ran c.in-Ok.report.value c.count-before.ensures
    (record { gained = started.gained; is = started.is; encodable = started.encodable }) c.in_ok-ran.ensures c.in-Ok.ensures.report.ran in
    record { ran = told.0; few = starts.few; encodable = told.1 }

pub returns-in-Ok-clause-stays : goal.returns-in-Ok-clause-stays
returns-in-Ok-clause-stays g c =
    let p = c.args.project.now in
    let told = g.O.Offers.told c.args.offers.now in
    let made = c.in_ok-built in
    let settled = true ≡ true in
    record {
      rest = rest_then (g.F.Files.holds c.args.files.now) (g.F.Files.holds c.evaluate.new.files) (g.F.Files.holds c.finish.new.files) made.ensures.reads.same
          c.in-Ok.ensures.stays.rest;
      crash = subst (λ (b : Base). Endures g.F.Files.holds g.F.Files.moment g.F.Files.left_since g.F.Files.images (EndsRun b p told) settled c.args.files.now
          c.finish.new.files) c.into_inner-image.ensures
          (evaluated_endures g.F.Files.holds g.F.Files.moment g.F.Files.left_since g.F.Files.images c.into_inner-image.result p told settled c.args.files.now
          c.evaluate.new.files c.finish.new.files made.field-0.built.value made.ensures.reads.same made.ensures.reads.crash made.ensures.clean
          c.in-Ok.ensures.stays.crash);
    }

pub returns-clause-stays : goal.returns-clause-stays
returns-clause-stays g c =
    let p = c.args.project.now in
    let told = g.O.Offers.told c.args.offers.now in
    let made = c.in_ok-built in
    let settled = false ≡ true in
    record {
      rest = rest_then (g.F.Files.holds c.args.files.now) (g.F.Files.holds c.evaluate.new.files) (g.F.Files.holds c.finish.new.files) made.ensures.reads.same
          c.in-Err.ensures.stays.rest;
      crash = subst (λ (b : Base). Endures g.F.Files.holds g.F.Files.moment g.F.Files.left_since g.F.Files.images (EndsRun b p told) settled c.args.files.now
          c.finish.new.files) c.into_inner-image.ensures
          (evaluated_endures g.F.Files.holds g.F.Files.moment g.F.Files.left_since g.F.Files.images c.into_inner-image.result p told settled c.args.files.now
          c.evaluate.new.files c.finish.new.files made.field-0.built.value made.ensures.reads.same made.ensures.reads.crash made.ensures.clean
          c.in-Err.ensures.stays.crash);
    }

pub returns-in_err-built-clause-stays : goal.returns-in_err-built-clause-stays
returns-in_err-built-clause-stays g c =
    stays_still g.F.Files.holds g.F.Files.moment g.F.Files.left_since g.F.Files.images _ _ c.args.files.now c.evaluate.new.files
    c.in_err-built.ensures.reads.same c.in_err-built.ensures.reads.crash

pub returns-in_err-ran-clause-stays : goal.returns-in_err-ran-clause-stays
returns-in_err-ran-clause-stays g c =
    stays_still g.F.Files.holds g.F.Files.moment g.F.Files.left_since g.F.Files.images _ _ c.args.files.now c.evaluate.new.files
    c.in_ok-built.ensures.reads.same c.in_ok-built.ensures.reads.crash

pub returns-in_err-reused-clause-stays : goal.returns-in_err-reused-clause-stays
returns-in_err-reused-clause-stays g c =
    stays_still g.F.Files.holds g.F.Files.moment g.F.Files.left_since g.F.Files.images _ _ c.args.files.now c.evaluate.new.files
    c.in_ok-built.ensures.reads.same c.in_ok-built.ensures.reads.crash

pub returns-in_err-new-clause-stays : goal.returns-in_err-new-clause-stays
returns-in_err-new-clause-stays g c =
    stays_still g.F.Files.holds g.F.Files.moment g.F.Files.left_since g.F.Files.images _ _ c.args.files.now c.evaluate.new.files
    c.in_ok-built.ensures.reads.same c.in_ok-built.ensures.reads.crash
