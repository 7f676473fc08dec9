use Rattle.std.proofs.Common.{◌≡◌, ◌++◌, Some, map, refl, rules, subst, sym}
use Rattle.std.specs.Prelude.{All, IfSome}
use Rattle.pie_value.specs.Canonical.{IsEncodableTask}
use Rattle.pie_report.specs.declared.report.Report.{Report}
use Rattle.pie_topdown_build.specs.inner.Clean.{FromAsClean}
use Rattle.pie_topdown_build.specs.Refusals.{KeepsRefused}
use Rattle.pie_topdown_build.specs.declared.offered.Offered.{Offered}
use Rattle.pie_topdown_build.specs.inner.News.{as_told, AreNews}
use Rattle.pie_topdown_build.specs.inner.Stored.{IsBegunFrom}
use Rattle.pie_topdown_build.specs.inner.Records.{TellsFrom}
use Rattle.pie_topdown_build.proofs.Cleanly.{caused_from}
use Rattle.pie_topdown_build.specs.inner.Ran.{FromRuns}
use Rattle.pie_topdown_build.proofs.Offering.{tells_none}
use Rattle.pie_topdown_build.proofs.Reasons.{caused_runs}
use Rattle.pie_topdown_build.proofs.Saying.{offers_fault_of, refuses_none}
use Rattle.pie_topdown_build.proofs.building.anew_from.Goals as goal

pub returns-in-Ok-clause-clean : goal.returns-in-Ok-clause-clean
returns-in-Ok-clause-clean g c =
    let b = c.args.base.value in
    let told = g.O.Offers.told c.args.offers.now in
    let before = g.F.Files.holds c.args.files.now in
    let after = g.F.Files.holds c.from.new.files in
    let r = c.deref_mut.result.now in
    let same : r ≡ c.in-Ok.offered.report.value = search rules in
    caused_from told before after b r _ (Some c.args.cause) refl
    (subst (λ (x : Report). FromAsClean b told before after x) (sym same) c.in-Ok.ensures.clean)

pub returns-in-Ok-clause-runs : goal.returns-in-Ok-clause-runs
returns-in-Ok-clause-runs g c =
    let b = c.args.base.value in
    let told = g.O.Offers.told c.args.offers.now in
    let before = g.F.Files.holds c.args.files.now in
    let o = c.in-Ok.offered in
    let r = c.deref_mut.result.now in
    let same : r ≡ o.report.value = search rules in
    caused_runs told before b r _ o.reused.items (Some c.args.cause) refl
    (subst (λ (x : Report). FromRuns b told before x o.reused.items) (sym same) c.in-Ok.ensures.runs)

pub returns-in-Ok-clause-offers : goal.returns-in-Ok-clause-offers
returns-in-Ok-clause-offers g c =
    let b = c.args.base.value in
    let told = g.O.Offers.told c.args.offers.now in
    let before = g.F.Files.holds c.args.files.now in
    let after = g.F.Files.holds c.from.new.files in
    let o = c.in-Ok.offered in
    let offers = c.in-Ok.ensures.offers in
    let r = c.deref_mut.result.now in
    let same : r ≡ o.report.value = search rules in
    record {
      reused = offers.reused;
      new = offers.new;
      news = subst (λ (x : Report). AreNews (IsBegunFrom b.store) before after x.verdict x.ran.items (map as_told o.new.items)) (sym same) (offers.news refl);
      honest = tells_none told before b r.verdict r.ran.items (map as_told o.new.items)
          (subst (λ (x : Report). TellsFrom b told before x.verdict x.ran.items (map as_told o.new.items)) (sym same) (offers.honest refl));
    }

pub returns-in-Err-clause-offers : goal.returns-in-Err-clause-offers
returns-in-Err-clause-offers g c = offers_fault_of (g.F.Files.holds c.args.files.now) _ _ _

pub returns-in-Ok-clause-stays : goal.returns-in-Ok-clause-stays
returns-in-Ok-clause-stays g c = record { rest = c.in-Ok.ensures.stays.rest; crash = c.in-Ok.ensures.stays.crash }

pub returns-in-Err-clause-stays : goal.returns-in-Err-clause-stays
returns-in-Err-clause-stays g c = record { rest = c.in-Err.ensures.stays.rest; crash = c.in-Err.ensures.stays.crash }

pub returns-in-Ok-clause-refuses : goal.returns-in-Ok-clause-refuses
returns-in-Ok-clause-refuses g c =
    let before = g.F.Files.holds c.args.files.now in
    let after = g.F.Files.holds c.from.new.files in
    let same : c.deref_mut.result.now ≡ c.in-Ok.offered.report.value = search rules in
    refuses_none (λ (o : Offered). o.report.value) before after _
    (subst (λ (x : Report). IfSome before (λ d. KeepsRefused x.verdict d after)) (sym same) c.in-Ok.ensures.refuses.kept)

pub returns-in-Err-clause-refuses : goal.returns-in-Err-clause-refuses
returns-in-Err-clause-refuses g c = c.in-Err.ensures.refuses

pub returns-in-Ok-clause-ran : goal.returns-in-Ok-clause-ran
returns-in-Ok-clause-ran g c =
    let ran = c.in-Ok.ensures.ran in
    let same : c.deref_mut.result.now ≡ c.in-Ok.offered.report.value = search rules in
    record {
      fresh = refl;
      ran = subst (λ (x : Report). c.from.new.runs ≡ c.args.runs.now ++ x.ran.items) (sym same) ran.ran;
      few = ran.few;
      encodable = subst (λ (x : Report). All IsEncodableTask x.ran.items) (sym same) ran.encodable;
    }

pub returns-in-Err-clause-ran : goal.returns-in-Err-clause-ran
returns-in-Err-clause-ran g c = record { fresh = tt; ran = tt; few = c.from.ensures.ran.few; encodable = tt }
