use Rattle.std.proofs.Common.{rules, ◌≡◌, ℕ, false, length, refl, subst}
use Rattle.std.specs.Prelude.{IfSome, OnOk, IsOk}
use Rattle.pie_commit.specs.Outcomes.{HasBrought, IsDone}
use Rattle.pie_commit.specs.declared.plan.Plan.{Plan}
use Rattle.pie_commit.specs.inner.Plans.{is_empty, wanted_by}
use Rattle.pie_incremental.specs.Own.{IsClosed}
use Rattle.pie_incremental.specs.inner.Cleaned.{IsPlanFor, TellsPlan}
use Rattle.pie_incremental.specs.inner.Plans.{HasChanged}
use Rattle.pie_value.specs.declared.verdict.Verdict.TheVariants.{Accepted}
use Rattle.pie_topdown_build.proofs.Leaving.{leaves_by}
use Rattle.pie_topdown_build.proofs.Putting.{put_endures}
use Rattle.pie_topdown_build.proofs.Replacing.{leaves_anew}
use Rattle.pie_topdown_build.proofs.Saying.{stays_none, tells_then}
use Rattle.pie_topdown_build.proofs.Storing.{leaves_rows, rows_planned}
use Rattle.pie_topdown_build.specs.inner.Crashes.{Endures}
use Rattle.pie_topdown_build.proofs.accepting.put_into_place.Goals as goal

pub returns-clause-anew : goal.returns-clause-anew
returns-clause-anew g c =
    let own = c.args.own.now in
    let held = c.args.held.now in
    let outputs = c.args.made.outputs.items in
    let s = c.in_ok-image.image.value in
    let p = c.in_ok-plan.plan.value in
    let r = c.in_ok-report.report.value in
    let before = g.F.Files.holds c.args.files.now in
    let after = g.F.Files.holds c.commit_then.new.files in
    let image : c.deref.result.now ≡ s = search rules in
    let plan : c.deref-2.result.now ≡ p = search rules in
    let again : c.deref-3.result.now ≡ p = search rules in
    let live : c.len-live.result ≡ length c.args.made.rows.items = search rules in
    leaves_anew own held c.args.project.now.digests.items c.args.project.now.roots.items c.args.made.rows.items c.args.made.contents.items outputs s p r
    c.requires.made.contents c.in_ok-image.ensures.parts
    (subst (λ x. IsPlanFor own held x c.args.made.contents.items p) image c.in_ok-plan.ensures.plan)
    (subst (λ (n : ℕ). TellsPlan p n outputs r) live (subst (λ (x : Plan). TellsPlan x c.len-live.result outputs r) plan c.in_ok-report.ensures.tells))
    before after c.in_ok-report.report c.commit_then.result refl c.commit_then.ensures.report
    (subst (λ (x : Plan). is_empty x ≡ false → OnOk c.commit_then.result (HasBrought (wanted_by x) before after)) again c.commit_then.ensures.brought)

pub returns-clause-left : goal.returns-clause-left
returns-clause-left g c =
    let own = c.args.own.now in
    let held = c.args.held.now in
    let outputs = c.args.made.outputs.items in
    let s = c.in_ok-image.image.value in
    let p = c.in_ok-plan.plan.value in
    let r = c.in_ok-report.report.value in
    let image : c.deref.result.now ≡ s = search rules in
    let plan : c.deref-2.result.now ≡ p = search rules in
    let again : c.deref-3.result.now ≡ p = search rules in
    let live : c.len-live.result ≡ length c.args.made.rows.items = search rules in
    leaves_by own held c.args.project.now.digests.items c.args.project.now.roots.items c.args.made.rows.items c.args.made.contents.items outputs s p r
    c.requires.made.contents c.in_ok-image.ensures.parts
    (subst (λ x. IsPlanFor own held x c.args.made.contents.items p) image c.in_ok-plan.ensures.plan)
    (subst (λ (n : ℕ). TellsPlan p n outputs r) live (subst (λ (x : Plan). TellsPlan x c.len-live.result outputs r) plan c.in_ok-report.ensures.tells))
    (g.F.Files.holds c.args.files.now) (g.F.Files.holds c.commit_then.new.files) c.in_ok-report.report c.commit_then.result refl c.commit_then.ensures.report
    (subst (λ (x : Plan). IfSome (g.F.Files.holds c.args.files.now)
    (λ d. IsClosed d → OnOk c.commit_then.result (HasChanged x d (g.F.Files.holds c.commit_then.new.files)))) again c.commit_then.ensures.done)

pub returns-clause-stores : goal.returns-clause-stores
returns-clause-stores g c =
    let own = c.args.own.now in
    let held = c.args.held.now in
    let funcs = c.args.project.now.digests.items in
    let roots = c.args.project.now.roots.items in
    let rows = c.args.made.rows.items in
    let contents = c.args.made.contents.items in
    let s = c.in_ok-image.image.value in
    let p = c.in_ok-plan.plan.value in
    let image : c.deref.result.now ≡ s = search rules in
    let again : c.deref-3.result.now ≡ p = search rules in
    let planned : IsPlanFor own held s contents p = subst (λ x. IsPlanFor own held x contents p) image c.in_ok-plan.ensures.plan in
    record {
      stored = leaves_rows own held funcs roots rows contents s p c.in_ok-image.ensures.parts planned (g.F.Files.holds c.args.files.now)
          (g.F.Files.holds c.commit_then.new.files) c.in_ok-report.report c.commit_then.result
          (subst (λ (x : Plan). IfSome (g.F.Files.holds c.args.files.now)
          (λ d. IsClosed d → OnOk c.commit_then.result (HasChanged x d (g.F.Files.holds c.commit_then.new.files)))) again c.commit_then.ensures.done);
      rows_are = rows_planned own held funcs roots rows contents s p c.in_ok-image.ensures.parts planned c.commit_then.result;
    }

pub returns-clause-report : goal.returns-clause-report
returns-clause-report g c =
    tells_then Accepted c.args.ran c.in_ok-report.report c.commit_then.result c.in_ok-report.ensures.verdict c.in_ok-report.ensures.fresh
    c.in_ok-report.ensures.ran c.commit_then.ensures.report

pub returns-clause-stays : goal.returns-clause-stays
returns-clause-stays g c =
    let own = c.args.own.now in
    let held = c.args.held.now in
    let outputs = c.args.made.outputs.items in
    let s = c.in_ok-image.image.value in
    let p = c.in_ok-plan.plan.value in
    let r = c.in_ok-report.report.value in
    let image : c.deref.result.now ≡ s = search rules in
    let plan : c.deref-2.result.now ≡ p = search rules in
    let again : c.deref-3.result.now ≡ p = search rules in
    let live : c.len-live.result ≡ length c.args.made.rows.items = search rules in
    record {
      rest = c.commit_then.ensures.rest;
      crash = put_endures own held c.args.project.now.digests.items c.args.project.now.roots.items c.args.made.rows.items c.args.made.contents.items outputs s p
          r c.requires.made.contents c.in_ok-image.ensures.parts
          (subst (λ x. IsPlanFor own held x c.args.made.contents.items p) image c.in_ok-plan.ensures.plan)
          (subst (λ (n : ℕ). TellsPlan p n outputs r) live (subst (λ (x : Plan). TellsPlan x c.len-live.result outputs r) plan c.in_ok-report.ensures.tells))
          g.F.Files.holds g.F.Files.moment g.F.Files.left_since g.F.Files.images (IsOk c.commit_then.result) c.args.files.now c.commit_then.new.files
          (subst (λ (x : Plan). Endures g.F.Files.holds g.F.Files.moment g.F.Files.left_since g.F.Files.images (IsDone x) (IsOk c.commit_then.result)
          c.args.files.now c.commit_then.new.files) again c.commit_then.ensures.crash);
    }

pub returns-in_err-image-clause-stays : goal.returns-in_err-image-clause-stays
returns-in_err-image-clause-stays g c = stays_none g.F.Files.holds g.F.Files.moment g.F.Files.left_since g.F.Files.images _ _ c.args.files.now

pub returns-in_err-plan-clause-stays : goal.returns-in_err-plan-clause-stays
returns-in_err-plan-clause-stays g c = stays_none g.F.Files.holds g.F.Files.moment g.F.Files.left_since g.F.Files.images _ _ c.args.files.now

pub returns-in_err-report-clause-stays : goal.returns-in_err-report-clause-stays
returns-in_err-report-clause-stays g c = stays_none g.F.Files.holds g.F.Files.moment g.F.Files.left_since g.F.Files.images _ _ c.args.files.now
