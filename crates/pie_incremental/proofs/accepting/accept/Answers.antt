use Rattle.std.proofs.Common.{rules, ◌≡◌, inl, inr, ℕ, length, refl, subst}
use Rattle.std.specs.Prelude.{IfSome, IsOk, OnOk}
use Rattle.pie_commit.specs.declared.plan.Plan.{Plan}
use Rattle.pie_commit.specs.Outcomes.{LeavesMarked}
use Rattle.pie_value.specs.declared.verdict.Verdict.TheVariants.{Accepted}
use Rattle.pie_incremental.specs.inner.Cleaned.{IsPlanFor, MayLeave, TellsPlan}
use Rattle.pie_incremental.specs.inner.Marked.{EndsAccepted}
use Rattle.pie_incremental.specs.inner.Parts.{Endures}
use Rattle.pie_incremental.specs.inner.Plans.{MayPlace, Places}
use Rattle.pie_incremental.proofs.Leaving.{leaves_by, leaves_crash, leaves_marked}
use Rattle.pie_incremental.proofs.Parts.{endures_none, tells_then}
use Rattle.pie_incremental.proofs.accepting.accept.Goals as goal

pub returns-clause-left : goal.returns-clause-left
returns-clause-left g c =
    let own = c.args.ending.now.own in
    let held = c.args.ending.now.held in
    let outputs = c.args.made.outputs.items in
    let s = c.in_ok-image.image.value in
    let p = c.in_ok-plan.plan.value in
    let r = c.in_ok-report.report.value in
    let image : c.deref.result.now ≡ s = search rules in
    let plan : c.deref-2.result.now ≡ p = search rules in
    let again : c.deref-3.result.now ≡ p = search rules in
    let live : c.len-live.result ≡ length c.args.made.rows.items = search rules in
    leaves_by own held c.args.project.now.digests.items c.args.project.now.roots.items c.args.made.rows.items c.args.made.contents.items outputs s p r
    c.requires.contents c.in_ok-image.ensures.parts
    (subst (λ x. IsPlanFor own held x c.args.made.contents.items p) image c.in_ok-plan.ensures.plan)
    (subst (λ (n : ℕ). TellsPlan p n outputs r) live (subst (λ (x : Plan). TellsPlan x c.len-live.result outputs r) plan c.in_ok-report.ensures.tells))
    (g.F.Files.holds c.args.files.now) (g.F.Files.holds c.commit_then.new.files) c.in_ok-report.report c.commit_then.result refl c.commit_then.ensures.report
    (subst (λ (x : Plan). IfSome (g.F.Files.holds c.args.files.now) (λ d. OnOk c.commit_then.result (Places x d (g.F.Files.holds c.commit_then.new.files)))) again
    c.commit_then.ensures.places)

pub returns-clause-files : goal.returns-clause-files
returns-clause-files g c =
    let own = c.args.ending.now.own in
    let held = c.args.ending.now.held in
    let funcs = c.args.project.now.digests.items in
    let roots = c.args.project.now.roots.items in
    let rows = c.args.made.rows.items in
    let contents = c.args.made.contents.items in
    let outputs = c.args.made.outputs.items in
    let s = c.in_ok-image.image.value in
    let p = c.in_ok-plan.plan.value in
    let r = c.in_ok-report.report.value in
    let image : c.deref.result.now ≡ s = search rules in
    let plan : c.deref-2.result.now ≡ p = search rules in
    let again : c.deref-3.result.now ≡ p = search rules in
    let live : c.len-live.result ≡ length rows = search rules in
    let planned : IsPlanFor own held s contents p = subst (λ x. IsPlanFor own held x contents p) image c.in_ok-plan.ensures.plan in
    let tells : TellsPlan p (length rows) outputs r =
    subst (λ (n : ℕ). TellsPlan p n outputs r) live (subst (λ (x : Plan). TellsPlan x c.len-live.result outputs r) plan c.in_ok-report.ensures.tells) in
    let files : Endures g.F.Files.holds g.F.Files.moment g.F.Files.left_since g.F.Files.images (MayPlace p) (LeavesMarked p) (IsOk c.commit_then.result)
    c.args.files.now c.commit_then.new.files =
    subst (λ (x : Plan). Endures g.F.Files.holds g.F.Files.moment g.F.Files.left_since g.F.Files.images (MayPlace x) (LeavesMarked x)
    (IsOk c.commit_then.result) c.args.files.now c.commit_then.new.files) again c.commit_then.ensures.files in
    record {
      rest = files.rest;
      crash = leaves_crash own held funcs roots rows contents outputs s p r c.requires.contents c.in_ok-image.ensures.parts planned tells
          g.F.Files.holds g.F.Files.moment g.F.Files.left_since g.F.Files.images c.args.files.now c.commit_then.new.files files.crash;
      marked = leaves_marked own held funcs roots rows contents outputs s p r c.requires.contents c.in_ok-image.ensures.parts planned tells
          g.F.Files.holds g.F.Files.images c.args.files.now c.commit_then.new.files files.marked;
      durable = files.durable;
    }

pub returns-in_err-image-clause-files : goal.returns-in_err-image-clause-files
returns-in_err-image-clause-files g c =
    let own = c.args.ending.now.own in
    let held = c.args.ending.now.held in
    let funcs = c.args.project.now.digests.items in
    let roots = c.args.project.now.roots.items in
    let rows = c.args.made.rows.items in
    let contents = c.args.made.contents.items in
    endures_none g.F.Files.holds g.F.Files.moment g.F.Files.left_since g.F.Files.images (MayLeave own held funcs roots rows contents)
    (EndsAccepted own held funcs roots rows contents) _ (λ d u e. inr (inl refl)) c.args.files.now

pub returns-in_err-plan-clause-files : goal.returns-in_err-plan-clause-files
returns-in_err-plan-clause-files g c =
    let own = c.args.ending.now.own in
    let held = c.args.ending.now.held in
    let funcs = c.args.project.now.digests.items in
    let roots = c.args.project.now.roots.items in
    let rows = c.args.made.rows.items in
    let contents = c.args.made.contents.items in
    endures_none g.F.Files.holds g.F.Files.moment g.F.Files.left_since g.F.Files.images (MayLeave own held funcs roots rows contents)
    (EndsAccepted own held funcs roots rows contents) _ (λ d u e. inr (inl refl)) c.args.files.now

pub returns-in_err-report-clause-files : goal.returns-in_err-report-clause-files
returns-in_err-report-clause-files g c =
    let own = c.args.ending.now.own in
    let held = c.args.ending.now.held in
    let funcs = c.args.project.now.digests.items in
    let roots = c.args.project.now.roots.items in
    let rows = c.args.made.rows.items in
    let contents = c.args.made.contents.items in
    endures_none g.F.Files.holds g.F.Files.moment g.F.Files.left_since g.F.Files.images (MayLeave own held funcs roots rows contents)
    (EndsAccepted own held funcs roots rows contents) _ (λ d u e. inr (inl refl)) c.args.files.now

pub returns-clause-report : goal.returns-clause-report
returns-clause-report g c =
    tells_then Accepted c.args.ran c.in_ok-report.report c.commit_then.result c.in_ok-report.ensures.verdict c.in_ok-report.ensures.fresh
    c.in_ok-report.ensures.ran c.commit_then.ensures.report
