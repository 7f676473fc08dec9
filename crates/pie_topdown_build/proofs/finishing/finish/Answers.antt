use Rattle.std.proofs.Common.{subst, sym}
use Rattle.std.specs.Prelude.{IfSome, IfOk, IsOk}
use Rattle.pie_checks.specs.declared.built.Built.{Built}
use Rattle.pie_incremental.specs.inner.Joined.{IsMade, StandsIf}
use Rattle.pie_value.specs.declared.verdict.Verdict.{Verdict}
use Rattle.pie_value.specs.declared.verdict.Verdict.TheVariants.{Accepted}
use Rattle.pie_topdown_build.specs.inner.Cleaned.{LeavesBy}
use Rattle.pie_topdown_build.specs.inner.Crashes.{Endures, EndsBy}
use Rattle.pie_topdown_build.specs.inner.Said.{Stores, TellsVerdict}
use Rattle.pie_topdown_build.specs.inner.Stored.{IsBegunFrom}
use Rattle.pie_topdown_build.proofs.Leaving.{accepted_endures, left_accepted}
use Rattle.pie_topdown_build.proofs.Saying.{quiet_accepted, stays_none, stores_made, tells_made}
use Rattle.pie_topdown_build.proofs.finishing.finish.Goals as goal

pub returns-in-Accepted-clause-left : goal.returns-in-Accepted-clause-left
returns-in-Accepted-clause-left g c =
    let funcs = c.args.project.now.digests.items in
    let roots = c.args.project.now.roots.items in
    let before = g.F.Files.holds c.args.files.now in
    let after = g.F.Files.holds c.accept.new.files in
    subst (λ (b : Built). IfSome before (λ d. IfOk c.accept.result (λ r. LeavesBy b.verdict c.args.store funcs roots b d r.value after)))
    c.into_inner-verdict.ensures
    (left_accepted c.args.store funcs roots c.into_inner-verdict.result before after c.accept.result c.in-Accepted.is c.accept.ensures.left)

pub accept-requires-clause-made : goal.accept-requires-clause-made
accept-requires-clause-made g c =
    let funcs = c.args.project.now.digests.items in
    let roots = c.args.project.now.roots.items in
    let b = c.into_inner-verdict.result in
    let made : IsMade funcs roots b = subst (IsMade funcs roots) (sym c.into_inner-verdict.ensures) c.requires.made in
    record { rows = subst (λ (v : Verdict). StandsIf v funcs roots b.rows.items) c.in-Accepted.is made.stands; contents = made.kept.files }

pub returns-in-Accepted-clause-stays : goal.returns-in-Accepted-clause-stays
returns-in-Accepted-clause-stays g c =
    let funcs = c.args.project.now.digests.items in
    let roots = c.args.project.now.roots.items in
    let settled = IsOk c.accept.result in
    record {
      rest = c.accept.ensures.stays.rest;
      crash = subst (λ (b : Built). Endures g.F.Files.holds g.F.Files.moment g.F.Files.left_since g.F.Files.images
          (EndsBy b.verdict c.args.store funcs roots b) settled c.args.files.now c.accept.new.files) c.into_inner-verdict.ensures
          (accepted_endures g.F.Files.holds g.F.Files.moment g.F.Files.left_since g.F.Files.images settled c.args.files.now c.accept.new.files c.args.store
          funcs roots c.into_inner-verdict.result c.in-Accepted.is c.accept.ensures.stays.crash);
    }

pub returns-in-Accepted-clause-quiet : goal.returns-in-Accepted-clause-quiet
returns-in-Accepted-clause-quiet g c =
    quiet_accepted (g.F.Files.holds c.args.files.now) (g.F.Files.holds c.accept.new.files) c.accept.result c.accept.ensures.report.verdict

pub returns-in-Accepted-clause-stores : goal.returns-in-Accepted-clause-stores
returns-in-Accepted-clause-stores g c =
    let funcs = c.args.project.now.digests.items in
    let before = g.F.Files.holds c.args.files.now in
    let after = g.F.Files.holds c.accept.new.files in
    let b = c.into_inner-verdict.result in
    subst (λ (x : Built). Stores x.verdict (IsBegunFrom c.args.store) funcs x.rows.items before after c.accept.result) c.into_inner-verdict.ensures
    (stores_made b Accepted (IsBegunFrom c.args.store) funcs b.rows.items before after c.accept.result c.in-Accepted.is c.accept.ensures.stores)

pub returns-in-Accepted-clause-report : goal.returns-in-Accepted-clause-report
returns-in-Accepted-clause-report g c =
    subst (λ (b : Built). TellsVerdict b.verdict c.args.ran c.accept.result) c.into_inner-verdict.ensures
    (tells_made c.into_inner-verdict.result Accepted c.args.ran c.accept.result c.in-Accepted.is c.accept.ensures.report)

pub returns-in_ok-refused_report-in-Refused-clause-stays : goal.returns-in_ok-refused_report-in-Refused-clause-stays
returns-in_ok-refused_report-in-Refused-clause-stays g c =
    stays_none g.F.Files.holds g.F.Files.moment g.F.Files.left_since g.F.Files.images _ _ c.args.files.now

pub returns-in_err-refused_report-in-Refused-clause-stays : goal.returns-in_err-refused_report-in-Refused-clause-stays
returns-in_err-refused_report-in-Refused-clause-stays g c =
    stays_none g.F.Files.holds g.F.Files.moment g.F.Files.left_since g.F.Files.images _ _ c.args.files.now
