use Rattle.std.proofs.Common.{subst}
use Rattle.std.specs.Prelude.{IfSome, IfOk, IsOk}
use Rattle.pie_checks.specs.declared.built.Built.{Built}
use Rattle.pie_value.specs.declared.verdict.Verdict.TheVariants.{Accepted, Refused}
use Rattle.pie_incremental.specs.Crashes.{MarkedBy}
use Rattle.pie_incremental.specs.inner.Cleaned.{LeavesBy, MayLeaveBy}
use Rattle.pie_incremental.specs.inner.Marked.{EndsBy}
use Rattle.pie_incremental.specs.inner.Parts.{Endures, TellsVerdict}
use Rattle.pie_incremental.proofs.Leaving.{left_accepted}
use Rattle.pie_incremental.proofs.Parts.{endures_accepted, endures_refused, tells_made}
use Rattle.pie_incremental.proofs.ending.finish.Goals as goal

pub returns-in-Accepted-clause-left : goal.returns-in-Accepted-clause-left
returns-in-Accepted-clause-left g c =
    let own = c.args.ending.now.own in
    let held = c.args.ending.now.held in
    let funcs = c.args.project.now.digests.items in
    let roots = c.args.project.now.roots.items in
    let before = g.F.Files.holds c.args.files.now in
    let after = g.F.Files.holds c.accept.new.files in
    subst (λ (b : Built). IfSome before (λ d. IfOk c.accept.result (λ r. LeavesBy b.verdict own held funcs roots b d r.value after)))
    c.into_inner-verdict.ensures
    (left_accepted own held funcs roots c.into_inner-verdict.result before after c.accept.result c.in-Accepted.is c.accept.ensures.left)

pub returns-in-Accepted-clause-files : goal.returns-in-Accepted-clause-files
returns-in-Accepted-clause-files g c =
    let own = c.args.ending.now.own in
    let held = c.args.ending.now.held in
    let funcs = c.args.project.now.digests.items in
    let roots = c.args.project.now.roots.items in
    let names = c.args.ending.now.names.items in
    subst (λ (b : Built). Endures g.F.Files.holds g.F.Files.moment g.F.Files.left_since g.F.Files.images (MayLeaveBy b.verdict own held funcs roots b names)
    (MarkedBy (EndsBy b.verdict own held funcs roots b names)) (IsOk c.accept.result) c.args.files.now c.accept.new.files) c.into_inner-verdict.ensures
    (endures_accepted g.F.Files.holds g.F.Files.moment g.F.Files.left_since g.F.Files.images c.args.files.now c.accept.new.files own held funcs roots
    c.into_inner-verdict.result names (IsOk c.accept.result) c.in-Accepted.is c.accept.ensures.files)

pub returns-in-Refused-clause-files : goal.returns-in-Refused-clause-files
returns-in-Refused-clause-files g c =
    let own = c.args.ending.now.own in
    let held = c.args.ending.now.held in
    let funcs = c.args.project.now.digests.items in
    let roots = c.args.project.now.roots.items in
    let names = c.args.ending.now.names.items in
    subst (λ (b : Built). Endures g.F.Files.holds g.F.Files.moment g.F.Files.left_since g.F.Files.images (MayLeaveBy b.verdict own held funcs roots b names)
    (MarkedBy (EndsBy b.verdict own held funcs roots b names)) (IsOk c.refuse.result) c.args.files.now c.refuse.new.files) c.into_inner-verdict.ensures
    (endures_refused g.F.Files.holds g.F.Files.moment g.F.Files.left_since g.F.Files.images c.args.files.now c.refuse.new.files own held funcs roots
    c.into_inner-verdict.result names (IsOk c.refuse.result) c.in-Refused.refusal c.in-Refused.is c.refuse.ensures.files)

pub returns-in-Accepted-clause-report : goal.returns-in-Accepted-clause-report
returns-in-Accepted-clause-report g c =
    subst (λ (b : Built). TellsVerdict b.verdict c.args.ran c.accept.result) c.into_inner-verdict.ensures
    (tells_made c.into_inner-verdict.result Accepted c.args.ran c.accept.result c.in-Accepted.is c.accept.ensures.report)

pub returns-in-Refused-clause-report : goal.returns-in-Refused-clause-report
returns-in-Refused-clause-report g c =
    subst (λ (b : Built). TellsVerdict b.verdict c.args.ran c.refuse.result) c.into_inner-verdict.ensures
    (tells_made c.into_inner-verdict.result (Refused c.in-Refused.refusal) c.args.ran c.refuse.result c.in-Refused.is c.refuse.ensures.report)
