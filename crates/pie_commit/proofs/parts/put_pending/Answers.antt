use Rattle.std.proofs.Common.{ap, ◌∙◌, refl, subst, sym}
use Rattle.pie_commit.specs.inner.Plans.{pended, at}
use Rattle.pie_commit.proofs.Bringing.{brought_none, at_same}
use Rattle.pie_commit.proofs.Members.{names_inner}
use Rattle.pie_commit.proofs.Standing.{none_marked}
use Rattle.pie_commit.proofs.Others.{keeps_same}
use Rattle.std.specs.Prelude.{Ok}
use Rattle.pie_commit.specs.inner.Steps.{Makes, pending_steps}
use Rattle.pie_commit.proofs.Stepping.{makes_none}
use Rattle.pie_commit.proofs.parts.put_pending.Goals as goal

pub returns-in-Keep-clause-done : goal.returns-in-Keep-clause-done
returns-in-Keep-clause-done g c =
    let place = c.args.plan.now.names_place in
    brought_none (at place (pended c.args.plan.now.pending)) (λ q. ap (λ w. at place (pended w) q) c.in-Keep.is ∙ at_same place q) (g.F.Files.holds
    c.args.files.now)

pub returns-in-Keep-clause-crash : goal.returns-in-Keep-clause-crash
returns-in-Keep-clause-crash g c = none_marked g.F.Files.holds g.F.Files.moment g.F.Files.left_since g.F.Files.images c.args.plan.now c.args.files.now

pub write-requires : goal.write-requires
write-requires g c = names_inner c.args.plan.now c.requires

pub remove-requires : goal.remove-requires
remove-requires g c = names_inner c.args.plan.now c.requires

pub returns-in-Keep-clause-outside : goal.returns-in-Keep-clause-outside
returns-in-Keep-clause-outside g c = keeps_same c.args.plan.now (g.F.Files.holds c.args.files.now) (g.F.Files.holds c.args.files.now) refl

pub returns-in-Keep-clause-makes : goal.returns-in-Keep-clause-makes
returns-in-Keep-clause-makes g c =
    subst (λ w. Makes g.F.Files.asked (pending_steps c.args.plan.now.names_place w) c.args.files.now c.args.files.now (Ok (tt {0}))) (sym c.in-Keep.is)
    (makes_none g.F.Files.asked c.args.files.now)
