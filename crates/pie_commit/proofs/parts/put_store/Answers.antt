use Rattle.std.proofs.Common.{ap, ◌∙◌, refl, subst, sym}
use Rattle.pie_commit.specs.inner.Plans.{stored, at}
use Rattle.pie_commit.proofs.Bringing.{brought_none, at_same}
use Rattle.pie_commit.proofs.Members.{place_inner}
use Rattle.pie_commit.proofs.Standing.{none_marked}
use Rattle.pie_commit.proofs.Others.{keeps_same}
use Rattle.std.specs.Prelude.{Ok}
use Rattle.pie_commit.specs.inner.Steps.{Makes, store_steps}
use Rattle.pie_commit.proofs.Stepping.{makes_none}
use Rattle.pie_commit.proofs.parts.put_store.Goals as goal

pub returns-in-None-clause-done : goal.returns-in-None-clause-done
returns-in-None-clause-done g c =
    let place = c.args.plan.now.place in
    brought_none (at place (stored c.args.plan.now.store)) (λ q. ap (λ s. at place (stored s) q) c.in-None.is ∙ at_same place q) (g.F.Files.holds
    c.args.files.now)

pub returns-in-None-clause-crash : goal.returns-in-None-clause-crash
returns-in-None-clause-crash g c = none_marked g.F.Files.holds g.F.Files.moment g.F.Files.left_since g.F.Files.images c.args.plan.now c.args.files.now

pub write-requires : goal.write-requires
write-requires g c = place_inner c.args.plan.now c.requires

pub returns-in-None-clause-outside : goal.returns-in-None-clause-outside
returns-in-None-clause-outside g c = keeps_same c.args.plan.now (g.F.Files.holds c.args.files.now) (g.F.Files.holds c.args.files.now) refl

pub returns-in-None-clause-makes : goal.returns-in-None-clause-makes
returns-in-None-clause-makes g c =
    subst (λ w. Makes g.F.Files.asked (store_steps c.args.plan.now.place w) c.args.files.now c.args.files.now (Ok (tt {0}))) (sym c.in-None.is)
    (makes_none g.F.Files.asked c.args.files.now)
