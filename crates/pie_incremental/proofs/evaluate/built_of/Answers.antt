use Rattle.std.proofs.Common.{sym, subst}
use Rattle.pie_bottomup.specs.declared.state.Core.{Core}
use Rattle.pie_bottomup.specs.inner.States.{IsPlanOf}
use Rattle.pie_bottomup.specs.inner.Made.{MadeExact}
use Rattle.pie_incremental.specs.inner.Evaluated.{ResultsExact}
use Rattle.pie_incremental.specs.inner.Joined.{IsMade}
use Rattle.pie_incremental.proofs.Storing.{made}
use Rattle.pie_incremental.proofs.Evaluating.{results_exact}
use Rattle.pie_incremental.proofs.evaluate.built_of.Goals as goal

pub returns-clause-made : goal.returns-clause-made
returns-clause-made c =
    let p = c.args.project.now in
    let plan = subst (λ (core : Core). IsPlanOf p.typed p.digests.items p.roots.items core.plan) (sym c.into_inner.ensures) c.requires.plan in
    subst (IsMade p.digests.items p.roots.items) (sym c.in_ok-built-2.ensures.ok)
    (made p.typed p.digests.items p.roots.items c.into_inner.result.plan c.in_ok-built.built c.requires.names c.requires.funcs c.requires.roots plan
    c.in_ok-built.ensures.kept c.in_ok-built.ensures.stored)

pub returns-clause-exact : goal.returns-clause-exact
returns-clause-exact c =
    let p = c.args.project.now in
    let core = c.args.core.value in
    let same = c.into_inner.ensures in
    subst (ResultsExact core p.roots.items) (sym c.in_ok-built-2.ensures.ok)
    (results_exact core p.roots.items c.in_ok-built.built c.requires.settled c.requires.plan.roots
    (subst (λ (x : Core). MadeExact x c.in_ok-built.built) same c.in_ok-built.ensures.exact))
