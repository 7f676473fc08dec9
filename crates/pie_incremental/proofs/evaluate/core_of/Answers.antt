use Rattle.std.proofs.Common.{◌≡◌, sym, subst}
use Rattle.pie_bottomup.specs.declared.state.Core.{Core}
use Rattle.pie_bottomup.specs.declared.state.First.TheVariants.{Done}
use Rattle.pie_bottomup.specs.inner.Loaded.{BeginsExact, BeginsMany}
use Rattle.pie_bottomup.specs.inner.Ran.{BeginsKnowing}
use Rattle.pie_bottomup.specs.inner.States.{IsPlanOf}
use Rattle.pie_store.specs.declared.image.StoreImage.{StoreImage}
use Rattle.pie_incremental.specs.inner.Evaluated.{BeginsNow}
use Rattle.pie_incremental.proofs.Evaluating.{begins_now}
use Rattle.pie_incremental.proofs.evaluate.core_of.Goals as goal

pub returns-clause-plan : goal.returns-clause-plan
returns-clause-plan c =
    let p = c.args.project.now in
    let core = c.in_ok-core.core in
    subst (λ (x : Core). IsPlanOf p.typed p.digests.items p.roots.items x.plan) (sym c.in_ok-core-2.ensures.ok)
    (subst (λ ts. IsPlanOf p.typed p.digests.items ts core.plan) c.as_slice-2.ensures.value
    (subst (λ ds. IsPlanOf p.typed ds c.as_slice-2.result.now core.plan) c.as_slice.ensures.value c.in_ok-core.ensures.plan.plan))

pub returns-clause-first : goal.returns-clause-first
returns-clause-first c = subst (λ (x : Core). x.first ≡ Done → ⊥) (sym c.in_ok-core-2.ensures.ok) c.in_ok-core.ensures.begins.first

pub returns-clause-exact : goal.returns-clause-exact
returns-clause-exact c =
    let p = c.args.project.now in
    let core = c.in_ok-core.core in
    let digests : c.as_slice.result.now ≡ p.digests.items = c.as_slice.ensures.value in
    let begins : BeginsExact c.args.image.value.funcs p.digests.items c.args.image.value.rows c.args.names.now core =
    subst (λ ds. BeginsExact c.args.image.value.funcs ds c.args.image.value.rows c.args.names.now core) digests
    (subst (λ (s : StoreImage). BeginsExact s.funcs c.as_slice.result.now s.rows c.args.names.now core) c.into_inner.ensures
    c.in_ok-core.ensures.begins.exact) in
    let past : BeginsMany c.args.image.value.funcs p.digests.items c.args.image.value.rows c.args.names.now core =
    subst (λ ds. BeginsMany c.args.image.value.funcs ds c.args.image.value.rows c.args.names.now core) digests
    (subst (λ (s : StoreImage). BeginsMany s.funcs c.as_slice.result.now s.rows c.args.names.now core) c.into_inner.ensures
    c.in_ok-core.ensures.begins.past) in
    subst (BeginsNow p.typed c.args.code.now p.roots.items c.args.image.value.funcs p.digests.items c.args.image.value.rows c.args.names.now)
    (sym c.in_ok-core-2.ensures.ok)
    (subst (λ ts. BeginsNow p.typed c.args.code.now ts c.args.image.value.funcs p.digests.items c.args.image.value.rows c.args.names.now core)
    c.as_slice-2.ensures.value
    (begins_now p.typed c.args.code.now c.args.image.value.funcs p.digests.items c.args.image.value.rows c.args.names.now c.as_slice-2.result.now core
    (subst (λ ds. IsPlanOf p.typed ds c.as_slice-2.result.now core.plan) digests c.in_ok-core.ensures.plan.plan) c.in_ok-core.ensures.begins.first
    c.in_ok-core.ensures.plan.code begins past))

pub returns-clause-knows : goal.returns-clause-knows
returns-clause-knows c =
    let p = c.args.project.now in
    let s = c.args.image.value in
    let core = c.in_ok-core.core in
    let begins : BeginsKnowing s.funcs p.digests.items s.rows c.args.names.now core =
    subst (λ ds. BeginsKnowing s.funcs ds s.rows c.args.names.now core) c.as_slice.ensures.value
    (subst (λ (x : StoreImage). BeginsKnowing x.funcs c.as_slice.result.now x.rows c.args.names.now core) c.into_inner.ensures
    c.in_ok-core.ensures.begins.knows) in
    subst (BeginsKnowing s.funcs p.digests.items s.rows c.args.names.now) (sym c.in_ok-core-2.ensures.ok) begins
