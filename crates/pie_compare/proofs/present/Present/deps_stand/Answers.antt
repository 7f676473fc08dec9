use Rattle.std.proofs.Common.{Bool, subst}
use Rattle.pie_graph.specs.Numbers.{numbers}
use Rattle.pie_compare.specs.inner.Standing.{DepStands, Tells}
use Rattle.pie_compare.specs.inner.Here.{around}
use Rattle.pie_compare.proofs.Turns.{goes_on}
use Rattle.pie_compare.proofs.present.Present.deps_stand.Goals as goal

pub loop-dep-preserved : goal.loop-dep-preserved
loop-dep-preserved g c =
    let self = c.args.self.now in
    let rows = g.R.TaskRows.rows self.rows.now in
    let required = numbers c.loop-dep.required.items in
    let after = numbers c.dep_stands.new.required.items in (
      c.in_ok-dep_stands.ensures.below,
      goes_on (around rows self) c.args.deps.now c.loop-dep.dep-index c.dep-item.result required after
          c.loop-dep-test.true c.dep-item.is
          (subst (λ (b : Bool). Tells (DepStands (around rows self) required c.dep-item.result) b after)
          c.if-not-branch.false c.in_ok-dep_stands.ensures.tells) c.loop-dep.invariant.1,
    )
