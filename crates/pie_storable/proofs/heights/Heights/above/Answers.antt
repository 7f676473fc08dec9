use Rattle.std.proofs.Common.{sym, ◌∙◌}
use Rattle.pie_record.specs.declared.dep.Dep.{Dep}
use Rattle.pie_store.specs.Ranks.{IsStoredOn}
use Rattle.pie_storable.proofs.Placing.{above_goes_on, all_more, all_whole}
use Rattle.pie_storable.proofs.heights.Heights.above.Goals as goal

pub loop-dep-preserved : goal.loop-dep-preserved
loop-dep-preserved c = (
  λ rows are.
      above_goes_on rows c.args.deps.now c.loop-dep.dep-index c.loop-dep.height c.in-Some.taller c.dep-item.result c.loop-dep-test.true c.dep-item.is
      (sym c.in-Some.is ∙ c.in_ok-taller.ensures.height rows are)
      ∙ c.loop-dep.invariant.0 rows are,
  all_more (λ (d : Dep). IsStoredOn d.what) c.args.deps.now c.loop-dep.dep-index c.dep-item.result c.loop-dep-test.true c.dep-item.is
      c.loop-dep.invariant.1 c.in_ok-taller.ensures.stored,
)

pub returns-clause-stored : goal.returns-clause-stored
returns-clause-stored c =
    all_whole (λ (d : Dep). IsStoredOn d.what) c.args.deps.now c.loop-dep.dep-index c.loop-dep-test.false c.loop-dep.invariant.1
