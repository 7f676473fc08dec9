use Rattle.pie_old.proofs.Needing.{named_here, named_on, needs_more}
use Rattle.pie_store.specs.inner.Ties.{named_by}
use Rattle.pie_old.proofs.tying.needs_of.Goals as goal

pub put_need-requires-clause-named : goal.put_need-requires-clause-named
put_need-requires-clause-named c =
    named_here c.args.names.now c.args.deps.now c.loop-dep.dep-index c.dep-item.result c.loop-dep-test.true c.dep-item.is c.loop-dep.invariant.1

pub loop-dep-preserved : goal.loop-dep-preserved
loop-dep-preserved c = (
  needs_more c.args.deps.now c.loop-dep.dep-index c.dep-item.result (named_by c.args.names.now c.loop-dep.needs.items)
      (named_by c.args.names.now c.put_need.new.needs.items) _ c.loop-dep-test.true c.dep-item.is c.in_ok-put_need.ensures c.loop-dep.invariant.0,
  named_on c.args.names.now c.args.deps.now c.loop-dep.dep-index c.dep-item.result c.loop-dep-test.true c.dep-item.is c.loop-dep.invariant.1,
)
