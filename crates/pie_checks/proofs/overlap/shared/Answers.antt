use Rattle.std.proofs.Common.{◌∙◌, sym, arith}
use Rattle.pie_checks.proofs.Sharing.{first_shared, same_more, none_shared}
use Rattle.pie_checks.proofs.overlap.shared.Goals as goal

pub returns-then-differ : goal.returns-then-differ
returns-then-differ c =
    first_shared c.args.writes.now c.loop-i.i c.index-writes-i.result c.index-writes-i-in-loop-i.result c.requires c.loop-i.invariant.0 c.loop-i-test.true
    c.index-writes-i.is c.index-writes-i-in-loop-i.is
    (sym c.differ.ensures ∙ c.if-differ.true) c.loop-i.invariant.1

pub loop-i-preserved : goal.loop-i-preserved
loop-i-preserved c = (
  omega arith,
  same_more c.args.writes.now c.loop-i.i c.index-writes-i.result c.index-writes-i-in-loop-i.result c.requires c.loop-i.invariant.0 c.loop-i-test.true
      c.index-writes-i.is c.index-writes-i-in-loop-i.is
      (sym c.differ.ensures ∙ c.if-differ.false) c.loop-i.invariant.1,
)

pub returns : goal.returns
returns c = none_shared c.args.writes.now c.loop-i.i c.loop-i-test.false c.loop-i.invariant.1
