use Rattle.std.proofs.Common.{Bool, ◌↔◌, subst}
use Rattle.std.specs.Prelude.{IsTrue}
use Rattle.pie_compare.specs.inner.Standing.{WriteStands}
use Rattle.pie_compare.proofs.Written.{writes_stand, writes_more, writes_fall}
use Rattle.pie_compare.proofs.standing.writes_stand.Goals as goal

pub returns-then-not-write_stands : goal.returns-then-not-write_stands
returns-then-not-write_stands c =
    writes_fall c.args.named.now c.args.writes.now c.loop-path.path-index c.loop-path-item.result c.loop-path-test.true c.loop-path-item.is
    (subst (λ (b : Bool). IsTrue b ↔ WriteStands c.args.named.now c.loop-path-item.result) c.if-not-write_stands.true c.write_stands.ensures)

pub returns : goal.returns
returns c = writes_stand c.args.named.now c.args.writes.now c.loop-path.path-index c.loop-path-test.false c.loop-path.invariant

pub loop-path-preserved : goal.loop-path-preserved
loop-path-preserved c =
    writes_more c.args.named.now c.args.writes.now c.loop-path.path-index c.loop-path-item.result c.loop-path-test.true c.loop-path-item.is
    c.loop-path.invariant (c.write_stands.ensures.0 c.if-not-write_stands.false)
