use Rattle.std.proofs.Common.{◌∙◌}
use Rattle.pie_checks.proofs.NestedFacts.{first_below, none_below}
use Rattle.pie_checks.proofs.nested.first_below.Goals as goal

pub returns-then-at-writes : goal.returns-then-at-writes
returns-then-at-writes c =
    first_below c.args.writes.now c.args.path.now c.deref.result.now c.place-at.result c.index-writes-at.result c.in_ok-below.below
    (c.deref.ensures.value ∙ c.in_ok-key.ensures) c.requires c.place-at.ensures c.if-at-writes.true
    c.index-writes-at.is c.in_ok-below.ensures

pub returns : goal.returns
returns c = none_below c.args.writes.now c.args.path.now c.deref.result.now c.place-at.result
    (c.deref.ensures.value ∙ c.in_ok-key.ensures) c.place-at.ensures c.if-at-writes.false
