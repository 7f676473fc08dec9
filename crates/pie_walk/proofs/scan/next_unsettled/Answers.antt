use Rattle.std.proofs.Common.{◌≡◌, sym, subst, arith}
use Rattle.pie_walk.specs.Marks.{IsSettled}
use Rattle.pie_walk.proofs.ScanSteps.{number_at, length_numbers, scan_on}
use Rattle.pie_graph.specs.Numbers.{numbers}
use Rattle.pie_graph.specs.declared.edges.TaskNo.{TaskNo}
use Rattle.pie_walk.proofs.scan.next_unsettled.Goals as goal

pub returns-then-not-is_settled : goal.returns-then-not-is_settled
returns-then-not-is_settled c =
    let zero : TaskNo = record { 0 = 0 } in (
      c.loop-at.auto.at,
      omega (arith, length_numbers c.args.callees.now, c.loop-at-test.true),
      c.loop-at.invariant,
      λ is. let there = c.is_settled.ensures.1 (subst (IsSettled c.args.marks.now) (number_at c.args.callees.now c.loop-at.at zero c.loop-at-test.true) is) in
          let isnt = c.if-not-is_settled.true in cc,
    )

pub loop-at-preserved : goal.loop-at-preserved
loop-at-preserved c =
    let zero : TaskNo = record { 0 = 0 } in
    scan_on (numbers c.args.callees.now) c.args.marks.now c.args.from c.loop-at.at c.loop-at.invariant
    (subst (IsSettled c.args.marks.now) (sym (number_at c.args.callees.now c.loop-at.at zero c.loop-at-test.true))
    (c.is_settled.ensures.0 c.if-not-is_settled.false))

pub returns : goal.returns
returns c = λ i low high. c.loop-at.invariant i low (omega (arith, high, length_numbers c.args.callees.now, c.loop-at-test.false))
