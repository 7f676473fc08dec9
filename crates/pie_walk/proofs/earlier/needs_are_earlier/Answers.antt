use Rattle.std.proofs.Common.{◌≡◌, false, true, refl, arith}
use Rattle.pie_graph.specs.Numbers.{numbers}
use Rattle.pie_walk.proofs.EarlierSteps.{earlier_more, earlier_row, earlier_all}
use Rattle.pie_walk.proofs.earlier.needs_are_earlier.Goals as goal

pub returns-then-not-all_below : goal.returns-then-not-all_below
returns-then-not-all_below g c =
    let rows = g.R.TaskRows.rows c.args.rows.now in (
      λ t. let clash : false ≡ true = t in absurd (cc),
      λ all.
          let is = c.all_below.ensures.1 (earlier_row rows c.loop-caller.caller (numbers c.callees.result.now) c.callees.ensures.callees all) in
          let isnt = c.if-not-all_below.true in
          cc,
    )

pub loop-caller-preserved : goal.loop-caller-preserved
loop-caller-preserved g c =
    let rows = g.R.TaskRows.rows c.args.rows.now in
    earlier_more rows c.loop-caller.caller (numbers c.callees.result.now) c.callees.ensures.callees (c.all_below.ensures.0 c.if-not-all_below.false)
    c.loop-caller.invariant

pub returns : goal.returns
returns g c =
    let rows = g.R.TaskRows.rows c.args.rows.now in
    (λ t. earlier_all rows c.loop-caller.caller (omega (arith, c.count-caller-end.ensures.count, c.loop-caller-test.false)) c.loop-caller.invariant, λ all. refl)
