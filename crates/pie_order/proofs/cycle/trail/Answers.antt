use Rattle.std.proofs.Common.{◌<◌, ℕ, List, sym, ap, subst, arith, length, inl, inr}
use Rattle.std.specs.List.{Contains}
use Rattle.std.proofs.lemmas.Bool.{eqb-true, eq-eqb}
use Rattle.std.proofs.lemmas.List.{length_push}
use Rattle.std.proofs.lemmas.List.Elements.{All-contains}
use Rattle.pie_graph.specs.Numbers.{numbers}
use Rattle.pie_graph.specs.Rows.{Calls}
use Rattle.pie_order.specs.Cycles.{IsTrail, IsLeading}
use Rattle.pie_order.proofs.CycleSteps.{leading_ends, leading_steps, goes_on, pushed_number}
use Rattle.pie_order.proofs.cycle.trail.Goals as goal

pub returns-then-eq : goal.returns-then-eq
returns-then-eq g c =
    let same = eqb-true c.loop.at.0 c.args.end.0 (sym c.if-eq.ensures) in
    subst (λ (ns : List ℕ). IsTrail (g.R.TaskRows.rows c.args.rows.now) c.args.start.0 c.args.end.0 ns)
    (sym (pushed_number c.loop.trail.items c.push.new.self.items c.loop.at c.in_ok-push.ensures.items))
    (leading_ends (g.R.TaskRows.rows c.args.rows.now) c.args.places.now c.args.start.0
    (numbers c.loop.trail.items) c.loop.at.0 c.args.end.0 c.loop.invariant.3 same)

pub returns-in-None : goal.returns-in-None
returns-in-None g c =
    let rows = g.R.TaskRows.rows c.args.rows.now in
    elim (goes_on rows c.args.end.0 c.args.marks.now c.loop.at.0 c.requires.marks c.loop.invariant.1) [
      | inl is ↦ absurd (let e = eq-eqb c.loop.at.0 c.args.end.0 is in let f = c.if-eq.ensures in cc)
      | inr on ↦ absurd (c.in-None.ensures on.0 (subst (λ (ns : List ℕ). Contains ns on.0) (sym c.callees.ensures.callees) on.1) on.2)
    ]

pub loop-preserved : goal.loop-preserved
loop-preserved g c =
    let rows = g.R.TaskRows.rows c.args.rows.now in
    let pushed = pushed_number c.loop.trail.items c.push.new.self.items c.loop.at c.in_ok-push.ensures.items in
    let found = c.in-Some.ensures in
    let calls : Calls rows c.loop.at.0 c.in-Some.next.0 = subst (λ (ns : List ℕ). Contains ns c.in-Some.next.0) c.callees.ensures.callees found.0 in (
      All-contains (λ n. n < length rows) (numbers c.callees.result.now) c.in-Some.next.0 c.callees.ensures.needs_below found.0,
      found.1,
      omega (arith, ap length pushed, length_push (numbers c.loop.trail.items) c.loop.at.0, c.loop.invariant.2),
      subst (λ (ns : List ℕ). IsLeading rows c.args.places.now c.args.start.0 ns c.in-Some.next.0) (sym pushed)
          (leading_steps rows c.args.places.now c.args.start.0
          (numbers c.loop.trail.items) c.loop.at.0 c.in-Some.next.0 c.requires.agrees c.loop.invariant.3 calls),
    )
