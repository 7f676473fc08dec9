use Rattle.std.proofs.Common.{◌∙◌, ◌<◌, ◌+◌, List, length, get_or, map, refl, ap, arith}
use Rattle.pie_graph.specs.declared.edges.TaskNo.{TaskNo}
use Rattle.pie_graph.specs.Numbers.{numbers}
use Rattle.pie_reach.specs.declared.descent.State.{State}
use Rattle.pie_reach.specs.declared.descent.Visit.{Visit}
use Rattle.pie_reach.specs.inner.Reaches.{height_over}
use Rattle.pie_reach.specs.inner.Descents.{height_at}
use Rattle.pie_reach.proofs.WalkSteps.{number_below}
use Rattle.pie_reach.proofs.Turning.{turn_finish, turn_advance, turn_enter, turn_cycle, state_read}
use Rattle.pie_reach.proofs.descent.Descent.turn.Goals as goal

pub returns-then-frame-callees : goal.returns-then-frame-callees
returns-then-frame-callees g c =
    turn_finish
    (g.R.TaskRows.rows c.args.rows.now) c.args.self.now.states.items c.args.self.now.stack.items c.pop.new.self.items c.in-Some.frame
    c.callees-callees.result.now c.in_ok-height.height
    c.requires c.in-Some.ensures.items c.callees-callees.ensures.callees c.if-frame-callees.true
    (c.in_ok-height.ensures ∙ ap (λ (ss : List State). height_over (map (height_at ss) (numbers c.callees-callees.result.now))) c.as_slice.ensures.value)

pub index-requires : goal.index-requires
index-requires g c = omega (
  arith,
  c.requires.sized,
  number_below _ c.callees-callees.result.now c.in-Some.frame.next
      (record { 0 = 0 }) c.callees-callees.ensures.needs_below c.if-frame-callees.false,
)

pub enter-requires : goal.enter-requires
enter-requires g c = omega (
  arith,
  c.requires.sized,
  number_below _ c.callees-callees.result.now c.in-Some.frame.next
      (record { 0 = 0 }) c.callees-callees.ensures.needs_below c.if-frame-callees.false,
)

pub returns-in_ok-push-in-Done : goal.returns-in_ok-push-in-Done
returns-in_ok-push-in-Done g c =
    let callees = c.callees-callees.result.now in
    let states = c.args.self.now.states.items in
    let d : TaskNo = record { 0 = 0 } in
    let next : Visit = record { no = c.in-Some.frame.no; next = c.in-Some.frame.next + 1 } in
    let callee = get_or callees c.in-Some.frame.next d in
    let within : callee.0 < length states = omega (
      arith,
      c.requires.sized,
      number_below _ callees c.in-Some.frame.next d c.callees-callees.ensures.needs_below c.if-frame-callees.false,
    ) in
    turn_advance
    (g.R.TaskRows.rows c.args.rows.now) states c.args.self.now.stack.items c.pop.new.self.items c.push.new.self.items c.in-Some.frame next callees d
    c.in-Done.field-0
    c.requires c.in-Some.ensures.items c.in_ok-push-in-Done.ensures.items refl refl c.callees-callees.ensures.callees c.if-frame-callees.false
    (state_read states callee.0 c.index.result.now within c.index.ensures ∙ c.in-Done.is)

pub returns-in-Open : goal.returns-in-Open
returns-in-Open g c =
    let callees = c.callees-callees.result.now in
    let states = c.args.self.now.states.items in
    let d : TaskNo = record { 0 = 0 } in
    let callee = get_or callees c.in-Some.frame.next d in
    let within : callee.0 < length states = omega (
      arith,
      c.requires.sized,
      number_below _ callees c.in-Some.frame.next d c.callees-callees.ensures.needs_below c.if-frame-callees.false,
    ) in
    turn_cycle (g.R.TaskRows.rows c.args.rows.now) states c.args.self.now.stack.items c.pop.new.self.items c.in-Some.frame callees d
    c.requires c.in-Some.ensures.items c.callees-callees.ensures.callees c.if-frame-callees.false
    (state_read states callee.0 c.index.result.now within c.index.ensures ∙ c.in-Open.is)

pub returns-in_ok-enter-in-New : goal.returns-in_ok-enter-in-New
returns-in_ok-enter-in-New g c =
    let callees = c.callees-callees.result.now in
    let states = c.args.self.now.states.items in
    let d : TaskNo = record { 0 = 0 } in
    let callee = get_or callees c.in-Some.frame.next d in
    let next : Visit = record { no = callee; next = 0 } in
    let inside = number_below _ callees c.in-Some.frame.next d c.callees-callees.ensures.needs_below c.if-frame-callees.false in
    let within : callee.0 < length states = omega (arith, c.requires.sized, inside) in
    turn_enter
    (g.R.TaskRows.rows c.args.rows.now) states c.enter.new.self.states.items c.args.self.now.stack.items c.pop.new.self.items c.push-in-New.new.self.items
    c.enter.new.self.stack.items c.in-Some.frame next callees d
    c.requires c.in-Some.ensures.items c.in_ok-push-in-New.ensures.items c.in_ok-enter-in-New.ensures.stack refl refl c.in_ok-enter-in-New.ensures.states
    c.callees-callees.ensures.callees c.if-frame-callees.false inside
    (state_read states callee.0 c.index.result.now within c.index.ensures ∙ c.in-New.is)
