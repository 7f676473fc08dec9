-- The search went on from one task.
use Rattle.std.proofs.Common.{◌≡◌, ◌<◌, ◌∙◌, List, ℕ, ap, length, sym, subst, arith}
use Rattle.pie_graph.specs.declared.edges.TaskNo.{TaskNo}
use Rattle.pie_graph.specs.Numbers.{numbers, AllBelow}
use Rattle.pie_reach.proofs.WalkSteps.{all_below}
use Rattle.pie_order.specs.Sides.{Searched, Bounded}
use Rattle.pie_order.proofs.SideSteps.{Steps, task_below, stepped}
use Rattle.pie_order.proofs.side.Side.step.Goals as goal

pub next-requires : goal.next-requires
next-requires g c =
    let count = g.W.Ways.size c.args.ways.now in
    subst (λ (s : Searched). Bounded count s → c.index.result.now.0 < count) c.self.view_is
    (task_below count c.self.inside.marks c.self.inside.met.items c.self.inside.next c.index.result.now
    (omega (arith, c.if-self-len.false, c.len.ensures, c.self.inside.met.ok)) c.index.ensures) c.requires

pub meet_all-requires : goal.meet_all-requires
meet_all-requires g c =
    let count = g.W.Ways.size c.args.ways.now in
    let sized : length c.self.inside.marks ≡ count = ap (λ (s : Searched). length s.marks) c.self.view_is ∙ c.requires.sized in
    subst (λ (size : ℕ). AllBelow size (numbers c.deref.result.now)) (sym sized)
    (subst (λ (ts : List TaskNo). AllBelow count (numbers ts)) (sym c.deref.ensures.value)
    (all_below count (numbers c.in_ok-found.found.items) c.in_ok-found.ensures.below))

pub returns-clause-bounded : goal.returns-clause-bounded
returns-clause-bounded g c =
    let count = g.W.Ways.size c.args.ways.now in
    let goes = g.W.Ways.goes c.args.ways.now in
    (subst (λ (s : Searched). Bounded count s → Steps count goes s c.meet_all.new.self) c.self.view_is
    (stepped count goes c.self.inside.marks c.self.inside.met.items c.self.inside.next c.index.result.now (numbers c.in_ok-found.found.items)
    (numbers c.deref.result.now) c.meet_all.new.self
    (omega (arith, c.if-self-len.false, c.len.ensures, c.self.inside.met.ok)) c.index.ensures c.in_ok-found.ensures
    (ap numbers c.deref.ensures.value) c.in_ok-meet_all.ensures) c.requires).0

pub returns-clause-kept : goal.returns-clause-kept
returns-clause-kept g c =
    let count = g.W.Ways.size c.args.ways.now in
    let goes = g.W.Ways.goes c.args.ways.now in
    (subst (λ (s : Searched). Bounded count s → Steps count goes s c.meet_all.new.self) c.self.view_is
    (stepped count goes c.self.inside.marks c.self.inside.met.items c.self.inside.next c.index.result.now (numbers c.in_ok-found.found.items)
    (numbers c.deref.result.now) c.meet_all.new.self
    (omega (arith, c.if-self-len.false, c.len.ensures, c.self.inside.met.ok)) c.index.ensures c.in_ok-found.ensures
    (ap numbers c.deref.ensures.value) c.in_ok-meet_all.ensures) c.requires).1

pub returns-clause-nearer : goal.returns-clause-nearer
returns-clause-nearer g c = λ went.
    let count = g.W.Ways.size c.args.ways.now in
    let goes = g.W.Ways.goes c.args.ways.now in
    (subst (λ (s : Searched). Bounded count s → Steps count goes s c.meet_all.new.self) c.self.view_is
    (stepped count goes c.self.inside.marks c.self.inside.met.items c.self.inside.next c.index.result.now (numbers c.in_ok-found.found.items)
    (numbers c.deref.result.now) c.meet_all.new.self
    (omega (arith, c.if-self-len.false, c.len.ensures, c.self.inside.met.ok)) c.index.ensures c.in_ok-found.ensures
    (ap numbers c.deref.ensures.value) c.in_ok-meet_all.ensures) c.requires).2
