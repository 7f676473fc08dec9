-- The side that moved takes its edges along, and the new edge then stands in the order.
use Rattle.std.proofs.Common.{◌≡◌, ◌∙◌, ℕ, List, length, ap, sym, subst}
use Rattle.pie_graph.specs.Numbers.{numbers, AllBelow}
use Rattle.pie_graph.specs.Rows.{Calls}
use Rattle.pie_reach.proofs.WalkSteps.{all_below}
use Rattle.pie_order.specs.Founds.{IsFound}
use Rattle.pie_order.specs.Runs.{GoFirst, GoLast}
use Rattle.pie_order.specs.Sides.{IsSide}
use Rattle.pie_order.proofs.Inserting.{sunk_agrees, lifted_agrees}
use Rattle.pie_order.proofs.order.Order.insert.Goals as goal
use Rattle.pie_order.proofs.order.Order.insert.Goals.{in-Below+in_ok-sink-in-Below, in-Above+in_ok-lift-in-Above}

pub sink-requires-clause-below : goal.sink-requires-clause-below
sink-requires-clause-below g c =
    let rows = g.R.TaskRows.rows c.args.rows.now in
    let side : IsSide (length rows) (Calls rows) c.args.to.0 c.args.from.0 (numbers c.in-Below.tasks.items) = subst
    (IsFound rows c.args.from.0 c.args.to.0) c.in-Below.is c.in_ok-tasks.ensures in
    let size : length rows ≡ length c.self.inside.placed.places.items = sym (ap length c.self.view_is ∙ c.requires.agrees.as_many) in
    subst (λ (n : ℕ). AllBelow n (numbers c.in-Below.tasks.items)) size (all_below (length rows) (numbers c.in-Below.tasks.items) side.below)

pub lift-requires-clause-below : goal.lift-requires-clause-below
lift-requires-clause-below g c =
    let rows = g.R.TaskRows.rows c.args.rows.now in
    let side : IsSide (length rows) (λ a b. Calls rows b a) c.args.from.0 c.args.to.0 (numbers c.in-Above.tasks.items) = subst
    (IsFound rows c.args.from.0 c.args.to.0) c.in-Above.is c.in_ok-tasks.ensures in
    let size : length rows ≡ length c.self.inside.placed.places.items = sym (ap length c.self.view_is ∙ c.requires.agrees.as_many) in
    subst (λ (n : ℕ). AllBelow n (numbers c.in-Above.tasks.items)) size (all_below (length rows) (numbers c.in-Above.tasks.items) side.below)

pub returns-clause-inserted : goal.returns-clause-inserted
returns-clause-inserted g c =
    let rows = g.R.TaskRows.rows c.args.rows.now in
    let from = c.args.from.0 in
    let to = c.args.to.0 in
    let old = c.self.inside.placed.places.items in
    let now = c.match-branch-2.self in
    elim c.match-branch-2.branch [
      | in-Below+in_ok-sink-in-Below w ↦
          let tasks = numbers w.in-Below.tasks.items in
          let side : IsSide (length rows) (Calls rows) to from tasks = subst (IsFound rows from to) w.in-Below.is c.in_ok-tasks.ensures in
          let go : GoFirst tasks old now = subst (λ (new : List ℕ). GoFirst tasks old new) (sym w.self-is) w.in_ok-sink-in-Below.ensures.first in
          sunk_agrees rows from to tasks c.args.self.now now c.count-count.ensures.needs_below c.requires.from c.requires.to side c.requires.agrees
          (subst (λ (places : List ℕ). GoFirst tasks places now) c.self.view_is go)
      | in-Above+in_ok-lift-in-Above w ↦
          let tasks = numbers w.in-Above.tasks.items in
          let side : IsSide (length rows) (λ a b. Calls rows b a) from to tasks = subst (IsFound rows from to) w.in-Above.is c.in_ok-tasks.ensures in
          let go : GoLast tasks old now = subst (λ (new : List ℕ). GoLast tasks old new) (sym w.self-is) w.in_ok-lift-in-Above.ensures.last in
          lifted_agrees rows from to tasks c.args.self.now now c.count-count.ensures.needs_below c.requires.from c.requires.to side c.requires.agrees
          (subst (λ (places : List ℕ). GoLast tasks places now) c.self.view_is go)
    ]
