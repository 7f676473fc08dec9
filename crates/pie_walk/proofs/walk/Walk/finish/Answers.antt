use Rattle.std.proofs.Common.{ℕ, [], ◌∷◌, sym, subst}
use Rattle.std.specs.List.{Contains}
use Rattle.pie_graph.specs.Numbers.{numbers}
use Rattle.pie_graph.specs.Rows.{Calls, row_of}
use Rattle.pie_walk.specs.contracts.walk.Walk.{the_view}
use Rattle.pie_walk.specs.declared.stack.Entry.TheVariants.{Waits}
use Rattle.pie_walk.specs.States.{WalkState, OnTop}
use Rattle.pie_walk.specs.Standing.{Stands}
use Rattle.pie_walk.specs.Counts.{Counts}
use Rattle.pie_walk.proofs.StateSteps.{fewer_below}
use Rattle.pie_walk.proofs.StandSteps.{Leaves, finished_stands}
use Rattle.pie_walk.proofs.walk.Walk.finish.Goals as goal
use Rattle.pie_walk.proofs.walk.Walk.finish.Goals.{After-settle}

pub set_edges-requires-clause-needs_below : goal.set_edges-requires-clause-needs_below
set_edges-requires-clause-needs_below c =
    let ns = numbers c.args.edges.needs.items in
    fewer_below (the_view c.self.inside) c.args.no.0 ns c.count-count.ensures.needs_below
    (subst (λ (s : WalkState). (k : ℕ) → Contains ns k → Calls s.rows c.args.no.0 k) (sym c.self.view_is) c.requires.needs)

leaves : (c : After-settle) → Leaves (the_view c.self.inside) c.settle.new.self [] (c.args.no.0 ∷ [])
leaves c =
    let ns = numbers c.args.edges.needs.items in
    finished_stands (the_view c.self.inside) c.set_edges.new.self c.settle.new.self c.args.no (row_of c.args.edges)
    (subst (λ (s : WalkState). OnTop s (Waits c.args.no)) (sym c.self.view_is) c.requires.runs) (subst Stands (sym c.self.view_is) c.requires.stands)
    (subst (λ (s : WalkState). (k : ℕ) → Contains ns k → Calls s.rows c.args.no.0 k) (sym c.self.view_is) c.requires.needs)
    c.in_ok-set_edges.ensures.set c.settle.ensures

pub returns-clause-counts : goal.returns-clause-counts
returns-clause-counts c = subst (λ (s : WalkState). Counts s c.settle.new.self [] (c.args.no.0 ∷ [])) c.self.view_is (leaves c).counts

pub returns-clause-stands : goal.returns-clause-stands
returns-clause-stands c = (leaves c).stands
