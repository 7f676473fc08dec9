use Rattle.std.proofs.Common.{◌<◌, [], length, sym, subst}
use Rattle.pie_walk.specs.contracts.walk.Walk.{the_view}
use Rattle.pie_walk.specs.declared.stack.Entry.TheVariants.{Waits}
use Rattle.pie_walk.specs.States.{WalkState, OnTop}
use Rattle.pie_walk.specs.Standing.{Stands}
use Rattle.pie_walk.specs.Counts.{Counts}
use Rattle.pie_walk.proofs.StandSteps.{Leaves, required_stands}
use Rattle.pie_walk.proofs.walk.Walk.require.Goals as goal
use Rattle.pie_walk.proofs.walk.Walk.require.Goals.{In_ok-come_to-in-None}

leaves : (c : In_ok-come_to-in-None) → Leaves (the_view c.self.inside) c.come_to.new.self [] []
leaves c =
    let inserted = rw c.in-None.is at c.in_ok-found.ensures.inserted in
    required_stands (the_view c.self.inside) c.push_need.new.self c.insert.new.self c.come_to.new.self c.args.from c.args.to
    (subst (λ (s : WalkState). OnTop s (Waits c.args.from)) (sym c.self.view_is) c.requires.runs) (subst Stands (sym c.self.view_is) c.requires.stands)
    (subst (λ (s : WalkState). c.args.to.0 < length s.rows) (sym c.self.view_is) c.requires.number)
    inserted c.in_ok-push_need-in-None.ensures.pushed c.in_ok-come_to-in-None.ensures

pub returns-in_ok-come_to-in-None-clause-counts : goal.returns-in_ok-come_to-in-None-clause-counts
returns-in_ok-come_to-in-None-clause-counts c = subst (λ (s : WalkState). Counts s c.come_to.new.self [] []) c.self.view_is (leaves c).counts

pub returns-in_ok-come_to-in-None-clause-stands : goal.returns-in_ok-come_to-in-None-clause-stands
returns-in_ok-come_to-in-None-clause-stands c = (leaves c).stands
