use Rattle.std.proofs.Common.{◌<◌, [], length, sym, subst}
use Rattle.pie_walk.specs.contracts.walk.Walk.{the_view}
use Rattle.pie_walk.specs.States.{WalkState}
use Rattle.pie_walk.specs.Standing.{Stands}
use Rattle.pie_walk.specs.Counts.{Counts}
use Rattle.pie_walk.proofs.StandSteps.{Leaves, more_stands}
use Rattle.pie_walk.proofs.walk.Walk.add.Goals as goal
use Rattle.pie_walk.proofs.walk.Walk.add.Goals.{In_ok-no}

abbrev grown : In_ok-no → WalkState
grown c = record {
  rows = c.add.new.self;
  places = c.grow.new.self;
  marks = c.push.new.self.items;
  scheduled = c.push-2.new.self.items;
  looks_out = c.push-3.new.self.items;
  swept = c.push-4.new.self.items;
  stack = c.self.inside.stack;
}

leaves : (c : In_ok-no) → Leaves (the_view c.self.inside) (grown c) [] []
leaves c =
    more_stands (the_view c.self.inside) c.add.new.self c.grow.new.self c.push.new.self.items c.push-2.new.self.items c.push-3.new.self.items
    c.push-4.new.self.items c.count-count.ensures.needs_below
    (subst (λ (s : WalkState). length s.rows < 50000) (sym c.self.view_is) c.requires.few)
    (subst Stands (sym c.self.view_is) c.requires.stands) c.in_ok-no.ensures.added c.in_ok-grow.ensures.grown c.in_ok-push.ensures.items
    c.in_ok-push-2.ensures.items c.in_ok-push-3.ensures.items c.in_ok-push-4.ensures.items

pub returns-clause-counts : goal.returns-clause-counts
returns-clause-counts c = subst (λ (s : WalkState). Counts s (grown c) [] []) c.self.view_is (leaves c).counts

pub returns-clause-stands : goal.returns-clause-stands
returns-clause-stands c = (leaves c).stands
