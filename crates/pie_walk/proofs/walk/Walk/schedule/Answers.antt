use Rattle.std.proofs.Common.{◌<◌, [], length, sym, subst}
use Rattle.pie_walk.specs.contracts.walk.Walk.{the_view}
use Rattle.pie_walk.specs.Marks.{IsIdle}
use Rattle.pie_walk.specs.States.{WalkState, with_scheduled}
use Rattle.pie_walk.specs.Standing.{Stands}
use Rattle.pie_walk.specs.Counts.{Counts}
use Rattle.pie_walk.proofs.StandSteps.{Leaves, scheduled_stands}
use Rattle.pie_walk.proofs.walk.Walk.schedule.Goals as goal

pub returns-clause-counts : goal.returns-clause-counts
returns-clause-counts c =
    subst (λ (s : WalkState). Counts s (with_scheduled (the_view c.self.inside) c.args.no.0) [] []) c.self.view_is
    (subst (λ (s : WalkState). Leaves s (with_scheduled s c.args.no.0) [] []) (sym c.self.view_is)
    (scheduled_stands c.args.self.now c.args.no.0 c.requires.stands c.requires.idle c.requires.number)).counts

pub returns-clause-stands : goal.returns-clause-stands
returns-clause-stands c =
    (subst (λ (s : WalkState). Leaves s (with_scheduled s c.args.no.0) [] []) (sym c.self.view_is)
    (scheduled_stands c.args.self.now c.args.no.0 c.requires.stands c.requires.idle c.requires.number)).stands
