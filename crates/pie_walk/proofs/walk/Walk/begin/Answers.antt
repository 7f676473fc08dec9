use Rattle.std.proofs.Common.{[], sym, subst}
use Rattle.pie_walk.specs.States.{WalkState}
use Rattle.pie_walk.specs.Standing.{Stands}
use Rattle.pie_walk.specs.Counts.{Counts}
use Rattle.pie_walk.proofs.StandSteps.{begun_stands}
use Rattle.pie_walk.proofs.walk.Walk.begin.Goals as goal

pub returns-clause-counts : goal.returns-clause-counts
returns-clause-counts c =
    subst (λ (s : WalkState). Counts c.args.self.now s [] []) (sym c.in_ok-come_to.ensures)
    (begun_stands c.args.self.now c.args.root c.requires.stands c.requires.idle c.requires.number).counts

pub returns-clause-stands : goal.returns-clause-stands
returns-clause-stands c =
    subst Stands (sym c.in_ok-come_to.ensures)
    (begun_stands c.args.self.now c.args.root c.requires.stands c.requires.idle c.requires.number).stands
