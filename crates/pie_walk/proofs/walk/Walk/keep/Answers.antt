use Rattle.std.proofs.Common.{[], ◌∷◌, sym, subst}
use Rattle.pie_walk.specs.States.{WalkState}
use Rattle.pie_walk.specs.Standing.{Stands}
use Rattle.pie_walk.specs.Counts.{Counts}
use Rattle.pie_walk.proofs.StandSteps.{kept_stands}
use Rattle.pie_walk.proofs.walk.Walk.keep.Goals as goal

pub returns-clause-counts : goal.returns-clause-counts
returns-clause-counts c =
    subst (λ (s : WalkState). Counts c.args.self.now s [] (c.args.no.0 ∷ [])) (sym c.settle.ensures)
    (kept_stands c.args.self.now c.args.no c.requires.runs c.requires.stands).counts

pub returns-clause-stands : goal.returns-clause-stands
returns-clause-stands c = subst Stands (sym c.settle.ensures) (kept_stands c.args.self.now c.args.no c.requires.runs c.requires.stands).stands
