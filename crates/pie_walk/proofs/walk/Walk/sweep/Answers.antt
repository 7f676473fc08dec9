use Rattle.pie_walk.proofs.SweepSteps.{HasSwept, swept_before}
use Rattle.pie_walk.proofs.walk.Walk.sweep.Goals as goal

pub returns-then-is_swept : goal.returns-then-is_swept
returns-then-is_swept c =
    let has = swept_before c.args.self.now c.args.no.0 c.requires.stands (c.is_swept.ensures.0 c.if-is_swept.true) in
    record { sweeps = has.sweeps; counts = has.counts; stands = has.stands }
