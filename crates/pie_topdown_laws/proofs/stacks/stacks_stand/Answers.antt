use Rattle.pie_model.specs.inner.RecordLaws.{Passes}
use Rattle.pie_settle_laws.proofs.Leaving.{going_stands, required_has}
use Rattle.pie_topdown_laws.specs.Tables.{unrecorded}
use Rattle.pie_topdown_laws.proofs.stacks.stacks_stand.Goals as goal

pub returns-clause-top : goal.returns-clause-top
returns-clause-top c = λ x R names root fs f K. going_stands x.world x.now R (Passes (unrecorded R)) root fs f K.goes

pub returns-clause-required : goal.returns-clause-required
returns-clause-required c = λ x R names root fs f n h u K l q. required_has x.world x.now R (Passes (unrecorded R)) root fs f K.goes n h u l q
