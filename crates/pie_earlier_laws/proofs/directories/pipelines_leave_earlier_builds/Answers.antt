use Rattle.pie_earlier_laws.proofs.Pipelines.{pipeline_left, sources_agree}
use Rattle.pie_earlier_laws.proofs.directories.pipelines_leave_earlier_builds.Goals as goal

pub returns-clause-left : goal.returns-clause-left
returns-clause-left c =
    λ fs built left roots files accepted same stands provides. pipeline_left fs built left roots files accepted same stands provides

pub returns-clause-sources : goal.returns-clause-sources
returns-clause-sources c = λ fs gs built left now roots changes E N. sources_agree fs gs built left now roots changes E N
