use Rattle.pie_model_pipeline.specs.World.{project}
use Rattle.pie_compare_laws.proofs.Agreement.{standing_agree}
use Rattle.pie_compare_laws.proofs.Standing.{agreeing_stand}
use Rattle.pie_compare_laws.proofs.agreeing.standing_observations_agree.Goals as goal

pub returns-clause-agree : goal.returns-clause-agree
returns-clause-agree c =
    λ fs d t rows n settled told number rec present rests still h. standing_agree (project fs d) t rows n settled told number rec present rests still h

pub returns-clause-stand : goal.returns-clause-stand
returns-clause-stand c =
    λ fs d t rows n settled told number rec present rests known plain outputs h.
    agreeing_stand fs d t rows n settled told number rec present rests known plain outputs h
