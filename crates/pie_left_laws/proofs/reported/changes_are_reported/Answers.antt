use Rattle.pie_left_laws.proofs.Changing.{new_other, other_new, removed_stray, stray_removed}
use Rattle.pie_left_laws.proofs.reported.changes_are_reported.Goals as goal

pub returns-clause-wrote : goal.returns-clause-wrote
returns-clause-wrote c = λ u kept files held path apart met A right.
    (new_other u kept files held apart met A right path, other_new u kept files held apart met A right path)

pub returns-clause-removed : goal.returns-clause-removed
returns-clause-removed c = λ u kept files held found path A right R out.
    (removed_stray u kept files held found path A right R out, stray_removed u kept files held found path A right R)
