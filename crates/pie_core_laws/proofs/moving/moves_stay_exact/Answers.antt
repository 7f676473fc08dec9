use Rattle.pie_core_laws.proofs.Moved.{moves_stay}
use Rattle.pie_core_laws.proofs.Grown.{new_stays}
use Rattle.pie_core_laws.proofs.moving.moves_stay_exact.Goals as goal

pub returns-clause-moves : goal.returns-clause-moves
returns-clause-moves c = λ u names records s after e w v m. moves_stay u names records s after e w v m

pub returns-clause-grows : goal.returns-clause-grows
returns-clause-grows c = λ u names records s task e w v tasks few none. new_stays u names records s task e w v tasks few none
