use Rattle.pie_core_laws.proofs.Finished.{finish_stays}
use Rattle.pie_core_laws.proofs.finishing.finishes_stay_exact.Goals as goal

pub returns : goal.returns
returns c =
    λ u names records changed s after no row rec update e w v puts at right row_is ready f.
    finish_stays u names records changed s after no row rec update e w v puts at right row_is ready f
