use Rattle.pie_check_laws.proofs.Places.{same_entries}
use Rattle.pie_check_laws.proofs.Kept.{writes_are, misses_are}
use Rattle.pie_check_laws.proofs.laws.records_tell_what_is_checked.Goals as goal

pub returns-clause-writes : goal.returns-clause-writes
returns-clause-writes c = λ w P names records live recorded living p u. same_entries _ _ (writes_are w P names records live recorded living) p u

pub returns-clause-misses : goal.returns-clause-misses
returns-clause-misses c = λ w P names records live recorded living p u. same_entries _ _ (misses_are w P names records live recorded living) p u
