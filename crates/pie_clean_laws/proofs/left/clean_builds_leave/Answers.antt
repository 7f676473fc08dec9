use Rattle.std.proofs.Common.{Some}
use Rattle.pie_clean_laws.proofs.Leaving.{afresh_left, clean_left, same_left}
use Rattle.pie_clean_laws.proofs.Same.{afresh_accepted, clean_accepted, same_accepted}
use Rattle.pie_clean_laws.proofs.left.clean_builds_leave.Goals as goal

pub returns-clause-clean : goal.returns-clause-clean
returns-clause-clean c = λ d left r leaves accepted. clean_left d left r leaves accepted

pub returns-clause-same : goal.returns-clause-same
returns-clause-same c = λ d left r clean accepted. same_left d left r clean accepted

pub returns-clause-afresh : goal.returns-clause-afresh
returns-clause-afresh c = λ d left r afresh accepted. afresh_left d left r afresh accepted

pub returns-clause-accepted : goal.returns-clause-accepted
returns-clause-accepted c = λ d left r a. (
  λ l. clean_accepted d a r (Some left) l,
  λ l. same_accepted d a r (Some left) l,
  λ l. afresh_accepted d a r (Some left) l,
)
