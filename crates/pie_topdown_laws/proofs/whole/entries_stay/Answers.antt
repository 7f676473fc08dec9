use Rattle.pie_topdown_laws.proofs.Remaining.{entries_stay as all_stay, check_stays, runs_stay, check_is_back}
use Rattle.pie_topdown_laws.proofs.whole.entries_stay.Goals as goal

pub returns-clause-waiting : goal.returns-clause-waiting
returns-clause-waiting c = λ x b after root es fs S E. all_stay x b after root es fs S E

pub returns-clause-checked : goal.returns-clause-checked
returns-clause-checked c = λ x b after root fs gs rec at required S C. check_stays x b after root gs S fs rec at required C

pub returns-clause-running : goal.returns-clause-running
returns-clause-running c = λ x b after root fs code m n r S top. runs_stay x b after root fs code m n r S top

pub returns-clause-back : goal.returns-clause-back
returns-clause-back c = λ x b root fs rec at required g w. check_is_back x b root fs rec at required g w
