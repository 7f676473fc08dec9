use Rattle.pie_topdown_laws.proofs.Remaining.{new_goes, end_goes, own_stages, fetches}
use Rattle.pie_topdown_laws.proofs.whole.builds_go_beside.Goals as goal

pub returns-clause-new : goal.returns-clause-new
returns-clause-new c = λ b t fs none. new_goes b t fs none

pub returns-clause-end : goal.returns-clause-end
returns-clause-end c = λ x b new u r fs T E. end_goes x b new u r fs T E

pub returns-clause-own : goal.returns-clause-own
returns-clause-own c = λ x b later root fs f k t top is at same. own_stages x b later root fs f k t top is at same

pub returns-clause-fetched : goal.returns-clause-fetched
returns-clause-fetched c = λ x b later root fs f top tasks same. fetches x b later root fs f top tasks same
