use Rattle.pie_topdown_laws.proofs.Comparing.{begins_at, passes_at, requires_at, ends_at}
use Rattle.pie_topdown_laws.proofs.places.records_are_checked.Goals as goal

pub returns-clause-begin : goal.returns-clause-begin
returns-clause-begin c = λ u before names records root fs rec i O G. begins_at u before names records root fs rec i O G

pub returns-clause-pass : goal.returns-clause-pass
returns-clause-pass c =
    λ u before t rows places n root fs rec at required after apart L B C S. passes_at u before t rows places n root fs rec at required after apart L B C S

pub returns-clause-next : goal.returns-clause-next
returns-clause-next c = λ u before names records root fs rec at required dep task C e w. requires_at u before names records root fs rec at required C dep task e w

pub returns-clause-end : goal.returns-clause-end
returns-clause-end c =
    λ u before names records new root fs rec at required i B C over change. ends_at u before names records root fs rec at required C new i B over change
