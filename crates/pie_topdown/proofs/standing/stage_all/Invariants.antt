use Rattle.std.proofs.Common.{length}
use Rattle.pie_topdown.proofs.Staging.{AreStagedFrom}
use Rattle.pie_topdown.proofs.standing.stage_all.Given as goal

-- the contents that were taken out are staged
abbrev pub invariant-contents : goal.invariant-contents
invariant-contents l = AreStagedFrom l.fn.stage l.stage l.no.0 l.writes l.fn.contents.items l.contents.items

abbrev pub decreases-contents : goal.decreases-contents
decreases-contents l = length l.contents.items
