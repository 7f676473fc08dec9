use Rattle.pie_results.proofs.MadeLemmas.{empty_kept}
use Rattle.pie_topdown.proofs.settling.refused.Goals as goal

pub returns-clause-kept : goal.returns-clause-kept
returns-clause-kept c = empty_kept _ c.new.ensures.items c.new-2.ensures.items
