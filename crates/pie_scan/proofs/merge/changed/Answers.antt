use Rattle.std.proofs.Common.{subst, sym}
use Rattle.pie_scan.specs.Changes.{AreChanged}
use Rattle.pie_scan.proofs.Merging.{merged_is}
use Rattle.pie_scan.proofs.Separating.{changed_covers}
use Rattle.pie_scan.proofs.merge.changed.Goals as goal

pub returns-clause-covers : goal.returns-clause-covers
returns-clause-covers c =
    changed_covers c.args.old.now c.args.now.now c.in_ok-found.found.items
    (subst (AreChanged c.args.old.now c.args.now.now) (sym c.in_ok-found.ensures)
    (merged_is c.args.old.now c.args.now.now c.requires.old_in_order c.requires.now_in_order))
