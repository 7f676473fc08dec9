use Rattle.std.proofs.Common.{sym, subst}
use Rattle.std.specs.Prelude.{All}
use Rattle.pie_scan.specs.Entries.{AreInOrder}
use Rattle.pie_scan.specs.Texts.{HasMark}
use Rattle.pie_listing.proofs.Joining.{scanned_if, scanned_as, joined_in_order, joined_marked}
use Rattle.pie_listing.proofs.renewing.rescan.Goals as goal

pub returns-clause-scanned : goal.returns-clause-scanned
returns-clause-scanned g c =
    scanned_if (g.F.Files.holds c.args.files.now) c.args.seen.now c.as_slice.result.now c.in_ok-entries.entries.items c.in_ok-entries.ensures c.requires.in_order
    (scanned_as (g.F.Files.holds c.args.files.now) c.in_ok-out.out.items c.as_slice.result.now c.as_slice.ensures.value c.in_ok-out.ensures.scanned)

pub returns-clause-ordered : goal.returns-clause-ordered
returns-clause-ordered g c =
    subst AreInOrder (sym c.in_ok-entries.ensures)
    (joined_in_order c.args.seen.now c.as_slice.result.now c.requires.in_order (subst AreInOrder (sym c.as_slice.ensures.value) c.in_ok-out.ensures.ordered))

pub returns-clause-marks : goal.returns-clause-marks
returns-clause-marks g c =
    subst (All HasMark) (sym c.in_ok-entries.ensures)
    (joined_marked c.args.seen.now c.as_slice.result.now c.requires.marked (subst (All HasMark) (sym c.as_slice.ensures.value) c.in_ok-out.ensures.marks))
