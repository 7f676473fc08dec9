use Rattle.std.proofs.Common.{◌∙◌}
use Rattle.pie_diff.proofs.Removing.{removals_of, removals_out}
use Rattle.pie_diff.proofs.removed.removals.Goals as goal

pub returns-clause-gone : goal.returns-clause-gone
returns-clause-gone c =
    removals_of c.args.held.now c.args.rows.now c.as_slice.result.now c.as_slice-2.result.now c.in_ok-found.found.items
    (c.as_slice.ensures.value ∙ c.in_ok-there.ensures.paths) (c.as_slice-2.ensures.value ∙ c.in_ok-kept.ensures) c.in_ok-found.ensures

pub returns-clause-out : goal.returns-clause-out
returns-clause-out c =
    removals_out c.args.held.now c.args.rows.now c.in_ok-found.found.items c.in_ok-there.ensures.out
    (removals_of c.args.held.now c.args.rows.now c.as_slice.result.now c.as_slice-2.result.now c.in_ok-found.found.items
    (c.as_slice.ensures.value ∙ c.in_ok-there.ensures.paths) (c.as_slice-2.ensures.value ∙ c.in_ok-kept.ensures) c.in_ok-found.ensures)
