use Rattle.std.proofs.Common.{◌∙◌}
use Rattle.pie_types.specs.inner.Shown.{heading_tree}
use Rattle.pie_types.proofs.Find.{find_none, find_other, find_same}
use Rattle.pie_types.proofs.typed.Typed.find.Goals as goal

pub returns : goal.returns
returns c =
    let h = heading_tree c.in_ok-heading.heading.now in
    let n = c.as_str-name.ensures in
    c.number.ensures ∙ find_same _ _ _ c.args.task.now _ h c.self.view_is n c.self.invariant.0 c.in_ok-heading.ensures c.if-not-takes.ensures

pub returns-in_err-heading : goal.returns-in_err-heading
returns-in_err-heading c =
    c.from_residual.ensures ∙ find_none _ _ _ c.args.task.now _ c.self.view_is c.as_str-name.ensures c.self.invariant.0 c.in_err-heading.ensures

pub returns-then-not-takes : goal.returns-then-not-takes
returns-then-not-takes c =
    let h = heading_tree c.in_ok-heading.heading.now in
    find_other _ _ _ c.args.task.now _ h c.self.view_is c.as_str-name.ensures c.self.invariant.0 c.in_ok-heading.ensures c.if-not-takes.ensures
