use Rattle.std.proofs.Common.{sym, ap, ◌∙◌, arith}
use Rattle.pie_types.specs.Headings.{function_in, place_from}
use Rattle.pie_types.proofs.Found.{past_rows}
use Rattle.pie_types.proofs.headings.Headings.get.Goals as goal

pub returns : goal.returns
returns c =
    past_rows c.args.name.now c.self.inside.rows.items c.in_ok-number.field-0 (omega (arith, c.if-number-len.false, c.len.ensures))
    (ap (place_from 0 c.args.name.now) c.self.view_is ∙ sym c.in_ok-number.ensures) ∙ ap (function_in c.args.name.now) c.self.view_is
