use Rattle.std.proofs.Common.{◌≡◌, List, ap, ◌∙◌}
use Rattle.std.specs.Option.{option_copied}
use Rattle.pie_graph.specs.Numbers.{numbers}
use Rattle.pie_graph.specs.Rows.{Row, row_at}
use Rattle.pie_bottomup.proofs.Twofold.{same_edges}
use Rattle.pie_bottomup.proofs.state.Core.has_other_edges.Goals as goal

pub returns : goal.returns
returns c = λ was kept off.
    let row = row_at c.args.self.now.frames.walk.rows c.args.no.0 in
    let needs : numbers c.callees.result.now ≡ row.needs =
    c.callees.ensures.callees ∙ ap (λ (rows : List Row). (row_at rows c.args.no.0).needs) (c.rows.ensures ∙ ap (λ w. w.rows) c.walk.ensures) in
    same_edges row c.args.from was c.args.rec.now (numbers c.callees.result.now) c.is_twice.result c.has_other_writes.result (option_copied c.get.result) needs
    c.is_twice.ensures off (c.get.ensures ∙ kept) c.has_other_writes.ensures c.if-has_other_writes.false
