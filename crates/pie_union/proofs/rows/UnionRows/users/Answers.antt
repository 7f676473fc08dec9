use Rattle.std.proofs.Common.{ap, ◌∙◌, map}
use Rattle.std.proofs.lemmas.Result.{IfOk-weaker}
use Rattle.pie_graph.specs.declared.edges.Edges.{Edges}
use Rattle.pie_graph.specs.Numbers.{numbers}
use Rattle.pie_graph.specs.Rows.{row_of}
use Rattle.pie_graph.specs.Uses.{has}
use Rattle.pie_graph.proofs.HasUse.{users_of}
use Rattle.pie_union.proofs.rows.UnionRows.users.Goals as goal

pub returns : goal.returns
returns c = IfOk-weaker c.marked.result _ _
    (λ found x. users_of c.self.inside.rows.items c.args.self.now c.args.what.now c.deref.result.now (numbers found.items) c.self.view_is
    (c.deref.ensures.value ∙ c.in_ok-marks.ensures ∙ ap (map (λ (e : Edges). has (row_of e) c.args.what.now)) c.as_slice.ensures.value) x)
    c.marked.ensures
