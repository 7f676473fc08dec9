use Rattle.std.proofs.Common.{◌∙◌, ap, eqb}
use Rattle.std.specs.List.{list_any}
use Rattle.pie_graph.specs.declared.edges.TaskNo.{TaskNo}
use Rattle.pie_graph.proofs.HasUse.{list_any_numbers}
use Rattle.pie_graph.proofs.edges.Edges.has.Goals as goal

pub returns-in-Calls : goal.returns-in-Calls
returns-in-Calls c =
    rw c.in-Calls.is
    (c.contains.ensures.value ∙ ap (list_any (λ (t : TaskNo). eqb t.0 c.in-Calls.callee.0)) c.deref.ensures.value
    ∙ list_any_numbers (λ n. eqb n c.in-Calls.callee.0) c.args.self.now.needs.items)
