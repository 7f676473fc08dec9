use Rattle.std.proofs.Common.{◌≡◌, ◌∙◌, List, None, Some, length, ap, sym, subst, inl, inr}
use Rattle.std.specs.Prelude.{IfSome}
use Rattle.std.proofs.lemmas.List.{length-map}
use Rattle.pie_value.specs.declared.task.Task.{Task}
use Rattle.pie_graph.specs.declared.edges.TaskNo.{TaskNo}
use Rattle.pie_graph.specs.Numbers.{numbers}
use Rattle.pie_graph.specs.Rows.{Row, row_at}
use Rattle.pie_running.specs.inner.Coded.{IsCodeFor}
use Rattle.pie_builder_laws.specs.Names.{AreTasks}
use Rattle.pie_builder_laws.proofs.Naming.{canonical_at}
use Rattle.pie_bottomup.proofs.GoingSteps.{lost_goes}
use Rattle.pie_bottomup.proofs.state.Core.lose.Goals as goal

pub end_with-requires-clause-ends : goal.end_with-requires-clause-ends
end_with-requires-clause-ends c = record {
  named = c.task.ensures ∙ ap Some (sym c.in_ok-rec.ensures.task);
  kept = inr c.in_ok-rec.ensures.outcome;
  ends = inl c.in_ok-rec.ensures.outcome;
}

pub returns-clause-whole : goal.returns-clause-whole
returns-clause-whole c =
    let self = c.args.self.now in
    let needs : numbers c.callees-from.result.now ≡ (row_at self.frames.walk.rows c.args.no.0).needs =
    c.callees-from.ensures.callees ∙ ap (λ (rows : List Row). (row_at rows c.args.no.0).needs) (c.rows.ensures ∙ ap (λ w. w.rows) c.walk.ensures) in
    let names : AreTasks self.tables.names = record { distinct = c.as_slice-names.ensures.distinct; canonical = c.as_slice-names.ensures.canonical } in
    lost_goes self c.end_with.new.self c.args.no (length c.callees-from.result.now) c.task.result.now c.in_ok-rec.rec c.end_with.result c.requires.taken.holds
    c.task.ensures (canonical_at self.tables.names names c.args.no.0 c.task.result.now c.task.ensures) c.in_ok-rec.ensures.is
    (subst (λ o. IfSome o (λ (t : Task). IsCodeFor self.plan.typed.now self.plan.code.now t None)) c.task.ensures c.requires.none)
    (sym (length-map c.callees-from.result.now (λ (t : TaskNo). t.0)) ∙ ap length needs) c.end_with.ensures.whole
