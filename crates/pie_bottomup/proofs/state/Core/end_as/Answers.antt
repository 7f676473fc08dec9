use Rattle.std.proofs.Common.{◌∙◌, Some, sym, ap, subst}
use Rattle.pie_running.specs.inner.Noted.{Noted}
use Rattle.pie_record.specs.declared.task_record.TaskRecord.{TaskRecord}
use Rattle.pie_bottomup.specs.inner.States.{MayEnd}
use Rattle.pie_bottomup.proofs.Parts.{ended_kept, named_encodable}
use Rattle.pie_bottomup.proofs.Owning.{ends_so}
use Rattle.std.proofs.Common.{refl}
use Rattle.pie_bottomup.proofs.GoingEvents.{notes_goes}
use Rattle.pie_bottomup.proofs.state.Core.end_as.Goals as goal

pub end_with-requires-clause-ends : goal.end_with-requires-clause-ends
end_with-requires-clause-ends c =
    let rec : TaskRecord = record { task = c.in_ok-copy.field-0; deps = c.new.result; writes = c.new-2.result; outcome = c.args.outcome } in
    let named = c.task.ensures ∙ ap Some (sym c.in_ok-copy.ensures) in
    let ends = subst (λ (n : Noted). MayEnd c.args.self.now c.args.no c.args.from n c.args.outcome) c.into_parts-deps.ensures c.requires.ends in
    record {
      named = named;
      kept = ended_kept c.args.self.now c.args.no c.args.from c.into_parts-deps.result c.args.notes.left c.args.outcome rec ends
          (named_encodable c.args.self.now.tables.names c.args.no.0 rec.task c.as_slice-names.ensures.canonical named) c.new.ensures c.new-2.ensures refl;
      ends = ends_so c.args.self.now c.args.no c.args.from c.args.notes.left c.into_parts-deps.result rec ends named c.new.ensures;
    }

pub returns-clause-whole : goal.returns-clause-whole
returns-clause-whole c =
    notes_goes c.args.self.now c.end_with.new.self c.args.no c.args.from c.args.notes c.args.outcome
    (record { task = c.in_ok-copy.field-0; deps = c.new.result; writes = c.new-2.result; outcome = c.args.outcome }) c.end_with.result
    (c.task.ensures ∙ ap Some (sym c.in_ok-copy.ensures)) (c.new.ensures ∙ sym (ap (λ (n : Noted). n.deps) c.into_parts-deps.ensures))
    (c.new-2.ensures ∙ sym (ap (λ (n : Noted). n.writes) c.into_parts-deps.ensures)) refl c.end_with.ensures.whole
