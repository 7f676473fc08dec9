use Rattle.std.proofs.Common.{◌∙◌, ◌++◌, ◌∷◌, [], List, Some, ap, sym, refl, inl, inr}
use Rattle.pie_record.specs.declared.dep.Dep.{Dep}
use Rattle.pie_running.specs.inner.Noted.{Noted}
use Rattle.pie_bottomup.proofs.GoingAnswers.{callers_goes}
use Rattle.pie_bottomup.proofs.state.Core.end_below.Goals as goal

pub end_with-requires-clause-ends : goal.end_with-requires-clause-ends
end_with-requires-clause-ends c = record {
  named = c.task.ensures ∙ ap Some (sym c.in_ok-copy.ensures);
  kept = inr c.requires.failed;
  ends = inl c.requires.failed;
}

pub returns-clause-whole : goal.returns-clause-whole
returns-clause-whole c =
    callers_goes c.args.self.now c.end_with.new.self c.args.no c.args.from c.args.caller c.args.outcome
    (record { task = c.in_ok-copy.field-0; deps = c.new.result; writes = c.new-2.result; outcome = c.args.outcome }) c.end_with.result
    (c.task.ensures ∙ ap Some (sym c.in_ok-copy.ensures))
    (c.new.ensures ∙ c.in_ok-push.ensures.items
    ∙ ap (λ (ds : List Dep). ds ++ c.lost.result ∷ []) (sym (ap (λ (n : Noted). n.deps) (sym c.into_notes.ensures ∙ c.into_parts-deps.ensures)))
    ∙ ap (λ (d : Dep). c.args.caller.waiting.notes.deps ++ d ∷ []) c.lost.ensures)
    (c.new-2.ensures ∙ sym (ap (λ (n : Noted). n.writes) (sym c.into_notes.ensures ∙ c.into_parts-deps.ensures))) refl c.end_with.ensures.whole
