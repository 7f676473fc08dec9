use Rattle.std.proofs.Common.{◌≡◌, None, Some, sym, ap, subst, ◌∙◌, rules}
use Rattle.std.specs.Option.{option_map}
use Rattle.pie_value.specs.declared.value.Value.{Value}
use Rattle.pie_record.specs.declared.task_record.Outcome.{Outcome}
use Rattle.pie_record.specs.declared.task_record.Outcome.TheVariants as outcomes
use Rattle.pie_record.specs.declared.task_record.TaskRecord.{TaskRecord}
use Rattle.pie_record.specs.inner.Records.{record_of as kept_of}
use Rattle.pie_tables.specs.Tabled.{HasFailed}
use Rattle.pie_topdown.proofs.Answering.{answers_given}
use Rattle.pie_topdown.proofs.Rounds.{closes_if}
use Rattle.pie_topdown.proofs.builder.Builder.answer.Goals.{in_default-via-in-Some+in_default, in_default-via-in_default}
use Rattle.pie_topdown.proofs.builder.Builder.answer.Goals as goal

pub returns-in-Some-Done-clause-right : goal.returns-in-Some-Done-clause-right
returns-in-Some-Done-clause-right c =
    answers_given c.args.self.now c.args.self.now c.args.caller c.args.callee.0 c.in-Some-Done.output c.give.result
    (sym (c.in-Some-Done.is ∙ ap Some c.in-Some-Done.field-0-is) ∙ c.in_ok-output.ensures.outcome) c.give.ensures.right

one_outcome : (x y : Outcome) → Some x ≡ Some y → x ≡ y
one_outcome x y e = cc

never : (x : Outcome) → None ≡ Some x → ⊥
never x e = cc

pub returns-clause-right : goal.returns-clause-right
returns-clause-right c =
    let none : (v : Value) → Some (outcomes.Done v) ≡ option_map (λ (x : TaskRecord). x.outcome) (kept_of c.args.self.now.ledger.tables.records c.args.callee.0) → ⊥ =
    λ v e. elim c.in_default.branch [
      | in_default-via-in-Some+in_default w ↦
          let failed : HasFailed w.in_default.field-0 = search rules in
          subst HasFailed (sym (one_outcome (outcomes.Done v) w.in_default.field-0 (e ∙ sym c.in_ok-output.ensures.outcome ∙ w.in_default.is))) failed
      | in_default-via-in_default w ↦ never (outcomes.Done v) (sym w.in_default.is ∙ c.in_ok-output.ensures.outcome ∙ sym e)
    ] in
    closes_if c.args.self.now c.close.new.self c.args.caller c.args.callee.0 c.task.result.now c.close.result c.requires.waits.site c.task.ensures c.requires.named
    none c.close.ensures.closed
