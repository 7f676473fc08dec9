use Rattle.std.proofs.Common.{subst}
use Rattle.pie_value.specs.declared.verdict.Refusal.{Refusal}
use Rattle.pie_topdown.specs.inner.Turns.{FailsBy}
use Rattle.pie_topdown.proofs.Answering.{lost_turn}
use Rattle.pie_topdown.proofs.builder.Builder.fail_as_unknown.Goals as goal

pub returns-clause-right : goal.returns-clause-right
returns-clause-right c =
    lost_turn c.args.self.now c.fail_as.new.self c.args.caller c.fail_as.result c.requires.caller.waits.left
    (subst (λ (why : Refusal). FailsBy c.args.self.now why c.fail_as.new.self c.fail_as.result) c.unknown.ensures c.fail_as.ensures.fails)
