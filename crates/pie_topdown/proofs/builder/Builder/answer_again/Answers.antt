use Rattle.std.specs.Prelude.{None}
use Rattle.pie_record.specs.inner.Names.{Numbers}
use Rattle.pie_topdown.proofs.Answering.{again_none, again_turn}
use Rattle.pie_topdown.proofs.builder.Builder.answer_again.Goals as goal

pub returns-in-Some-clause-right : goal.returns-in-Some-clause-right
returns-in-Some-clause-right c =
    again_turn c.args.self.now c.answer.new.self c.args.caller c.answer.result c.answer.ensures.right

pub returns-in-None-clause-right : goal.returns-in-None-clause-right
returns-in-None-clause-right c =
    let absent : Numbers c.args.self.now.ledger.tables.names c.args.caller.required None = rw c.in-None.is at c.in_ok-callee.ensures in
    again_none c.args.self.now c.fail_as_unknown.new.self c.args.caller c.fail_as_unknown.result absent
