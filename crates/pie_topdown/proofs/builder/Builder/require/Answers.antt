use Rattle.std.proofs.Common.{Some, sym, ◌∙◌}
use Rattle.pie_record.specs.inner.Names.{Numbers}
use Rattle.pie_task_laws.specs.Beginning.{calling}
use Rattle.pie_topdown.proofs.Answering.{calls_turn, descends_turn}
use Rattle.pie_topdown.proofs.Pushed.{big_turn}
use Rattle.pie_topdown.proofs.builder.Builder.require.Goals as goal

pub returns-then-not-is_small-clause-right : goal.returns-then-not-is_small-clause-right
returns-then-not-is_small-clause-right c =
    big_turn c.args.self.now c.fail.new.self c.args.no.0 c.args.waiting c.args.required c.args.how c.fail.result c.requires.number c.requires.waits.left
    (sym c.is_small.ensures.limits ∙ c.if-not-is_small.true) c.fail.ensures.right

pub returns-in-Some-clause-right : goal.returns-in-Some-clause-right
returns-in-Some-clause-right c =
    let named : Numbers c.args.self.now.ledger.tables.names c.args.required (Some c.in-Some.callee) = rw c.in-Some.is at c.in_ok-callee.ensures in
    calls_turn c.args.self.now c.answer.new.self c.args.waiting c.args.required c.args.how c.in-Some.callee.0 c.answer.result
    (sym c.is_small.ensures.limits ∙ c.if-not-is_small.false) c.requires.waits.left named c.answer.ensures.right

pub returns-in-None-clause-right : goal.returns-in-None-clause-right
returns-in-None-clause-right c =
    descends_turn c.args.self.now c.descend_from.new.self (calling c.args.waiting c.args.required c.args.how) c.descend_from.result
    (sym c.is_small.ensures.limits ∙ c.if-not-is_small.false) c.descend_from.ensures.right
