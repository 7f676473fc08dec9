use Rattle.pie_topdown.proofs.Growing.{given_noted}
use Rattle.pie_topdown.proofs.Answering.{gives_turn}
use Rattle.pie_topdown.proofs.builder.Builder.give.Goals as goal

pub returns-clause-turns : goal.returns-clause-turns
returns-clause-turns c = record {
  site = c.requires.site;
  hand = record {
    ready = c.in_ok-task.ensures.ready.0;
    noted = given_noted c.args.self.now.ledger c.args.caller.waiting.notes c.in_ok-task.task.notes c.args.caller.required c.args.callee.0 0
        c.requires.caller.noted c.in_ok-task.ensures.ready.1 c.requires.named c.requires.ended;
  };
}

pub returns-clause-right : goal.returns-clause-right
returns-clause-right c =
    gives_turn c.args.self.now c.args.caller c.args.callee.0 c.args.output 0 c.in_ok-task.task c.requires.named c.requires.output c.in_ok-task.ensures.told
    c.in_ok-task.ensures.ready.1
