use Rattle.std.proofs.Common.{rules}
use Rattle.pie_graph.specs.Numbers.{numbers}
use Rattle.pie_results.proofs.Starting.{starts_with, starts_without}
use Rattle.pie_results.proofs.outputs.put_number.Goals as goal

pub returns-in_ok-push-in-Some : goal.returns-in_ok-push-in-Some
returns-in_ok-push-in-Some c = λ seen are.
    starts_with c.args.tables.now.names seen c.args.root.now c.args.nos.now.items c.push.new.self.items c.in-Some.no
    (search rules) c.in_ok-push-in-Some.ensures.items are

pub returns-in-None : goal.returns-in-None
returns-in-None c = λ seen are. starts_without c.args.tables.now.names seen c.args.root.now (numbers c.args.nos.now.items) (search rules) are
