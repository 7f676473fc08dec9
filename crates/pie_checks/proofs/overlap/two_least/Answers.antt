use Rattle.pie_checks.proofs.LeastTask.{some_first, some_second}
use Rattle.pie_checks.proofs.overlap.two_least.Goals as goal

pub unreachable-requires : goal.unreachable-requires
unreachable-requires c = some_first c.args.tasks.now c.args.among.now c.requires.two c.in_default.ensures

pub unreachable-requires-in_default-least_but : goal.unreachable-requires-in_default-least_but
unreachable-requires-in_default-least_but c = some_second c.args.tasks.now c.args.among.now c.in-Some.first c.requires.two c.in_default-least_but.ensures
