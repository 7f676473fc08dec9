use Rattle.std.proofs.Common.{◌≡◌, sym, subst, rules}
use Rattle.pie_vm.specs.Steps.{Moved, Turned, without}
use Rattle.pie_vm.proofs.Turning.{asked_took, moved_turned}
use Rattle.pie_vm.proofs.frame.Frame.ask.Goals as goal

pub returns-in-Some : goal.returns-in-Some
returns-in-Some c =
    let h = asked_took c.args.question c.in-Some.answer (without c.args.count c.args.self.now) in
    let m = moved_turned c.take-in-Some.result c.args.self.now c.take-in-Some.new.self in
    search rules
