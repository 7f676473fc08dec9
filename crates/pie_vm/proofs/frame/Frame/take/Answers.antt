use Rattle.pie_vm.proofs.Turning.{took_moved}
use Rattle.pie_vm.proofs.frame.Frame.take.Goals as goal

pub returns : goal.returns
returns c = took_moved c.args.question c.args.answer _ _ _ _ c.in_ok-note.ensures c.taken.ensures
