use Rattle.pie_running.proofs.Noting.{required_sound_as}
use Rattle.std.proofs.Common.{arith}
use Rattle.pie_running.proofs.Noting.{required_given}
use Rattle.pie_running.proofs.requiring.told_output.Goals as goal

pub answered-requires-clause-sound : goal.answered-requires-clause-sound
answered-requires-clause-sound c =
    required_sound_as c.args.dep c.args.no.0 c.args.height c.args.waiting.notes c.required.new.self c.in_ok-required.ensures c.requires.dep
    c.requires.waits.left c.requires.waits.sound

pub returns-clause-ready : goal.returns-clause-ready
returns-clause-ready c = grind (arith, required_sound_as, required_given)
