-- proofs/ledger/Ledger/gathered/Answers.antt
use Rattle.pie_fresh.proofs.Placing.{gathered_none}
use Rattle.pie_fresh.proofs.ledger.Ledger.gathered.Goals as goal

pub loop-n-init : goal.loop-n-init
loop-n-init c = gathered_none c.args.self.now c.in_ok-places.places.items c.in_ok-places.ensures.items
