-- proofs/ledger/Ledger/gathered/Invariants.antt
use Rattle.pie_fresh.specs.inner.Ordered.{AreGathered}
use Rattle.pie_fresh.proofs.ledger.Ledger.gathered.Given as goal

-- the places so far are those of the tasks with lower numbers
abbrev pub invariant-loop-n : goal.invariant-loop-n
invariant-loop-n l = AreGathered l.self l.n l.places.items
