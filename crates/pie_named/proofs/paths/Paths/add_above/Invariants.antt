use Rattle.pie_named.specs.inner.Above.{Rises}
use Rattle.pie_named.proofs.Above.{way}
use Rattle.pie_named.proofs.paths.Paths.add_above.Given as goal

-- the directories so far, and those that are still to come
abbrev pub invariant-dirs : goal.invariant-dirs
invariant-dirs l = Rises l.fn.self l.self l.path l.at

abbrev pub decreases-dirs : goal.decreases-dirs
decreases-dirs l = way l.at
