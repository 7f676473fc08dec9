use Rattle.pie_fresh.specs.inner.Builds.{OnlyOut}
use Rattle.pie_fresh.specs.inner.Collected.{AreOfTasks, HasAllBelow}
use Rattle.pie_fresh.proofs.ledger.Ledger.files.Given as goal

-- the files so far lie under `out/`, and are those of the tasks with lower numbers
abbrev pub invariant-loop-n : goal.invariant-loop-n
invariant-loop-n l = record { out : OnlyOut l.files; of_tasks : AreOfTasks l.self l.files; all : HasAllBelow l.self l.n l.files }
