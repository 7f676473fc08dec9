use Rattle.std.proofs.Common.{ℕ, List, take}
use Rattle.std.specs.Prelude.{All}
use Rattle.pie_fresh.specs.inner.Builds.{OnlyOut}
use Rattle.pie_fresh.specs.inner.Collected.{AreOfTasks, HasStaged, KeepsPaths}
use Rattle.pie_fresh.proofs.ledger.Ledger.put_all.Given as goal

-- the files so far lie under `out/` and are those of tasks; those from before are among them, and those at the paths so far
abbrev pub invariant-loop-path : goal.invariant-loop-path
invariant-loop-path l = record {
  out : OnlyOut l.files;
  of_tasks : AreOfTasks l.self l.files;
  keeps : KeepsPaths l.fn.files l.files;
  each : All (λ (w : List ℕ × List ℕ). HasStaged l.self l.no.0 l.files w.0) (take l.path-index l.writes);
}
