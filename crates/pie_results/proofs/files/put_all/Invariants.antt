use Rattle.std.proofs.Common.{ℕ, List, take}
use Rattle.std.specs.Prelude.{All, Contains}
use Rattle.pie_tables.specs.declared.tables.Tables.{Tables}
use Rattle.pie_results.specs.inner.Files.{AreOfTasks, HasStaged, KeepsPaths, OnlyOut, Wrote}
use Rattle.pie_results.proofs.files.put_all.Given as goal

-- the files so far lie under `out/` and are those of live tasks; those from before are among them, and those at the paths so far
abbrev pub invariant-loop-path : goal.invariant-loop-path
invariant-loop-path l = record {
  out : OnlyOut l.files;
  of_tasks : (t : Tables) (live : List ℕ) → Contains live l.no.0 → All (λ (w : List ℕ × List ℕ). Wrote t l.no.0 w.0) l.writes
      → AreOfTasks t l.stage live l.fn.files → AreOfTasks t l.stage live l.files;
  keeps : KeepsPaths l.fn.files l.files;
  each : All (λ (w : List ℕ × List ℕ). HasStaged l.stage l.no.0 l.files w.0) (take l.path-index l.writes);
}
