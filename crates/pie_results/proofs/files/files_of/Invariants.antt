use Rattle.std.proofs.Common.{take}
use Rattle.pie_graph.specs.Numbers.{numbers}
use Rattle.pie_results.specs.inner.Files.{AreOfTasks, OnlyOut}
use Rattle.pie_results.proofs.FileLemmas.{HaveWritten}
use Rattle.pie_results.proofs.files.files_of.Given as goal

-- the files so far lie under `out/`, and are those of the live tasks so far
abbrev pub invariant-loop-no : goal.invariant-loop-no
invariant-loop-no l = record {
  out : OnlyOut l.files;
  of_tasks : AreOfTasks l.tables l.stage (numbers l.live) l.files;
  written : HaveWritten l.tables l.stage (take l.no-index (numbers l.live)) l.files;
}
