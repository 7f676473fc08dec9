use Rattle.std.proofs.Common.{◌≡◌, ◌≤◌}
use Rattle.pie_files.specs.Directory.{Directory}
use Rattle.pie_files.specs.inner.SureFiles.{held_by}
use Rattle.pie_demo.specs.Sources.{HasSources}
use Rattle.pie_demo.proofs.Playing.{Plays}
use Rattle.pie_demo.proofs.whole.demo.Given as goal

abbrev pub invariant-loop-done : goal.invariant-loop-done
invariant-loop-done l = record {
  few : l.summary.same ≤ l.done;
  ten : l.summary.rounds ≡ 10;
  sources : HasSources l.seed l.size 0 (held_by l.initial.files) → HasSources l.seed l.size l.done (held_by l.files);
  plays : (first : Directory) → HasSources l.seed l.size 0 (held_by l.initial.files)
      → Plays l.seed l.size l.done (record { now = first; left = held_by l.initial.files }) (held_by l.files)
      l.initial.runs l.runs l.initial.clean l.clean l.summary.tasks l.summary.same;
}
