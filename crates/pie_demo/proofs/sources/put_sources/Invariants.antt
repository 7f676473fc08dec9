use Rattle.std.proofs.Common.{◌≡◌}
use Rattle.std.specs.FinMap as fin
use Rattle.pie_files.specs.inner.SureFiles.{held_by}
use Rattle.pie_demo.specs.Draws.{state_after}
use Rattle.pie_demo.proofs.Changing.{HasItems}
use Rattle.pie_demo.proofs.sources.put_sources.Given as goal

abbrev pub invariant-loop-i : goal.invariant-loop-i
invariant-loop-i l = record {
  state : l.draws.state ≡ state_after l.seed l.i;
  items : held_by l.fn.files ≡ fin.empty → HasItems l.seed l.i (held_by l.files);
}
