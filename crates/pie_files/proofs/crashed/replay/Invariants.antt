use Rattle.std.proofs.Common.{◌≡◌, drop}
use Rattle.pie_files.specs.inner.Story.{picked_all}
use Rattle.pie_files.proofs.crashed.replay.Given as goal

abbrev pub invariant-loop-logged : goal.invariant-loop-logged
invariant-loop-logged l = picked_all l.pick l.held (drop l.logged-index l.log) ≡ picked_all l.pick l.fn.held l.log
