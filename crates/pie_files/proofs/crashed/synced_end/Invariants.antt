use Rattle.std.proofs.Common.{◌≡◌, ◌≤◌, ◌+◌, drop, cond}
use Rattle.pie_files.specs.inner.Story.{has_sync, synced}
use Rattle.pie_files.proofs.crashed.synced_end.Given as goal

abbrev pub invariant-loop-i : goal.invariant-loop-i
invariant-loop-i l = (synced l.log ≡ cond (has_sync (drop l.i l.log)) (l.i + synced (drop l.i l.log)) l.end) × (l.end ≤ l.i)
