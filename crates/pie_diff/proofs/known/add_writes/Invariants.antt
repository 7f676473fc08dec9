use Rattle.std.proofs.Common.{◌≡◌, ℕ, List, drop}
use Rattle.pie_diff.specs.Hashes.{held_at}
use Rattle.pie_diff.specs.Known.{only_out}
use Rattle.pie_diff.specs.inner.Held.{or_else}
use Rattle.pie_diff.proofs.known.add_writes.Given as goal

abbrev pub invariant-loop-path : goal.invariant-loop-path
invariant-loop-path l = (q : List ℕ) → or_else (held_at l.held q) (only_out q (held_at (drop l.path-index l.writes) q))
    ≡ or_else (held_at l.fn.held q) (only_out q (held_at l.writes q))
