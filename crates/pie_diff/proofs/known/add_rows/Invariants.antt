use Rattle.std.proofs.Common.{◌≡◌, ℕ, List, drop}
use Rattle.pie_diff.specs.Hashes.{held_at}
use Rattle.pie_diff.specs.Known.{only_out, writes_of}
use Rattle.pie_diff.specs.inner.Held.{or_else}
use Rattle.pie_diff.proofs.known.add_rows.Given as goal

abbrev pub invariant-loop-row : goal.invariant-loop-row
invariant-loop-row l = (q : List ℕ) → or_else (held_at l.held q) (only_out q (held_at (writes_of (drop l.row-index l.rows)) q))
    ≡ or_else (held_at l.fn.held q) (only_out q (held_at (writes_of l.rows) q))
