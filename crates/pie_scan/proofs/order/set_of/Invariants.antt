use Rattle.std.proofs.Common.{◌≡◌, ℕ, List, drop}
use Rattle.std.specs.Prelude.{◌||◌}
use Rattle.pie_files.specs.inner.Held.{is_among}
use Rattle.pie_scan.proofs.order.set_of.Given as goal

abbrev pub invariant-loop-path : goal.invariant-loop-path
invariant-loop-path l = (q : List ℕ) → (is_among q l.set.keys || is_among q (drop l.path-index l.paths)) ≡ is_among q l.paths
