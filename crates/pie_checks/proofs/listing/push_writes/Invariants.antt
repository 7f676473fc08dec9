use Rattle.std.proofs.Common.{◌≡◌, ◌++◌, drop, map, ℕ, List}
use Rattle.pie_checks.proofs.listing.push_writes.Given as goal

abbrev pub invariant-loop-path : goal.invariant-loop-path
invariant-loop-path l =
    l.found.items ++ map (λ (w : List ℕ × List ℕ). (w.0, l.no)) (drop l.path-index l.writes) ≡ l.fn.found.items ++ map
    (λ (w : List ℕ × List ℕ). (w.0, l.no)) l.writes
