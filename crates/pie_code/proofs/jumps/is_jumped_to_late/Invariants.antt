use Rattle.std.proofs.Common.{ℕ, ◌<◌}
use Rattle.pie_code.specs.Scans.{JumpsLate}
use Rattle.pie_code.proofs.jumps.is_jumped_to_late.Given as goal

abbrev pub invariant-loop-from : goal.invariant-loop-from
invariant-loop-from l = (from : ℕ) → from < l.from → JumpsLate l.code from l.at → ⊥
