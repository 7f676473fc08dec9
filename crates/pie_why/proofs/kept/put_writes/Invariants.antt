use Rattle.std.proofs.Common.{◌≡◌}
use Rattle.pie_why.proofs.kept.put_writes.Given as goal

abbrev pub invariant-loop-path : goal.invariant-loop-path
invariant-loop-path g l = g.F.Files.holds l.files ≡ g.F.Files.holds l.fn.files
