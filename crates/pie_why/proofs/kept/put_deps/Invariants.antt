use Rattle.std.proofs.Common.{◌≡◌}
use Rattle.pie_why.proofs.kept.put_deps.Given as goal

abbrev pub invariant-loop-dep : goal.invariant-loop-dep
invariant-loop-dep g l = g.F.Files.holds l.files ≡ g.F.Files.holds l.fn.files
