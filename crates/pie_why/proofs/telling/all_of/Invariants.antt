use Rattle.std.proofs.Common.{◌≡◌}
use Rattle.pie_why.proofs.telling.all_of.Given as goal

abbrev pub invariant-loop-task : goal.invariant-loop-task
invariant-loop-task g l = g.F.Files.holds l.files ≡ g.F.Files.holds l.fn.files
