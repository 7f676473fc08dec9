use Rattle.std.proofs.Common.{◌≡◌}
use Rattle.pie_why.proofs.due.due_flags.Given as goal

abbrev pub invariant-loop-n : goal.invariant-loop-n
invariant-loop-n g l = g.F.Files.holds l.files ≡ g.F.Files.holds l.fn.files
