use Rattle.pie_code.specs.Scans.{IsLeast, IsSpoilt}
use Rattle.pie_code.proofs.jumps.first_bad_jump.Given as goal

abbrev pub invariant-loop-from : goal.invariant-loop-from
invariant-loop-from l = IsLeast (IsSpoilt l.code l.from) l.found
