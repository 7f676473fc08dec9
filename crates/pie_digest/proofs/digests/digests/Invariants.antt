use Rattle.std.proofs.Common.{◌≡◌, ◌++◌, drop}
use Rattle.pie_digest.specs.Digests.{digests_of}
use Rattle.pie_digest.proofs.digests.digests.Given as goal

abbrev pub invariant-loop-i : goal.invariant-loop-i
invariant-loop-i l = l.rows.items ++ digests_of l.text (drop l.i l.tokens) ≡ digests_of l.text l.tokens
