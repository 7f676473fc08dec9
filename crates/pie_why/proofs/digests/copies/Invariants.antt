use Rattle.std.proofs.Common.{◌≡◌, ◌++◌, drop}
use Rattle.pie_why.proofs.digests.copies.Given as goal

abbrev pub invariant-loop-name : goal.invariant-loop-name
invariant-loop-name l = l.copied.items ++ drop l.name-index l.digests ≡ l.digests
