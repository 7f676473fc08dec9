use Rattle.std.proofs.Common.{◌≡◌, ◌++◌, drop}
use Rattle.pie_digest.specs.Digests.{spaced}
use Rattle.pie_digest.proofs.digests.add_spaced.Given as goal

abbrev pub invariant-loop-token : goal.invariant-loop-token
invariant-loop-token l = l.bytes.items ++ spaced l.text (drop l.token-index l.tokens) ≡ l.fn.bytes.items ++ spaced l.text l.tokens
