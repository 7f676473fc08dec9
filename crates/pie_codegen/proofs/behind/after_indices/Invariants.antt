use Rattle.std.proofs.Common.{◌≡◌, drop}
use Rattle.pie_codegen.specs.Spots.{after_indices}
use Rattle.pie_codegen.proofs.behind.after_indices.Given as goal

abbrev pub invariant-loop-index : goal.invariant-loop-index
invariant-loop-index l = after_indices (drop l._index-index l.indices) l.spot ≡ after_indices l.indices l.fn.spot
