-- What the projections that are left give is what all give.
use Rattle.std.proofs.Common.{◌≡◌, drop}
use Rattle.pie_value.specs.Values.{tree_of}
use Rattle.pie_semantics.specs.Words.{projected}
use Rattle.pie_semantics_program.proofs.evaluator.Evaluator.projected.Given as goal

abbrev pub invariant-loop-one : goal.invariant-loop-one
invariant-loop-one l = projected (drop l.one-index l.indices) (tree_of l.value) l.self ≡ projected l.indices (tree_of l.fn.value) l.fn.self
