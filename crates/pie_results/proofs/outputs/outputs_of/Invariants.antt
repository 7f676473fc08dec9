use Rattle.std.proofs.Common.{take}
use Rattle.std.specs.Prelude.{All}
use Rattle.pie_results.specs.inner.Outputs.{AreOutputs, IsDone}
use Rattle.pie_results.proofs.outputs.outputs_of.Given as goal

-- the outputs of the roots so far
abbrev pub invariant-loop-root : goal.invariant-loop-root
invariant-loop-root l =
    All (IsDone l.tables.names l.tables.records) l.roots → AreOutputs l.tables.names l.tables.records (take l.root-index l.roots) l.outputs.items
