use Rattle.std.proofs.Common.{take}
use Rattle.pie_builder_laws.specs.Builds.{AreOutputs}
use Rattle.pie_fresh.proofs.ledger.Ledger.outputs_of.Given as goal

-- the outputs so far are those of the roots so far
abbrev pub invariant-loop-root : goal.invariant-loop-root
invariant-loop-root l = AreOutputs l.self.names l.self.records (take l.root-index l.roots) l.outputs.items
