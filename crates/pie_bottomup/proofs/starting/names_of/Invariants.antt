use Rattle.std.proofs.Common.{take}
use Rattle.pie_files.specs.Directory.{Directory}
use Rattle.pie_named.specs.inner.Known.{IsTrueOf}
use Rattle.pie_core_laws.specs.Joins.{HasNames}
use Rattle.pie_bottomup.proofs.starting.names_of.Given as goal

abbrev pub invariant-loop-path : goal.invariant-loop-path
invariant-loop-path l = HasNames l.named (take l.path-index l.changes) × ((d : Directory) → IsTrueOf d l.named)
