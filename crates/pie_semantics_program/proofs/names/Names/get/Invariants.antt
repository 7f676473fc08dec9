-- The names so far are others.
use Rattle.std.proofs.Common.{◌≡◌, drop}
use Rattle.pie_semantics.specs.Words.{look_up}
use Rattle.pie_semantics_program.specs.Bindings.{env_of}
use Rattle.pie_semantics_program.proofs.names.Names.get.Given as goal

abbrev pub invariant-loop-bound : goal.invariant-loop-bound
invariant-loop-bound l = look_up l.name (env_of (drop l.bound-index l.bound-items)) ≡ look_up l.name l.self
