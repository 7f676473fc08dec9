-- What is copied, and then what the rest gives.
use Rattle.std.proofs.Common.{◌≡◌, ◌++◌, drop}
use Rattle.pie_semantics_program.specs.Bindings.{env_of}
use Rattle.pie_semantics_program.proofs.names.copy_onto.Given as goal

abbrev pub invariant-loop-one : goal.invariant-loop-one
invariant-loop-one l = env_of l.bound.items ++ env_of (drop l.one-index l.more) ≡ env_of l.fn.bound.items ++ env_of l.more
