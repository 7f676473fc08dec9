use Rattle.std.proofs.Common.{Option, drop}
use Rattle.pie_value.specs.declared.verdict.Refusal.{Refusal}
use Rattle.pie_results.specs.inner.Failures.{FailsFirst}
use Rattle.pie_results.proofs.failures.first_failure.Given as goal

-- no root so far refuses the build
abbrev pub invariant-loop-root : goal.invariant-loop-root
invariant-loop-root l =
    (why : Option Refusal) → FailsFirst l.tables.names l.tables.records (drop l.root-index l.roots) why → FailsFirst l.tables.names l.tables.records l.roots why
