use Rattle.std.proofs.Common.{◌≡◌, ◌++◌, drop}
use Rattle.pie_record.proofs.lists.copied_deps.Given as goal

abbrev pub invariant-loop-dep : goal.invariant-loop-dep
invariant-loop-dep l = l.copied.items ++ drop l.dep-index l.deps ≡ l.deps
