use Rattle.std.proofs.Common.{◌≡◌, ◌≤◌, length, take}
use Rattle.pie_codegen.specs.Compiled.{slot_of}
use Rattle.pie_codegen.specs.Scopes.{as_scope}
use Rattle.pie_codegen.proofs.scope.newest.Given as goal

abbrev pub invariant-loop-left : goal.invariant-loop-left
invariant-loop-left l = record {
  within : l.left ≤ length l.bound;
  slot : slot_of l.name (as_scope (take l.left l.bound)) ≡ slot_of l.name (as_scope l.bound);
}

abbrev pub decreases-loop-left : goal.decreases-loop-left
decreases-loop-left l = l.left
