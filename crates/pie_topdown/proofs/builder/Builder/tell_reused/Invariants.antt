use Rattle.std.proofs.Common.{take}
use Rattle.pie_graph.specs.Numbers.{numbers}
use Rattle.pie_topdown.specs.inner.Ran.{AddsNamed}
use Rattle.pie_topdown.specs.inner.Roots.{Started}
use Rattle.pie_topdown.proofs.builder.Builder.tell_reused.Given as goal

-- tasks were added, those with the first numbers
abbrev pub invariant-loop-no : goal.invariant-loop-no
invariant-loop-no l =
    Started l.fn.reused.items l.reused.items
    × AddsNamed l.fn.self (numbers (take l.no-index l.fn.self.reused.items)) l.fn.reused.items l.reused.items
