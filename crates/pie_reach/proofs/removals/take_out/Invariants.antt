use Rattle.std.proofs.Common.{◌≡◌, ◌&&◌, not, ℕ, List, drop}
use Rattle.std.specs.BTreeSet.{contains}
use Rattle.pie_reach.specs.Plan.{path_cmp}
use Rattle.pie_reach.specs.inner.Listed.{listed}
use Rattle.pie_reach.proofs.removals.take_out.Given as goal

abbrev pub invariant-loop-path : goal.invariant-loop-path
invariant-loop-path l = (q : List ℕ) → (contains path_cmp l.set q && not (listed q (drop l.path-index l.paths))) ≡
    (contains path_cmp l.fn.set q && not (listed q l.paths))
