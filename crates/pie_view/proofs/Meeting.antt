-- A walk that ends without meeting a task.
use Rattle.std.proofs.Common.{◌≡◌, ℕ, Bool, List, [], length}
use Rattle.std.specs.Prelude.{IsTrue, ◌↔◌}
use Rattle.pie_graph.specs.Numbers.{IsMarked}
use Rattle.pie_graph.specs.Rows.{Row, Calls}
use Rattle.pie_reach.specs.inner.Reaches.{ReachedFrom}
use Rattle.pie_reach.specs.inner.Walks.{Walked, Walking}
use Rattle.pie_reach.proofs.WalkSteps.{walk_ends}

pub met_is : (rows : List Row) (starts : List ℕ) (to : ℕ) (w : Walked) (met : Bool) → Walking (length rows) (Calls rows) starts w → w.work ≡ []
    → IsTrue met ↔ IsMarked w.marks to → IsTrue met ↔ ReachedFrom rows starts to
met_is rows starts to w met walking idle h =
    let closed = walk_ends (length rows) (Calls rows) starts w idle walking in
    (λ t. closed.only to (h.0 t), λ led. h.1 (closed.each to led))
