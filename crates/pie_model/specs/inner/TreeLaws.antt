-- What holds of trees: a finished evaluation does not depend on what is above it.
use Rattle.std.specs.Prelude.{ℕ, ◌<◌, ◌≡◌, true, List, length}
use Rattle.pie_model.specs.Paths.{among}
use Rattle.pie_model.specs.Tasks.{Task}
use Rattle.pie_model.specs.Trees.{Node, Many, outcome_of, task_of, is_plain, StandsIn, HasTask, entered}
use Rattle.pie_model.specs.Evaluation.{World, Project, evaluation_with, evaluation_under, evaluation}
use Rattle.pie_model.specs.inner.Moved.{Moved}

-- an evaluation that ended with a value or by a fault, wherever it stands, is its task's evaluation with nothing above
abbrev pub PlainNodesAreAlone : Type 0
PlainNodesAreAlone =
    (w : World) (P : Project) (above : List Task) (r : Task) (m : Node) → StandsIn m (evaluation_under w P above r) → is_plain (outcome_of m) ≡ true
    → m ≡ evaluation w P (task_of m)

-- two such evaluations of one task in one project are equal, below whichever roots they stand
abbrev pub PlainNodesAreOne : Type 0
PlainNodesAreOne =
    (w : World) (P : Project) (r s : Task) (m n : Node) → StandsIn m (evaluation w P r) → StandsIn n (evaluation w P s)
    → is_plain (outcome_of m) ≡ true → is_plain (outcome_of n) ≡ true → task_of m ≡ task_of n → m ≡ n

-- all evaluations that stand in a tree that ended with a value or by a fault did so
abbrev pub PlainTreesArePlain : Type 0
PlainTreesArePlain =
    (w : World) (P : Project) (above : List Task) (r : Task) (m : Node) → is_plain (outcome_of (evaluation_under w P above r)) ≡ true
    → StandsIn m (evaluation_under w P above r) → is_plain (outcome_of m) ≡ true

-- below other tasks and with other room such a tree is the same, or ends in too long a chain, or in a cycle through a task that stands in it
abbrev pub PlainTreesMove : Type 0
PlainTreesMove =
    (w : World) (P : Project) (old_room new_room : ℕ) (old_above new_above : List Task) (t : Task)
    → is_plain (outcome_of (evaluation_with old_room w P old_above t)) ≡ true
    → Moved new_room new_above (evaluation_with new_room w P new_above t) (evaluation_with old_room w P old_above t)

-- no task that stands in such a tree stands above it
abbrev pub PlainTreesAreApart : Type 0
PlainTreesAreApart =
    (w : World) (P : Project) (above : List Task) (t x : Task) → is_plain (outcome_of (evaluation_under w P above t)) ≡ true
    → HasTask x (evaluation_under w P above t) → among x above ≡ true → ⊥

-- a root that ends in too long a chain has entered more tasks than may be
abbrev pub ManyEntersTooMany : Type 0
ManyEntersTooMany =
    (w : World) (P : Project) (t : Task) (all : List Task) → outcome_of (evaluation w P t) ≡ Many → w.most_tasks < length (entered (evaluation w P t) all)

-- all tasks of a tree are entered with it
abbrev pub TreesAreEntered : Type 0
TreesAreEntered = (x : Task) (n : Node) (all : List Task) → HasTask x n → among x (entered n all) ≡ true

-- a tree whose tasks were all entered before enters nothing new
abbrev pub EnteredTreesAddNothing : Type 0
EnteredTreesAddNothing = (n : Node) (all : List Task) → ((x : Task) → HasTask x n → among x all ≡ true) → entered n all ≡ all
