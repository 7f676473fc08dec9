-- The best of some numbers: marked, and with the least key.
use Rattle.std.specs.Prelude.{ℕ, ◌≤◌, Bool, false, cond, nat_lt, List, Option, Some, None, slice_index, slice_index_or}
use Rattle.std.specs.List.{Contains}
use Rattle.pie_graph.specs.declared.edges.TaskNo.{TaskNo}
use Rattle.pie_graph.specs.Numbers.{IsMarked}

-- the better of the best so far and one more number
abbrev pub best_of : List Bool → List ℕ → TaskNo → Option TaskNo → Option TaskNo
best_of marks keys task None = cond (slice_index_or marks task.0 false) (Some task) None
best_of marks keys task (Some best) =
    cond (slice_index_or marks task.0 false) (cond (nat_lt (slice_index keys task.0) (slice_index keys best.0)) (Some task) (Some best)) (Some best)

-- a marked number with the least key, or none where none has a mark
abbrev pub IsBest : List ℕ → List Bool → List ℕ → Option TaskNo → Type 0
IsBest among marks keys None = (n : ℕ) → Contains among n → IsMarked marks n → ⊥
IsBest among marks keys (Some best) =
    Contains among best.0 × IsMarked marks best.0 × ((n : ℕ) → Contains among n → IsMarked marks n → slice_index keys best.0 ≤ slice_index keys n)
