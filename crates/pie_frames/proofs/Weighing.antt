-- What a build can still do falls with each step.
use Rattle.std.proofs.Common.{◌≡◌, ◌+◌, ◌≤◌, List, [], ◌∷◌, ◌++◌, ap, arith}
use Rattle.std.specs.List.{sum_by}
use Rattle.std.proofs.lemmas.List.Sums.{sum_by_push}
use Rattle.pie_walk.specs.States.{WalkState}
use Rattle.pie_walk.specs.Counts.{Counts}
use Rattle.pie_frames.specs.declared.parked.Parked.{Parked}
use Rattle.pie_frames.specs.inner.Weights.{left_of, weight_of}

-- the newest task that waits is in hand
pub weight_unparked : (old new : WalkState) (all ps : List Parked) (p : Parked) → all ≡ ps ++ p ∷ [] → Counts old new [] []
    → weight_of new ps + left_of p ≤ weight_of old all
weight_unparked old new all ps p e counts = omega (arith, counts.begins, ap (sum_by left_of) e, sum_by_push left_of ps p)

-- the one in hand waits
pub weight_parked : (old new : WalkState) (ps all : List Parked) (p : Parked) → all ≡ ps ++ p ∷ [] → Counts old new [] []
    → weight_of new all ≤ weight_of old ps + left_of p
weight_parked old new ps all p e counts = omega (arith, counts.begins, ap (sum_by left_of) e, sum_by_push left_of ps p)
