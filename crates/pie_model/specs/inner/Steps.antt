-- When a finish leaves the other records as they stand.
use Rattle.std.specs.Prelude.{◌≡◌, ◌⊎◌, true, Option, Some, List, [], ◌∷◌}
use Rattle.pie_model.specs.Paths.{Out, kind_of, among}
use Rattle.pie_model.specs.Tasks.{Task}
use Rattle.pie_model.specs.Evaluation.{World}
use Rattle.pie_model.specs.Records.{Record, Stamp, Query, Looked, Listed, Required, Observation, needs_of}
use Rattle.pie_model.specs.StampNow.{recorded_outcome, outcome_now}
use Rattle.pie_model.specs.inner.Present.{Reaches}

-- every observation has this
abbrev pub Each : (Query → Stamp → Type 0) → List Observation → Type 0
Each Q [] = Unit {0}
Each Q (o ∷ os) = Q o.query o.stamp × Each Q os

-- where a query requires the task, its stamp is that of the task's present outcome
abbrev pub StampStill : World → (Task → Option Record) → Task → Query → Stamp → Type 0
StampStill w R t (Looked l p) s = Unit {0}
StampStill w R t (Listed d) s = Unit {0}
StampStill w R t (Required h u) s = u ≡ t → outcome_now w h (recorded_outcome (R t)) ≡ Some s

-- a query looks at no path under `out`
abbrev pub LooksElsewhere : Query → Stamp → Type 0
LooksElsewhere (Looked l p) s = kind_of p ≡ Out → ⊥
LooksElsewhere (Listed d) s = Unit {0}
LooksElsewhere (Required h u) s = Unit {0}

-- two records have the same required tasks in order, and the same writes
pub record SameShape (a b : Record) : Type 0 where
  pub needs : needs_of a.observations ≡ needs_of b.observations
  pub writes : a.writes ≡ b.writes

-- the present record of a task alone changes: to this one
pub record ChangesAt (R S : Task → Option Record) (t : Task) (new : Record) : Type 0 where
  pub now : S t ≡ Some new
  pub others : (x : Task) → (x ≡ t → ⊥) → S x ≡ R x

-- a record needs not be looked at again after a task has finished: it requires nothing that reaches the task,
-- or its stamps of the task are the new ones, and the task's requires and writes are the old ones or the record observed nothing under `out`
abbrev pub IsUntouched : World → (Task → Option Record) → (Task → Option Record) → Task → Record → Record → Type 0
IsUntouched w R S t new r =
    ((u : Task) → among u (needs_of r.observations) ≡ true → Reaches R u t → ⊥)
    ⊎ (Each (StampStill w S t) r.observations × (((before : Record) × (R t ≡ Some before) × SameShape before new) ⊎ Each LooksElsewhere r.observations))
