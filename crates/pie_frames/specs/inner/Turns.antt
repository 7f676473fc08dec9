-- What becomes of the tasks that were taken.
use Rattle.std.specs.Prelude.{◌≡◌, ◌+◌, ◌<◌, ◌≤◌, [], ◌∷◌, ◌++◌, length}
use Rattle.pie_graph.specs.declared.edges.TaskNo.{TaskNo}
use Rattle.pie_walk.specs.Counts.{begins}
use Rattle.pie_walk.specs.States.{met, with_need}
use Rattle.pie_walk.specs.Turns.{IsTaken, IsAnswered, HasEnded}
use Rattle.pie_frames.specs.declared.parked.Parked.{Parked}
use Rattle.pie_frames.specs.declared.frames.Frames.{Frames}
use Rattle.pie_frames.specs.declared.turns.Next.{Next}
use Rattle.pie_frames.specs.declared.turns.Next.TheVariants.{Takes, Answers, Idle}
use Rattle.pie_frames.specs.inner.Standing.{IsParked, Rests, Holds, number_of}
use Rattle.pie_frames.specs.inner.Weights.{weight, left_of}

-- a scheduled task was taken
pub record HasTaken (old new : Frames) (task : TaskNo) : Type 0 where
  pub holds : Holds task new
  pub inside : task.0 < length new.walk.rows
  pub taken : IsTaken old.walk new.walk task
  pub parked : new.parked ≡ old.parked
  pub falls : weight new + 4000008 ≤ weight old

-- the newest task that waits can go on: this is what waited of it
pub record HasAnswered (old new : Frames) (task : TaskNo) (p : Parked) : Type 0 where
  pub holds : Holds task new
  pub inside : task.0 < length new.walk.rows
  pub answered : IsAnswered old.walk new.walk task
  pub parked : old.parked.items ≡ new.parked.items ++ p ∷ []
  pub is_parked : IsParked new.walk.rows p
  pub number : number_of p ≡ task.0
  pub falls : weight new + left_of p ≤ weight old

-- nothing is left
pub record IsOver (old new : Frames) : Type 0 where
  pub rests : Rests new
  pub ended : HasEnded old.walk new.walk
  pub parked : new.parked.items ≡ []
  pub falls : weight new ≤ weight old

abbrev pub ComesNext : Frames → Frames → Next → Type 0
ComesNext old new (Takes task) = HasTaken old new task
ComesNext old new (Answers task p) = HasAnswered old new task p
ComesNext old new Idle = IsOver old new

-- the task that was in hand waits
pub record HasParked (old new : Frames) (task : TaskNo) (p : Parked) : Type 0 where
  pub rests : Rests new
  pub walk : new.walk ≡ met (with_need old.walk new.walk.places task.0 p.callee.0) p.callee
  pub parked : new.parked.items ≡ old.parked.items ++ p ∷ []
  pub falls : weight new ≤ weight old + left_of p
  pub room : begins new.walk ≤ begins old.walk

-- nothing changes
pub record Stays (old new : Frames) : Type 0 where
  pub walk : new.walk ≡ old.walk
  pub parked : new.parked ≡ old.parked
