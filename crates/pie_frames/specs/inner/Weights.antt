-- What a build can still do, so that a loop over its steps can be proved to end.
use Rattle.std.specs.Prelude.{ℕ, ◌+◌, ◌*◌, ◌≤◌, List}
use Rattle.std.specs.List.{sum_by}
use Rattle.pie_walk.specs.States.{WalkState}
use Rattle.pie_walk.specs.Counts.{begins}
use Rattle.pie_frames.specs.declared.parked.Parked.{Parked}
use Rattle.pie_frames.specs.declared.frames.Frames.{Frames}

-- twice the answers that a task which waits may still have
abbrev pub left_of : Parked → ℕ
left_of p = 2 * p.caller.waiting.notes.left

-- a task that may yet be taken weighs more than what it can do when it runs
abbrev pub weight_of : WalkState → List Parked → ℕ
weight_of walk parked = begins walk * 4000008 + sum_by left_of parked

abbrev pub weight : Frames → ℕ
weight f = weight_of f.walk f.parked.items

-- there is no more to do, and no more tasks can begin, than before
pub record TakesNoRoom (old new : Frames) : Type 0 where
  pub weight : weight new ≤ weight old
  pub room : begins new.walk ≤ begins old.walk
