-- What a step leaves, and one where no task is in hand.
use Rattle.std.specs.Prelude.{◌≡◌, ◌⊎◌, ℕ, ◌≤◌, ◌+◌, List, length, None, Option}
use Rattle.pie_value.specs.declared.task.Task.{Task}
use Rattle.pie_files.specs.Directory.{Directory}
use Rattle.pie_bottomup.specs.declared.state.Core.{Core}
use Rattle.pie_bottomup.specs.declared.state.Turn.{Turn}
use Rattle.pie_bottomup.specs.inner.Going.{StepsWhole, TestsWhole}
use Rattle.pie_bottomup.specs.inner.Loaded.{TestsExact}
use Rattle.pie_bottomup.specs.inner.Many.{StartsNoneForMany, StopsForMany}
use Rattle.pie_bottomup.specs.inner.Ran.{SettlesFor, StepsFor}
use Rattle.pie_bottomup.specs.inner.States.{IsAtRest, IsUntested, Nearer, Spends, StartsOne, TurnsTo, mass, room}
use Rattle.pie_bottomup.specs.inner.Tested.{HasTested, LearnsOnly}

-- no task is in hand, before the first step or after it
pub record IsUnoccupied (c : Core) : Type 0 where
  pub state : IsUntested c ⊎ IsAtRest c
  pub free : c.hand ≡ None

-- a step turns so, and where more is left to do, that is less than this
pub record StepsTo (bound : ℕ) (c : Core) (t : Turn) : Type 0 where
  pub turns : TurnsTo c t
  pub nearer : Nearer bound c t

-- a step turns so, leaves less to do than before where more is left to do, and where the roots are settled, each task with a reason to run has run
pub record StepsOn (old new : Core) (t : Turn) : Type 0 where
  pub turns : TurnsTo new t
  pub nearer : Nearer (mass old) new t
  pub all : SettlesFor new t

-- the old records were held against what is there, which leaves a build exact and whole; more is known then, and nothing else is another
pub record TestsAll (held : Option Directory) (old new : Core) : Type 0 where
  pub learns : LearnsOnly old new
  pub tested : HasTested held old new
  pub exact : TestsExact held old new
  pub whole : TestsWhole held old new

-- one task is started at most, if one may be
pub record StartsFew (old : Core) (before after : List Task) : Type 0 where
  pub starts : StartsOne before after
  pub few : length after ≤ length before + room old

-- one that is started takes of those that may be, has a reason, and isn't started where there were too many old tasks
pub record StartsRight (held : Option Directory) (old new : Core) (before after : List Task) : Type 0 where
  pub spends : Spends old new before after
  pub none : StartsNoneForMany old before after
  pub reasons : StepsFor held old new before after

-- a build is left whole, and stops where there were too many old tasks
pub record LeavesWhole (held : Option Directory) (old new : Core) (t : Turn) : Type 0 where
  pub many : StopsForMany old t
  pub whole : StepsWhole held old new t
