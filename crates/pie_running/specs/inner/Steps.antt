-- What one event makes of a task.
use Rattle.std.specs.Prelude.{◌≡◌, ℕ, ◌+◌, max, [], ◌∷◌, ◌++◌}
use Rattle.pie_record.specs.declared.dep.DepOn.{DepOn}
use Rattle.pie_store.specs.Canonical.{required_on}
use Rattle.pie_value.specs.declared.event.Event.{Event}
use Rattle.pie_value.specs.declared.event.Event.TheVariants.{Exists, Read, Digest, List as Listing, Write, Require, Done, Fail}
use Rattle.pie_running.specs.declared.frame.Paused.{Paused}
use Rattle.pie_running.specs.declared.frame.Paused.TheVariants.{Asks, Ends, Fails}
use Rattle.pie_running.specs.declared.frame.Told.{Told}
use Rattle.pie_running.specs.declared.frame.Told.TheVariants.{Goes, Fails as FailsThere}
use Rattle.pie_running.specs.inner.Noted.{Noted, tasks_on}
use Rattle.pie_running.specs.inner.Frames.{IsReady, IsWaiting}

-- an event that asks
abbrev pub IsEffect : Event → Type 0
IsEffect (Exists p) = Unit {0}
IsEffect (Read p by) = Unit {0}
IsEffect (Digest p) = Unit {0}
IsEffect (Listing d) = Unit {0}
IsEffect (Write p bytes) = Unit {0}
IsEffect (Require t how) = Unit {0}
IsEffect (Done v) = ⊥
IsEffect (Fail k) = ⊥

-- a task waits for an answer, has ended, or fails
abbrev pub Comes : Noted → Paused → Type 0
Comes old (Asks w e) = IsWaiting w × (w.notes ≡ old) × IsEffect e
Comes old (Ends n v) = n ≡ old
Comes old (Fails n k) = n ≡ old

-- the same task as before, with the tasks that it required, and one answer less to come
pub record Advanced (old new : Noted) : Type 0 where
  pub task : new.task ≡ old.task
  pub number : new.number ≡ old.number
  pub needs : new.needs ≡ old.needs
  pub tasks : tasks_on new.deps ≡ tasks_on old.deps
  pub height : new.height ≡ old.height
  pub left : new.left + 1 ≡ old.left

-- the same task as before, which required one more, of this number and height
pub record Given (what : DepOn) (number height : ℕ) (old new : Noted) : Type 0 where
  pub task : new.task ≡ old.task
  pub same : new.number ≡ old.number
  pub needs : new.needs ≡ old.needs ++ number ∷ []
  pub tasks : tasks_on new.deps ≡ tasks_on old.deps ++ required_on what
  pub high : new.height ≡ max old.height (height + 1)
  pub left : new.left + 1 ≡ old.left

-- the task was answered, or fails
abbrev pub Answered : Noted → Told → Type 0
Answered old (Goes f) = IsReady f × Advanced old f.notes
Answered old (FailsThere n k) = n.task ≡ old.task
