-- How a step ends, and by what a build falls.
use Rattle.std.specs.Prelude.{◌≡◌, ◌⊎◌, ℕ, ◌+◌, ◌-◌, ◌*◌, ◌<◌, ◌≤◌, List, [], ◌∷◌, ◌++◌, length, Some}
use Rattle.pie_value.specs.declared.task.Task.{Task}
use Rattle.pie_value.specs.Canonical.{IsEncodableTask}
use Rattle.pie_value.specs.declared.verdict.Refusal.{Refusal}
use Rattle.pie_running.specs.declared.frame.Told.{Told}
use Rattle.pie_running.specs.declared.frame.Told.TheVariants as tolds
use Rattle.pie_running.specs.inner.Frames.{IsReady}
use Rattle.pie_topdown.specs.declared.builder.Builder.{Builder}
use Rattle.pie_topdown.specs.declared.hand.Check.{Check}
use Rattle.pie_topdown.specs.declared.hand.Frame.{Frame}
use Rattle.pie_topdown.specs.declared.hand.Frame.TheVariants as frames
use Rattle.pie_topdown.specs.declared.hand.Hand.{Hand}
use Rattle.pie_topdown.specs.declared.hand.Hand.TheVariants as hands
use Rattle.pie_topdown.specs.declared.hand.Rest.{Rest}
use Rattle.pie_topdown.specs.declared.hand.Rest.TheVariants as rests
use Rattle.pie_topdown.specs.declared.hand.Turn.{Turn}
use Rattle.pie_topdown.specs.declared.hand.Turn.TheVariants.{Goes, Rests, Many, Fails}
use Rattle.pie_topdown.specs.inner.Frames.{IsHand, IsNoted, IsSite}
use Rattle.pie_topdown.specs.inner.Ledgers.{Grows}

-- a build stands, with what it does next
pub record Stands (b : Builder) (h : Hand) : Type 0 where
  pub site : IsSite b
  pub hand : IsHand b.ledger h

-- what a step leaves
abbrev pub TurnsTo : Builder → Turn → Type 0
TurnsTo b (Goes h) = Stands b h
TurnsTo b Rests = IsSite b
TurnsTo b Many = IsSite b
TurnsTo b Fails = IsSite b

-- ---- what is left to do

-- what may still be done for offers that can be tried: four where they weren't asked for
abbrev pub rest_mass : Rest → ℕ
rest_mass rests.Unasked = 4000012
rest_mass (rests.Asked offers) = length offers.items * 1000003

-- what may still be done for a check, and for the run of its task
abbrev pub check_mass : Check → ℕ
check_mass c = (1000001 - c.at) + 2000004 + rest_mass c.rest

-- what a step of this may still do
abbrev pub hand_mass : Hand → ℕ
hand_mass (hands.Enters n code) = 7000018
hand_mass (hands.Checks c) = check_mass c.value
hand_mass (hands.Runs f) = 2 * f.notes.left + 1
hand_mass hands.Ended = 0

abbrev pub frame_mass : Frame → ℕ
frame_mass (frames.Checks c) = check_mass c.value + 1
frame_mass (frames.Waits c) = 2 * c.waiting.notes.left + 1

abbrev pub stack_mass : List Frame → ℕ
stack_mass [] = 0
stack_mass (e ∷ es) = frame_mass e + stack_mass es

-- what may be done for tasks that can still be entered
unfoldable pub still : ℕ → ℕ
still entered = (50000 - entered) * 7000020

-- what a build may still do beside what it does next
abbrev pub below : Builder → ℕ
below b = still (length b.ledger.tables.names) + stack_mass b.stack.items

-- the end is nearer than this
abbrev pub Nearer : ℕ → Builder → Turn → Type 0
Nearer bound b (Goes h) = below b + hand_mass h < bound
Nearer bound b Rests = Unit {0}
Nearer bound b Many = Unit {0}
Nearer bound b Fails = Unit {0}

-- ---- how many tasks may yet be started

abbrev pub hand_room : Hand → ℕ
hand_room (hands.Enters n code) = 1
hand_room (hands.Checks c) = 1
hand_room (hands.Runs f) = 0
hand_room hands.Ended = 0

abbrev pub frame_room : Frame → ℕ
frame_room (frames.Checks c) = 1
frame_room (frames.Waits c) = 0

abbrev pub stack_room : List Frame → ℕ
stack_room [] = 0
stack_room (e ∷ es) = frame_room e + stack_room es

-- how many tasks may yet be started beside what is in hand
abbrev pub room : Builder → ℕ
room b = (50000 - length b.ledger.tables.names) + stack_room b.stack.items

abbrev pub turn_room : Builder → Turn → ℕ
turn_room b (Goes h) = room b + hand_room h
turn_room b Rests = room b
turn_room b Many = room b
turn_room b Fails = room b

-- no more tasks may be started than so many
abbrev pub Fits : ℕ → Builder → Turn → Type 0
Fits bound b t = turn_room b t ≤ bound

-- each task that was started takes of that
abbrev pub Spends : ℕ → List Task → List Task → Builder → Turn → Type 0
Spends bound runs after b t = length after + turn_room b t ≤ length runs + bound

-- no task was started, or one that has canonical bytes
abbrev pub StartsOne : List Task → List Task → Type 0
StartsOne old new = (new ≡ old) ⊎ ((task : Task) × (new ≡ old ++ task ∷ []) × IsEncodableTask task)

-- a build of the same pipeline, in which tasks were entered or have ended
pub record Keeps (old new : Builder) : Type 0 where
  pub plan : new.plan ≡ old.plan
  pub grows : Grows old.ledger new.ledger

-- a task fails, and with it the build, for this reason
pub record FailsBy (old : Builder) (why : Refusal) (new : Builder) (t : Turn) : Type 0 where
  pub is : new ≡ record old { failure = Some why }
  pub turn : t ≡ Fails

-- ---- a task that was told something

-- it can go on
abbrev pub MayGo : Builder → Told → Type 0
MayGo b (tolds.Goes f) = IsReady f × IsNoted b.ledger f.notes
MayGo b (tolds.Fails n k) = Unit {0}

abbrev pub told_mass : Told → ℕ
told_mass (tolds.Goes f) = 2 * f.notes.left + 2
told_mass (tolds.Fails n k) = 1
