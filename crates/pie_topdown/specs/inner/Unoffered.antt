-- A build to which nothing is offered: each record that it checks is a task's own.
use Rattle.std.specs.Prelude.{◌≡◌, ℕ, List, [], All, Option, None, Some}
use Rattle.pie_value.specs.declared.task.Task.{Task}
use Rattle.pie_files.specs.Directory.{Directory}
use Rattle.pie_store.specs.inner.Offers.{Offered}
use Rattle.pie_topdown.specs.declared.builder.Builder.{Builder}
use Rattle.pie_topdown.specs.declared.hand.Check.{Check}
use Rattle.pie_topdown.specs.declared.hand.Frame.{Frame}
use Rattle.pie_topdown.specs.declared.hand.Frame.TheVariants as frames
use Rattle.pie_topdown.specs.declared.hand.Hand.{Hand}
use Rattle.pie_topdown.specs.declared.hand.Hand.TheVariants as hands
use Rattle.pie_topdown.specs.declared.hand.Rest.{Rest}
use Rattle.pie_topdown.specs.declared.hand.Rest.TheVariants as rests
use Rattle.pie_topdown.specs.declared.hand.Turn.{Turn}
use Rattle.pie_topdown.specs.declared.hand.Turn.TheVariants.{Goes, Rests, Many, Fails}
use Rattle.pie_core_laws.specs.Update.{Update}
use Rattle.pie_topdown.specs.inner.Marks.{StaysMarked}
use Rattle.pie_topdown.specs.inner.Trying.{AreTried}

-- over files that tell what they hold, nothing is offered to any task
pub record OffersNothing (held : Option Directory) (told : Directory → Task → List ℕ → List Offered) : Type 0 where
  pub directory : Directory
  pub is : held ≡ Some directory
  pub none : (t : Task) (digest : List ℕ) → told directory t digest ≡ []

-- no offers are still to be tried
abbrev pub HasNoOffers : Rest → Type 0
HasNoOffers rests.Unasked = Unit {0}
HasNoOffers (rests.Asked offers) = offers.items ≡ []

-- the record that is checked is its task's own, and no other is tried where it differs
pub record IsOwnCheck (c : Check) : Type 0 where
  pub own : c.contents ≡ None
  pub rest : HasNoOffers c.rest

-- so it is with what is in hand
abbrev pub IsOwnHand : Hand → Type 0
IsOwnHand (hands.Enters n code) = Unit {0}
IsOwnHand (hands.Checks c) = IsOwnCheck c.value
IsOwnHand (hands.Runs f) = Unit {0}
IsOwnHand hands.Ended = Unit {0}

-- and with what waits
abbrev pub IsOwnFrame : Frame → Type 0
IsOwnFrame (frames.Checks c) = IsOwnCheck c.value
IsOwnFrame (frames.Waits c) = Unit {0}

-- and with all that waits
abbrev pub AreOwn : Builder → Type 0
AreOwn b = All IsOwnFrame b.stack.items

-- and with what a step leaves
abbrev pub IsOwnTurn : Turn → Type 0
IsOwnTurn (Goes h) = IsOwnHand h
IsOwnTurn Rests = Unit {0}
IsOwnTurn Many = Unit {0}
IsOwnTurn Fails = Unit {0}

-- so it stays, and no task is reused
pub record StaysOwn (old new : Builder) (t : Turn) : Type 0 where
  pub stack : AreOwn new
  pub turn : IsOwnTurn t
  pub reused : new.reused.items ≡ old.reused.items

-- no record is compared next
abbrev pub IsNoCheck : Hand → Type 0
IsNoCheck (hands.Enters n code) = Unit {0}
IsNoCheck (hands.Checks c) = ⊥
IsNoCheck (hands.Runs f) = Unit {0}
IsNoCheck hands.Ended = Unit {0}

abbrev pub ComparesNothing : Turn → Type 0
ComparesNothing (Goes h) = IsNoCheck h
ComparesNothing Rests = Unit {0}
ComparesNothing Many = Unit {0}
ComparesNothing Fails = Unit {0}

-- a step that compares nothing leaves what is marked, and the checks that wait
pub record GoesMarked (old new : Builder) (t : Turn) : Type 0 where
  pub marks : StaysMarked old new
  pub stack : AreOwn old → AreOwn new
  pub tried : (u : Update) (offers : Task → List Offered) → AreTried u offers old → AreTried u offers new
  pub turn : ComparesNothing t

-- so it is where nothing is compared, or what is compared is a task's own record
abbrev pub HoldsOwn : Builder → Builder → Turn → Type 0
HoldsOwn old new t = AreOwn old → StaysOwn old new t

-- and where a task begins to which nothing is offered
abbrev pub BeginsOwn : Option Directory → (Directory → Task → List ℕ → List Offered) → Builder → Builder → Turn → Type 0
BeginsOwn held told old new t = OffersNothing held told → AreOwn old → StaysOwn old new t

-- so it stays in a step with something in hand, where nothing is offered
abbrev pub StepsOwn : Option Directory → (Directory → Task → List ℕ → List Offered) → Builder → Hand → Builder → Turn → Type 0
StepsOwn held told old h new t = OffersNothing held told → AreOwn old → IsOwnHand h → StaysOwn old new t

-- and in steps with a check
abbrev pub ChecksOwn : Option Directory → (Directory → Task → List ℕ → List Offered) → Builder → Check → Builder → Turn → Type 0
ChecksOwn held told old c new t = OffersNothing held told → AreOwn old → IsOwnCheck c → StaysOwn old new t

-- and in many steps
pub record LeavesOwn (old new : Builder) : Type 0 where
  pub stack : AreOwn new
  pub reused : new.reused.items ≡ old.reused.items

-- as those are that go on from something in hand
abbrev pub RunsOwn : Option Directory → (Directory → Task → List ℕ → List Offered) → Builder → Hand → Builder → Type 0
RunsOwn held told old h new = OffersNothing held told → AreOwn old → IsOwnHand h → LeavesOwn old new

-- before each of them
pub record IsOwnSoFar (first now : Builder) (h : Hand) : Type 0 where
  pub leaves : LeavesOwn first now
  pub hand : IsOwnHand h

-- where nothing is offered
abbrev pub StaysOwnSo : Option Directory → (Directory → Task → List ℕ → List Offered) → Builder → Hand → Builder → Hand → Type 0
StaysOwnSo held told first h now hand = OffersNothing held told → AreOwn first → IsOwnHand h → IsOwnSoFar first now hand

-- as those are that settle a root
abbrev pub EndsOwn : Option Directory → (Directory → Task → List ℕ → List Offered) → Builder → Builder → Type 0
EndsOwn held told old new = OffersNothing held told → AreOwn old → LeavesOwn old new
