-- Which offers of a task were tried.
use Rattle.std.specs.Prelude.{◌≡◌, ◌⊎◌, ℕ, List, [], ◌∷◌, ◌++◌, map, take, All, Option, None, Some, slice_get}
use Rattle.std.specs.List.{Contains}
use Rattle.std.specs.Option.{option_map_or}
use Rattle.std.specs.BTreeMap.{get_by_text}
use Rattle.std.specs.declared.alloc.Global.{Global}
use Rattle.std.proofs.Common.{Vec}
use Rattle.pie_value.specs.declared.task.Task.{Task}
use Rattle.pie_value.specs.Canonical.{enc_task}
use Rattle.pie_files.specs.Directory.{Directory}
use Rattle.pie_record.specs.declared.task_record.TaskRecord.{TaskRecord}
use Rattle.pie_store.specs.declared.offers.Offer.{Offer}
use Rattle.pie_store.specs.inner.Offers.{Offered, offered}
use Rattle.pie_named.specs.inner.Known.{IsTrueOf}
use Rattle.pie_model.specs.Evaluation.{evaluation}
use Rattle.pie_model.specs.Records.{record_of as model_record}
use Rattle.pie_model.specs.inner.Stack.{Frame as ModelFrame}
use Rattle.pie_model_pipeline.specs.Rows.{record_of}
use Rattle.pie_model_pipeline.specs.World.{world}
use Rattle.pie_builder_laws.specs.Names.{AreTasks}
use Rattle.pie_core_laws.specs.Update.{Update, present}
use Rattle.pie_topdown_result_laws.specs.Builds.{IsHonestTo, IsStanding, WritesOnce}
use Rattle.pie_topdown.specs.declared.builder.Builder.{Builder}
use Rattle.pie_topdown.specs.declared.checking.Place.{Place}
use Rattle.pie_topdown.specs.declared.hand.Check.{Check}
use Rattle.pie_topdown.specs.declared.hand.Frame.{Frame}
use Rattle.pie_topdown.specs.declared.hand.Frame.TheVariants as frames
use Rattle.pie_topdown.specs.declared.hand.Hand.{Hand}
use Rattle.pie_topdown.specs.declared.hand.Hand.TheVariants as hands
use Rattle.pie_topdown.specs.declared.hand.Rest.{Rest}
use Rattle.pie_topdown.specs.declared.hand.Rest.TheVariants as rests
use Rattle.pie_topdown.specs.declared.hand.Turn.{Turn}
use Rattle.pie_topdown.specs.declared.hand.Turn.TheVariants.{Goes, Rests, Many, Fails}
use Rattle.pie_topdown.specs.declared.plan.Plan.{Plan}
use Rattle.pie_topdown.specs.inner.Places.{FindsHere, NeedsNext}
use Rattle.pie_topdown.specs.inner.Right.{AreOffersHonest, AreWaiting, ChecksRight, IsPlanNow, IsRight, IsRightSite}
use Rattle.pie_topdown.specs.inner.Rooted.{IsBuildOf}
use Rattle.pie_topdown.specs.inner.Marks.{StaysMarked, ReusesOne, RunsOne}

-- ---- the offers of a task

-- the offers that a task is tried with: the first four that are told by the present digest of its function
abbrev pub offers_to : Plan → (Directory → Task → List ℕ → List Offered) → Directory → Task → List Offered
offers_to p told d t = option_map_or (λ digest. take 4 (told d t digest)) (get_by_text p.digests t.func) []

-- those that are asked for are these
abbrev pub AsksFor : Option Directory → (Directory → Task → List ℕ → List Offered) → Builder → ℕ → List Offer → Type 0
AsksFor held told b n found =
    (d : Directory) (task : Task) → held ≡ Some d → slice_get b.ledger.tables.names n ≡ Some task → map offered found ≡ offers_to b.plan told d task

-- none of a task's offers stands
abbrev pub NoneStands : Update → (Task → List Offered) → Task → Type 0
NoneStands u offers t = All (λ o. IsStanding u t o → ⊥) (offers t)

-- one of them does
pub record OneStands (u : Update) (offers : Task → List Offered) (t : Task) : Type 0 where
  pub offer : Offered
  pub listed : Contains (offers t) offer
  pub stands : IsStanding u t offer

-- ---- what was tried

-- the offers before these were tried, and none of them stands
pub record HasTried (u : Update) (t : Task) (all left : List Offered) : Type 0 where
  pub over : List Offered
  pub is : all ≡ over ++ left
  pub none : All (λ o. IsStanding u t o → ⊥) over

-- a record is checked that is the task's own, before its offers are asked for, or is the next of them
abbrev pub IsTriedBy : Update → (Task → List Offered) → TaskRecord → Option (Vec (Vec ℕ Global) Global) → Rest → Type 0
IsTriedBy u offers rec None rests.Unasked = Unit {0}
IsTriedBy u offers rec None (rests.Asked rest) = ⊥
IsTriedBy u offers rec (Some contents) rests.Unasked = ⊥
IsTriedBy u offers rec (Some contents) (rests.Asked rest) =
    WritesOnce rec.writes
    × HasTried u rec.task (offers rec.task) ((rec, map (λ (v : Vec ℕ Global). v.items) contents.items) ∷ map offered rest.items)

abbrev pub IsTriedCheck : Update → (Task → List Offered) → Check → Type 0
IsTriedCheck u offers c = IsTriedBy u offers c.rec c.contents c.rest

-- so it is with what is in hand
abbrev pub IsTriedHand : Update → (Task → List Offered) → Hand → Type 0
IsTriedHand u offers (hands.Enters n code) = Unit {0}
IsTriedHand u offers (hands.Checks c) = IsTriedCheck u offers c.value
IsTriedHand u offers (hands.Runs f) = Unit {0}
IsTriedHand u offers hands.Ended = Unit {0}

-- with what waits
abbrev pub IsTriedFrame : Update → (Task → List Offered) → Frame → Type 0
IsTriedFrame u offers (frames.Checks c) = IsTriedCheck u offers c.value
IsTriedFrame u offers (frames.Waits c) = Unit {0}

-- with all that waits
abbrev pub AreTried : Update → (Task → List Offered) → Builder → Type 0
AreTried u offers b = All (IsTriedFrame u offers) b.stack.items

-- and with what a step leaves
abbrev pub IsTriedTurn : Update → (Task → List Offered) → Turn → Type 0
IsTriedTurn u offers (Goes h) = IsTriedHand u offers h
IsTriedTurn u offers Rests = Unit {0}
IsTriedTurn u offers Many = Unit {0}
IsTriedTurn u offers Fails = Unit {0}

-- so it stays
pub record StaysTried (u : Update) (offers : Task → List Offered) (new : Builder) (t : Turn) : Type 0 where
  pub stack : AreTried u offers new
  pub turn : IsTriedTurn u offers t

-- ---- what is marked

-- a task was reused one of whose offers stands
pub record ReusesStanding (u : Update) (offers : Task → List Offered) (old : Builder) (n : ℕ) (new : Builder) : Type 0 where
  pub one : ReusesOne old n new
  pub stands : OneStands u offers one.marks.task

-- a task was started none of whose offers stands
pub record RunsWithout (u : Update) (offers : Task → List Offered) (old : Builder) (n : ℕ) (new : Builder) (before after : List Task) : Type 0 where
  pub one : RunsOne old n new before after
  pub none : NoneStands u offers one.marks.task

-- at most this one was marked, by what its offers are
abbrev pub MarksTried : Update → (Task → List Offered) → Builder → ℕ → Builder → List Task → List Task → Type 0
MarksTried u offers old n new before after =
    ((after ≡ before) × (StaysMarked old new ⊎ ReusesStanding u offers old n new)) ⊎ RunsWithout u offers old n new before after

-- so it is in a step with this task, and so it stays with what is tried
pub record LeavesTried (u : Update) (offers : Task → List Offered) (old : Builder) (n : ℕ) (new : Builder) (t : Turn) (before after : List Task) : Type 0 where
  pub stays : StaysTried u offers new t
  pub marks : MarksTried u offers old n new before after

-- ---- what a step leaves

-- an entered task begins
abbrev pub TriesFrom : Option Directory → (Directory → Task → List ℕ → List Offered) → Builder → ℕ → Builder → List Task → List Task → Turn → Type 0
TriesFrom held told old n new before after t =
    (u : Update) → held ≡ Some u.directory → AreOffersHonest u old.plan told → AreTasks old.ledger.tables.names
    → AreTried u (offers_to old.plan told u.directory) old → LeavesTried u (offers_to old.plan told u.directory) old n new t before after

-- honest records are offered
abbrev pub AreHonestTo : Update → (Task → List Offered) → Type 0
AreHonestTo u offers = (t : Task) → All (IsHonestTo u t) (offers t)

-- the next of its offers are tried, before which others were
abbrev pub TriesOffers : Builder → ℕ → List Offer → Builder → List Task → List Task → Turn → Type 0
TriesOffers old n rest new before after t =
    (u : Update) (offers : Task → List Offered) (task : Task) → AreHonestTo u offers → AreTasks old.ledger.tables.names
    → slice_get old.ledger.tables.names n ≡ Some task → HasTried u task (offers task) (map offered rest) → AreTried u offers old
    → LeavesTried u offers old n new t before after

-- so it is where the first of them fits
abbrev pub ChecksTried : Builder → ℕ → Offer → List Offer → Turn → Type 0
ChecksTried b n offer rest t =
    (u : Update) (offers : Task → List Offered) → slice_get b.ledger.tables.names n ≡ Some offer.row.task → WritesOnce offer.row.writes
    → HasTried u offer.row.task (offers offer.row.task) (map offered (offer ∷ rest)) → IsTriedTurn u offers t

-- the record of a check isn't that of its task's evaluation now
abbrev pub GivesWay : Update → Check → Type 0
GivesWay u c = record_of c.rec ≡ model_record world (evaluation world (present u) (enc_task c.rec.task)) → ⊥

-- a record that is checked gives way
abbrev pub DiffersTried : Option Directory → (Directory → Task → List ℕ → List Offered) → Builder → Check → Builder → List Task → List Task → Turn → Type 0
DiffersTried held told old c new before after t =
    (u : Update) → held ≡ Some u.directory → AreOffersHonest u old.plan told → AreTasks old.ledger.tables.names
    → GivesWay u c → AreTried u (offers_to old.plan told u.directory) old → IsTriedCheck u (offers_to old.plan told u.directory) c
    → LeavesTried u (offers_to old.plan told u.directory) old c.no.0 new t before after

-- it is compared in one place
abbrev pub ComparesTried : Option Directory → (Directory → Task → List ℕ → List Offered) → Builder → Check → Builder → List Task → List Task → Turn → Type 0
ComparesTried held told old c new before after t =
    (u : Update) (done : List (List ℕ)) (root : List ℕ) (fs : List ModelFrame) → held ≡ Some u.directory → IsPlanNow u old.plan → AreOffersHonest u old.plan told
    → IsRightSite u done root old → AreWaiting u old root fs → ChecksRight u old root fs c → AreTried u (offers_to old.plan told u.directory) old
    → IsTriedCheck u (offers_to old.plan told u.directory) c → LeavesTried u (offers_to old.plan told u.directory) old c.no.0 new t before after

-- it goes on by what was found there of this check, before which something was asked of the files
abbrev pub GoesOnTried : Option Directory → (Directory → Task → List ℕ → List Offered) → Builder → Check → Place → Builder → List Task → List Task → Turn → Type 0
GoesOnTried held told old c place new before after t =
    (u : Update) (done : List (List ℕ)) (root : List ℕ) (fs : List ModelFrame) (earlier : Builder) (from : Check) → held ≡ Some u.directory
    → IsPlanNow u old.plan → AreOffersHonest u old.plan told → IsTrueOf u.directory earlier.named → IsRightSite u done root old → AreWaiting u old root fs
    → ChecksRight u old root fs from
    → c ≡ record from { required = c.required } → FindsHere held earlier old from c place → AreTried u (offers_to old.plan told u.directory) old
    → IsTriedCheck u (offers_to old.plan told u.directory) c → LeavesTried u (offers_to old.plan told u.directory) old c.no.0 new t before after

-- its next observation is of a task that wasn't entered
abbrev pub RequiresTried : Option Directory → (Directory → Task → List ℕ → List Offered) → Builder → Check → Task → Builder → List Task → List Task → Turn → Type 0
RequiresTried held told old c task new before after t =
    (u : Update) (done : List (List ℕ)) (root : List ℕ) (fs : List ModelFrame) → held ≡ Some u.directory → IsPlanNow u old.plan → AreOffersHonest u old.plan told
    → IsRightSite u done root old → ChecksRight u old root fs c → NeedsNext c task → AreTried u (offers_to old.plan told u.directory) old
    → IsTriedCheck u (offers_to old.plan told u.directory) c → LeavesTried u (offers_to old.plan told u.directory) old c.no.0 new t before after

-- it stands
abbrev pub KeepsTried : Builder → Check → Builder → Turn → Type 0
KeepsTried old c new t =
    (u : Update) (done : List (List ℕ)) (root : List ℕ) (fs : List ModelFrame) (offers : Task → List Offered) → IsRightSite u done root old
    → AreWaiting u old root fs → ChecksRight u old root fs c → AreTried u offers old → IsTriedCheck u offers c
    → StaysTried u offers new t × (StaysMarked old new ⊎ ReusesStanding u offers old c.no.0 new)

-- nothing is compared but what waited for it
abbrev pub HoldsTried : Builder → Builder → Turn → Type 0
HoldsTried old new t = (u : Update) (offers : Task → List Offered) → AreTried u offers old → StaysTried u offers new t

-- or this check waits
abbrev pub WaitsTried : Builder → Check → Builder → Turn → Type 0
WaitsTried old c new t =
    (u : Update) (offers : Task → List Offered) → AreTried u offers old → IsTriedCheck u offers c → StaysTried u offers new t

-- a step with something in hand
abbrev pub StepsTried : Option Directory → (Directory → Task → List ℕ → List Offered) → Builder → Hand → Builder → List Task → List Task → Turn → Type 0
StepsTried held told old (hands.Enters n code) new before after t = TriesFrom held told old n.0 new before after t
StepsTried held told old (hands.Checks c) new before after t = ComparesTried held told old c.value new before after t
StepsTried held told old (hands.Runs f) new before after t = HoldsTried old new t
StepsTried held told old hands.Ended new before after t = HoldsTried old new t

-- ---- many steps

-- so it is before each of them
pub record IsTriedSoFar (u : Update) (offers : Task → List Offered) (now : Builder) (h : Hand) : Type 0 where
  pub stack : AreTried u offers now
  pub hand : IsTriedHand u offers h

abbrev pub StaysTriedSo : Option Directory → (Directory → Task → List ℕ → List Offered) → Builder → Hand → Builder → Hand → Type 0
StaysTriedSo held told first h now hand =
    (u : Update) (done : List (List ℕ)) (root : List ℕ) → IsBuildOf u held told first.plan → IsRight u done root first h
    → IsTriedSoFar u (offers_to first.plan told u.directory) first h → IsTriedSoFar u (offers_to first.plan told u.directory) now hand
