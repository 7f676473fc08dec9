-- Checks of a build without a list, and records that are offered, as the model of building knows them.
use Rattle.std.specs.Prelude.{◌≡◌, ℕ, Bool, true, false, List, [], ◌∷◌, ◌++◌, All, map, Option, None, Some, Box, slice_get}
use Rattle.std.specs.Option.{option_or}
use Rattle.std.specs.declared.alloc.Global.{Global}
use Rattle.std.proofs.Common.{Vec}
use Rattle.sha2.specs.Sha256.{sha256}
use Rattle.pie_value.specs.declared.task.Task.{Task}
use Rattle.pie_code.specs.declared.code.Code.{Code}
use Rattle.pie_files.specs.Directory.{Directory}
use Rattle.pie_record.specs.Canonical.{IsTrueRecord}
use Rattle.pie_record.specs.declared.task_record.TaskRecord.{TaskRecord}
use Rattle.pie_results.specs.inner.Failures.{is_done}
use Rattle.pie_store.specs.declared.offers.Offer.{Offer}
use Rattle.pie_store.specs.inner.Offers.{Offered, offered}
use Rattle.pie_view.specs.Content.{Staged, content}
use Rattle.pie_named.specs.inner.Known.{IsTrueOf}
use Rattle.pie_model.specs.Seen.{first_write}
use Rattle.pie_model.specs.inner.Stack.{Frame as ModelFrame}
use Rattle.pie_builder_laws.specs.Names.{AreTasks}
use Rattle.pie_core_laws.specs.Update.{Update}
use Rattle.pie_topdown_result_laws.specs.Builds.{IsHonestTo, WritesOnce}
use Rattle.pie_topdown.specs.declared.builder.Builder.{Builder}
use Rattle.pie_topdown.specs.declared.ledger.Ledger.{Ledger}
use Rattle.pie_topdown.specs.declared.hand.Check.{Check}
use Rattle.pie_topdown.specs.declared.hand.Hand.TheVariants as hands
use Rattle.pie_topdown.specs.declared.hand.Turn.{Turn}
use Rattle.pie_topdown.specs.declared.hand.Turn.TheVariants.{Goes}
use Rattle.pie_topdown.specs.declared.checking.Place.{Place}
use Rattle.pie_topdown.specs.inner.Due.{IsDueAt}
use Rattle.pie_topdown.specs.inner.Effects.{EndsIfNew, HasStarted}
use Rattle.pie_topdown.specs.inner.Frames.{IsOwnRecord}
use Rattle.pie_topdown.specs.inner.Ledgers.{IsLedger}
use Rattle.pie_topdown.specs.inner.Places.{FindsHere, NeedsNext}
use Rattle.pie_topdown.specs.inner.Right.{IsPlanNow, IsRightSite, AreWaiting, AreHonest, EntersRight, ChecksRight, AreOffersHonest, TurnIsRight}

-- ---- an entered task begins

-- it is checked, or runs
abbrev pub BeginsSo : Option Directory → (Directory → Task → List ℕ → List Offered) → Builder → ℕ → Code → Builder → Turn → Type 0
BeginsSo held told old n code new t =
    (u : Update) (done : List (List ℕ)) (root : List ℕ) (fs : List ModelFrame) → held ≡ Some u.directory → IsPlanNow u old.plan
    → AreOffersHonest u old.plan told → IsRightSite u done root old → AreWaiting u old root fs → EntersRight u old root fs n code
    → TurnIsRight u done root new t

-- so it does where it has this record, if that is its own in the store
abbrev pub BeginsWith : Option Directory → (Directory → Task → List ℕ → List Offered) → Builder → ℕ → Code → TaskRecord → Builder → Turn → Type 0
BeginsWith held told old n code rec new t = IsOwnRecord old.plan rec → BeginsSo held told old n code new t

-- so it does where it has a reason to run: its offers are asked for
abbrev pub OffersOrRuns : Option Directory → (Directory → Task → List ℕ → List Offered) → Builder → ℕ → Code → Builder → Turn → Type 0
OffersOrRuns held told old n code new t =
    (u : Update) (done : List (List ℕ)) (root : List ℕ) (fs : List ModelFrame) → held ≡ Some u.directory → IsPlanNow u old.plan
    → AreOffersHonest u old.plan told → IsRightSite u done root old → AreWaiting u old root fs → EntersRight u old root fs n code → IsDueAt u old n
    → TurnIsRight u done root new t

-- ---- offers

-- what is offered to an entered task is honest, where offers are
abbrev pub OffersSo : Option Directory → (Directory → Task → List ℕ → List Offered) → Builder → ℕ → List Offer → Type 0
OffersSo held told b n offers =
    (u : Update) (task : Task) → slice_get b.ledger.tables.names n ≡ Some task → held ≡ Some u.directory → AreOffersHonest u b.plan told
    → All (λ o. IsHonestTo u task (offered o)) offers

-- these contents have the hashes of these writes, one each
abbrev pub HaveHashes : List (Vec ℕ Global) → List (List ℕ × List ℕ) → Type 0
HaveHashes contents writes = map (λ (v : Vec ℕ Global). sha256 v.items) contents ≡ map (λ (w : List ℕ × List ℕ). w.1) writes

-- it is told whether no path is written twice
abbrev pub TellsOnce : List (List ℕ × List ℕ) → Bool → Type 0
TellsOnce writes true = WritesOnce writes
TellsOnce writes false = WritesOnce writes → ⊥

-- an offer fits an entered task, and writes no path twice; or it is passed over: it is of another task, has no output, writes a path twice, or hasn't the
-- contents of its writes
abbrev pub FitsSo : Builder → ℕ → Offer → Bool → Type 0
FitsSo b n o true = (slice_get b.ledger.tables.names n ≡ Some o.row.task) × WritesOnce o.row.writes
FitsSo b n o false =
    AreTasks b.ledger.tables.names → slice_get b.ledger.tables.names n ≡ Some o.row.task → is_done o.row.outcome ≡ true
    → HaveHashes o.contents.items o.row.writes → WritesOnce o.row.writes → ⊥

-- of these offers some are passed over, and the one after them is taken out, if there is one
abbrev pub Takes : Builder → ℕ → List Offer → List Offer → Option (Box Offer Global) → Type 0
Takes b n old new None = All (λ o. FitsSo b n o false) old
Takes b n old new (Some o) = (over : List Offer) × (old ≡ over ++ o.value ∷ new) × All (λ x. FitsSo b n x false) over × FitsSo b n o.value true

-- an entered task that has a reason to run is checked against one of these offers, where they are honest, or runs
abbrev pub TriesSo : Builder → ℕ → Code → List Offer → Builder → Turn → Type 0
TriesSo old n code offers new t =
    (u : Update) (done : List (List ℕ)) (root : List ℕ) (fs : List ModelFrame) → IsRightSite u done root old → AreWaiting u old root fs
    → (e : EntersRight u old root fs n code) → All (λ o. IsHonestTo u e.task (offered o)) offers → IsDueAt u old n → TurnIsRight u done root new t

-- so it is where the first of them has canonical parts
abbrev pub ChecksOffer : Builder → ℕ → Code → Offer → List Offer → Builder → Turn → Type 0
ChecksOffer old n code offer rest new t = IsTrueRecord offer.row → TriesSo old n code (offer ∷ rest) new t

-- a record of an entered task differs, which has a reason to run: another one is checked, or the task runs
abbrev pub DiffersSo : Option Directory → (Directory → Task → List ℕ → List Offered) → Builder → Check → Builder → Turn → Type 0
DiffersSo held told old c new t =
    (u : Update) (done : List (List ℕ)) (root : List ℕ) (fs : List ModelFrame) → held ≡ Some u.directory → IsPlanNow u old.plan
    → AreOffersHonest u old.plan told → IsRightSite u done root old → AreWaiting u old root fs → (e : EntersRight u old root fs c.no.0 c.code.now)
    → IsDueAt u old c.no.0 → AreHonest u e.task c.rest → TurnIsRight u done root new t

-- ---- checks

-- a record that is checked is compared in one place
abbrev pub ComparesSo : Option Directory → (Directory → Task → List ℕ → List Offered) → Builder → Check → Builder → Turn → Type 0
ComparesSo held told old c new t =
    (u : Update) (done : List (List ℕ)) (root : List ℕ) (fs : List ModelFrame) → held ≡ Some u.directory → IsPlanNow u old.plan
    → AreOffersHonest u old.plan told → IsRightSite u done root old → AreWaiting u old root fs → ChecksRight u old root fs c
    → TurnIsRight u done root new t

-- it goes on by what was found there of this check, before which something was asked of the files
abbrev pub GoesOnSo : Option Directory → (Directory → Task → List ℕ → List Offered) → Builder → Check → Place → Builder → Turn → Type 0
GoesOnSo held told old c place new t =
    (u : Update) (done : List (List ℕ)) (root : List ℕ) (fs : List ModelFrame) (before : Builder) (from : Check) → held ≡ Some u.directory
    → IsPlanNow u old.plan → AreOffersHonest u old.plan told → IsTrueOf u.directory before.named → IsRightSite u done root old
    → AreWaiting u old root fs → ChecksRight u old root fs from → c ≡ record from { required = c.required }
    → FindsHere held before old from c place → TurnIsRight u done root new t

-- its next observation is of a task that wasn't entered
abbrev pub RequiresSo : Option Directory → (Directory → Task → List ℕ → List Offered) → Builder → Check → Task → Builder → Turn → Type 0
RequiresSo held told old c task new t =
    (u : Update) (done : List (List ℕ)) (root : List ℕ) (fs : List ModelFrame) → held ≡ Some u.directory → IsPlanNow u old.plan
    → AreOffersHonest u old.plan told → IsRightSite u done root old → AreWaiting u old root fs → ChecksRight u old root fs c → NeedsNext c task
    → TurnIsRight u done root new t

-- ---- an offered record stands

-- writes with contents in place of their hashes, as many as there are of both
abbrev pub with_contents : List (List ℕ × List ℕ) → List (List ℕ) → List (List ℕ × List ℕ)
with_contents [] contents = []
with_contents (w ∷ ws) [] = []
with_contents (w ∷ ws) (bytes ∷ rest) = (w.0, bytes) ∷ with_contents ws rest

-- these contents of writes are staged of a task, of several at one path the first, and of the others nothing changes
pub record StagesAll (old new : Staged) (n : ℕ) (writes : List (List ℕ × List ℕ)) (contents : List (List ℕ)) : Type 0 where
  pub here : (p : List ℕ) → content new n p ≡ option_or (first_write p (with_contents writes contents)) (content old n p)
  pub beside : (k : ℕ) → (k ≡ n → ⊥) → (p : List ℕ) → content new k p ≡ content old k p

-- a task ended with this record and is marked, these contents of its writes are staged, and it counts as reused
pub record HasReused (old : Builder) (n : ℕ) (rec : TaskRecord) (needs : List ℕ) (contents : List (List ℕ)) (new : Builder) : Type 0 where
  pub between : Ledger
  pub ended : EndsIfNew old.ledger n rec needs between
  pub marked : HasStarted between n new.ledger
  pub ledger : IsLedger new.ledger
  pub staged : StagesAll old.stage new.stage n rec.writes contents
  pub rest : new ≡ record old { ledger = new.ledger; stage = new.stage; reused = new.reused }

abbrev pub EndsReused : Builder → ℕ → TaskRecord → List ℕ → List (List ℕ) → Builder → Turn → Type 0
EndsReused old n rec needs contents new t = HasReused old n rec needs contents new × (t ≡ Goes hands.Ended)
