-- An entered task begins with the check of its own record, in the words of the model.
use Rattle.std.proofs.Common.{◌≡◌, ℕ, Bool, true, false, cond, List, [], ◌∷◌, Option, None, Some, Box, Result, Ok, Err, refl, sym, ap, subst, ◌∙◌, bytes_eq}
use Rattle.std.specs.declared.alloc.Global.{Global}
use Rattle.std.specs.Prelude.{IfOk, option_map, slice_get}
use Rattle.std.specs.List.{All}
use Rattle.std.proofs.lemmas.List.Elements.{All-head, All-tail}
use Rattle.sha2.specs.Sha256.{sha256}
use Rattle.pie_value.specs.declared.task.Task.{Task}
use Rattle.pie_value.specs.declared.stamp.Stamp.TheVariants as stamps
use Rattle.pie_code.specs.declared.code.Code.{Code}
use Rattle.pie_files.specs.Directory.{Directory, file_at}
use Rattle.pie_record.specs.declared.task_record.TaskRecord.{TaskRecord}
use Rattle.pie_named.specs.inner.Stamped.{hash_of, differs_from}
use Rattle.pie_store.specs.inner.Offers.{Offered}
use Rattle.pie_model.proofs.Basics.{same_bytes}
use Rattle.pie_model_pipeline.specs.World.{world}
use Rattle.pie_builder_laws.proofs.Naming.{canonical_at}
use Rattle.pie_earlier_laws.specs.Left.{AreThere}
use Rattle.pie_core_laws.specs.Update.{earlier}
use Rattle.pie_topdown_laws.proofs.Comparing.{stored_old, tells_apart}
use Rattle.pie_topdown.specs.declared.builder.Builder.{Builder}
use Rattle.pie_topdown.specs.declared.hand.Check.{Check}
use Rattle.pie_topdown.specs.declared.hand.Hand.TheVariants as hands
use Rattle.pie_topdown.specs.declared.hand.Rest.TheVariants as rests
use Rattle.pie_topdown.specs.declared.hand.Turn.{Turn}
use Rattle.pie_topdown.specs.declared.hand.Turn.TheVariants.{Goes}
use Rattle.pie_topdown.specs.inner.Due.{LacksOwn}
use Rattle.pie_topdown.specs.inner.Frames.{IsOwnRecord}
use Rattle.pie_topdown.specs.inner.Offering.{BeginsSo, BeginsWith, OffersOrRuns}
use Rattle.pie_topdown.specs.inner.Right.{IsPlanNow, AreOffersHonest, BeginsCheck}
use Rattle.pie_topdown.specs.inner.Written.{IsThereIn, IsOneGone, FindsThere, FindsGone}
use Rattle.pie_topdown.proofs.Lasting.{due_lasts, own_lasts}
use Rattle.pie_topdown.proofs.Learnt.{site_by, waiting_by, enters_by}
use Rattle.pie_topdown.proofs.Reasoning.{gone_due, no_own_due}

-- ---- what it wrote is there

hash_there : (o : Option (List ℕ × ℕ)) (h : List ℕ) → differs_from (hash_of o) (stamps.Hash h) ≡ false
    → (b : List ℕ) × (option_map (λ (f : List ℕ × ℕ). f.0) o ≡ Some b) × (world.hash b ≡ h)
unfolding world
hash_there None h i = absurd (cc)
hash_there (Some f) h i = (f.0, refl, by (bytes_eq (sha256 f.0) h) refl i)
  where
    by : (b : Bool) → bytes_eq (sha256 f.0) h ≡ b → cond b false true ≡ false → sha256 f.0 ≡ h
    by true e q = same_bytes (sha256 f.0) h e
    by false e q = absurd (cc)

all_there : (d : Directory) (ws : List (List ℕ × List ℕ)) → All (IsThereIn d) ws → AreThere world d ws
all_there d [] h = tt
all_there d (w ∷ ws) h = (
  hash_there (file_at d w.0) w.1 (All-head (IsThereIn d) w ws h),
  all_there d ws (All-tail (IsThereIn d) w ws h),
)

-- ---- its check begins

-- where all that its record wrote is there
pub own_begins : (held : Option Directory) (told : Directory → Task → List ℕ → List Offered) (b mid : Builder) (n : ℕ) (code : Code) (rec : TaskRecord)
    (c : Box Check Global) → mid ≡ record b { named = mid.named } → FindsThere held b.named mid.named (λ d. All (IsThereIn d) rec.writes) true
    → BeginsCheck mid n code rec None rests.Unasked c.value → BeginsWith held told b n code rec mid (Goes (hands.Checks c))
own_begins held told b mid n code rec c same finds begins own = λ u done root fs holds plan honest s waiting e.
    let found = finds u.directory holds s.known in
    let site = site_by b mid same u done root found.known s in
    record {
      site = site;
      fs = fs;
      waiting = waiting_by b mid same u root fs waiting;
      hand = begins u done root fs (earlier u) site (enters_by b mid same u root fs n code e)
          (stored_old u rec plan.build (plan.old own.number rec own.kept) (plan.meaning own.number rec own.kept own.same)) (tells_apart u plan.apart)
          (plan.parts own.number rec own.kept) (all_there u.directory rec.writes (found.there refl))
          (own_lasts b.plan mid.plan rec (ap (λ x. x.plan) same) own) tt;
    }

-- else its offers are asked for, when more is known of the files: something that it wrote isn't there
pub other_begins : {E : Type 0} (held between : Option Directory) (told : Directory → Task → List ℕ → List Offered) (b mid new : Builder) (n : ℕ) (code : Code)
    (rec : TaskRecord) (stands : Bool) (r : Result Turn E) → between ≡ held → mid ≡ record b { named = mid.named }
    → FindsThere held b.named mid.named (λ d. All (IsThereIn d) rec.writes) stands → FindsGone held b.named (λ d. IsOneGone d rec.writes) stands
    → stands ≡ false → slice_get b.ledger.tables.names n ≡ Some rec.task → IfOk r (OffersOrRuns between told mid n code new)
    → IfOk r (BeginsWith held told b n code rec new)
other_begins held between told b mid new n code rec stands (Err x) steady same finds gone lost named begins = tt
other_begins held between told b mid new n code rec stands (Ok t) steady same finds gone lost named begins = λ own u done root fs holds plan honest s waiting e.
    begins u done root fs (steady ∙ holds) (subst (IsPlanNow u) (sym (ap (λ x. x.plan) same)) plan)
    (subst (λ p. AreOffersHonest u p told) (sym (ap (λ x. x.plan) same)) honest)
    (site_by b mid same u done root (finds u.directory holds s.known).known s) (waiting_by b mid same u root fs waiting)
    (enters_by b mid same u root fs n code e)
    (due_lasts u b mid n (λ v at. subst (λ (x : Builder). slice_get x.ledger.tables.names n ≡ Some v) (sym same) at) (ap (λ x. x.plan) same) (record {
      task = rec.task;
      named = named;
      due = gone_due u b.plan plan rec own (gone u.directory holds s.known lost);
    }))

-- a task has an old record
pub with_begins : {E : Type 0} (held : Option Directory) (told : Directory → Task → List ℕ → List Offered) (b new : Builder) (n : ℕ) (code : Code)
    (rec : TaskRecord) (r : Result Turn E) → IsOwnRecord b.plan rec → IfOk r (BeginsWith held told b n code rec new)
    → IfOk r (BeginsSo held told b n code new)
with_begins held told b new n code rec (Err x) own begins = tt
with_begins held told b new n code rec (Ok t) own begins = begins own

-- it has none whose function stayed the same
pub none_begins : {E : Type 0} (held : Option Directory) (told : Directory → Task → List ℕ → List Offered) (b new : Builder) (n : ℕ) (code : Code)
    (r : Result Turn E) → LacksOwn b n None → IfOk r (OffersOrRuns held told b n code new) → IfOk r (BeginsSo held told b n code new)
none_begins held told b new n code (Err x) lacks begins = tt
none_begins held told b new n code (Ok t) lacks begins = λ u done root fs holds plan honest s waiting e.
    begins u done root fs holds plan honest s waiting e (record {
      task = e.task;
      named = e.named;
      due = no_own_due u b.plan plan e.task (canonical_at b.ledger.tables.names s.ledger.tasks n e.task e.named) (lacks e.task e.named);
    })
