-- A record that is compared, stands or gives way, by which offers of its task were tried.
use Rattle.std.proofs.Common.{◌≡◌, ℕ, List, [], ◌∷◌, ◌++◌, Option, Some, Vec, Result, Ok, Err, map, refl, sym, ap, subst, ◌∙◌, inl, inr}
use Rattle.std.specs.declared.alloc.Global.{Global}
use Rattle.std.specs.Prelude.{slice_get, IfOk, OnOk}
use Rattle.std.specs.List.{Contains}
use Rattle.std.proofs.lemmas.List.{append_assoc}
use Rattle.std.proofs.lemmas.List.Elements.{Contains-append_left, Contains-push}
use Rattle.pie_value.specs.declared.task.Task.{Task}
use Rattle.pie_value.specs.Canonical.{enc_task, IsEncodableTask}
use Rattle.pie_files.specs.Directory.{Directory}
use Rattle.pie_record.specs.Canonical.{IsStorable, IsTrueTask}
use Rattle.pie_running.specs.declared.frame.RunningTask.{RunningTask}
use Rattle.pie_store.specs.inner.Offers.{Offered, offered}
use Rattle.pie_model.specs.Evaluation.{evaluation}
use Rattle.pie_model.specs.Records.{record_of as model_record}
use Rattle.pie_model.specs.inner.Stack.{Frame as ModelFrame}
use Rattle.pie_model_pipeline.specs.Rows.{record_of}
use Rattle.pie_model_pipeline.specs.World.{world}
use Rattle.pie_core_laws.specs.Update.{Update, present}
use Rattle.pie_topdown.specs.declared.builder.Builder.{Builder}
use Rattle.pie_topdown.specs.declared.checking.Place.{Place}
use Rattle.pie_topdown.specs.declared.checking.Place.TheVariants.{Over, Stands, Differs, Needs}
use Rattle.pie_topdown.specs.declared.entering.Entry.TheVariants.{Unknown}
use Rattle.pie_topdown.specs.declared.hand.Check.{Check}
use Rattle.pie_topdown.specs.declared.hand.Hand.TheVariants as hands
use Rattle.pie_topdown.specs.declared.hand.Rest.{Rest}
use Rattle.pie_topdown.specs.declared.hand.Rest.TheVariants as rests
use Rattle.pie_topdown.specs.declared.hand.Turn.{Turn}
use Rattle.pie_topdown.specs.declared.hand.Turn.TheVariants.{Many}
use Rattle.pie_topdown.specs.inner.Entries.{MayEnter}
use Rattle.pie_topdown.specs.inner.Frames.{IsCheck, IsSite}
use Rattle.pie_topdown.specs.inner.Marks.{StaysMarked, ReusesOne}
use Rattle.pie_topdown.specs.inner.Places.{Finds, FindsHere, MayGiveWay, NeedsNext}
use Rattle.pie_topdown.specs.inner.Right.{IsPlanNow, IsRightSite, AreOffersHonest, AreWaiting, ChecksRight}
use Rattle.pie_topdown.specs.inner.Trying.{offers_to, LeavesTried, OneStands, IsTriedBy, IsTriedCheck, AreTried, GivesWay, DiffersTried, ComparesTried, GoesOnTried, RequiresTried, KeepsTried, HoldsTried, WaitsTried, StepsTried}
use Rattle.pie_topdown.specs.inner.Unoffered.{GoesMarked}
use Rattle.pie_topdown.proofs.Differences.{differs_gives, lost_gives}
use Rattle.pie_topdown.proofs.Differing.{called_true, right_after}
use Rattle.pie_topdown.proofs.Learnt.{site_by, waiting_by, checks_by}
use Rattle.pie_topdown.proofs.Marking.{stays_none, stays_same}
use Rattle.pie_topdown.proofs.Trying.{goes_tried, leaves_after, same_check, same_tried}

one_some : {A : Type 0} (x y : A) → Some x ≡ Some y → x ≡ y
one_some x y e = cc

-- ---- it stands

-- the own record of a task
pub own_kept : {E : Type 0} (b new : Builder) (c : Check) (r : Result Turn E) → IfOk r (HoldsTried b new) → OnOk r (StaysMarked b new)
    → IfOk r (KeepsTried b c new)
own_kept b new c (Err x) holds marks = tt
own_kept b new c (Ok t) holds marks = λ u done root fs offers s waiting k tried this. (holds u offers tried, inl marks)

-- an offered one: it is that of the task's evaluation now
pub offer_kept : {E : Type 0} (b new : Builder) (c : Check) (contents : Vec (Vec ℕ Global) Global) (r : Result Turn E) → c.contents ≡ Some contents
    → slice_get b.ledger.tables.names c.no.0 ≡ Some c.rec.task
    → OnOk r ((u : Update) (done : List (List ℕ)) (root : List ℕ) (fs : List ModelFrame) → IsRightSite u done root b → AreWaiting u b root fs
    → ChecksRight u b root fs c → record_of c.rec ≡ model_record world (evaluation world (present u) (enc_task c.rec.task)))
    → IfOk r (HoldsTried b new) → OnOk r (ReusesOne b c.no.0 new) → IfOk r (KeepsTried b c new)
offer_kept b new c contents (Err x) own named stands holds one = tt
offer_kept b new c contents (Ok t) own named stands holds one = λ u done root fs offers s waiting k tried this. (
  holds u offers tried,
  inr (record {
    one = one;
    stands = subst (OneStands u offers) (one_some c.rec.task one.marks.task (sym named ∙ one.marks.named))
        (by u offers (stands u done root fs s waiting k) c.rest (subst (λ o. IsTriedBy u offers c.rec o c.rest) own this));
  }),
)
  where
    by : (u : Update) (offers : Task → List Offered) → record_of c.rec ≡ model_record world (evaluation world (present u) (enc_task c.rec.task))
        → (rest : Rest) → IsTriedBy u offers c.rec (Some contents) rest → OneStands u offers c.rec.task
    by u offers is rests.Unasked h = absurd h
    by u offers is (rests.Asked rest) h =
        let this : Offered = (c.rec, map (λ (v : Vec ℕ Global). v.items) contents.items) in
        record {
          offer = this;
          listed = subst (λ xs. Contains xs this) (append_assoc h.1.over (this ∷ []) (map offered rest.items) ∙ sym h.1.is)
              (Contains-append_left (h.1.over ++ this ∷ []) (map offered rest.items) this (Contains-push h.1.over this));
          stands = record { of = refl; once = h.0; is = is };
        }

-- ---- it goes on by what was found

module _ {E : Type 0} (held : Option Directory) (told : Directory → Task → List ℕ → List Offered) (b new : Builder) (c : Check) (before after : List Task)
    (r : Result Turn E) where
  pub over_tried : IsCheck b.ledger c → after ≡ before → IfOk r (KeepsTried b c new) → IfOk r (GoesOnTried held told b c Over new before after)
  over_tried is same = by r
    where
      by : (r : Result Turn E) → IfOk r (KeepsTried b c new) → IfOk r (GoesOnTried held told b c Over new before after)
      by (Err x) keeps = tt
      by (Ok t) keeps = λ u done root fs earlier from holds plan honest known s waiting k one found tried this.
          let l = keeps u done root fs (offers_to b.plan told u.directory) s waiting (right_after u b root fs c from one is k) tried this in
          record { stays = l.0; marks = inl (same, l.1) }

  pub differs_tried : IsSite b → MayGiveWay b.ledger c → IfOk r (DiffersTried held told b c new before after)
      → IfOk r (GoesOnTried held told b c Differs new before after)
  differs_tried is may = by r
    where
      by : (r : Result Turn E) → IfOk r (DiffersTried held told b c new before after) → IfOk r (GoesOnTried held told b c Differs new before after)
      by (Err x) differs = tt
      by (Ok t) differs = λ u done root fs earlier from holds plan honest known s waiting k one found tried this.
          differs u holds honest s.ledger.tasks
          (subst (GivesWay u) (sym one)
          (differs_gives u done root b fs from is s k found (subst (λ (x : Check). IsStorable x.rec) one may.storable))) tried this

  pub needs_tried : (task : Task) → IsCheck b.ledger c → IfOk r (RequiresTried held told b c task new before after)
      → IfOk r (GoesOnTried held told b c (Needs task) new before after)
  needs_tried task is = by r
    where
      by : (r : Result Turn E) → IfOk r (RequiresTried held told b c task new before after)
          → IfOk r (GoesOnTried held told b c (Needs task) new before after)
      by (Err x) requires = tt
      by (Ok t) requires = λ u done root fs earlier from holds plan honest known s waiting k one found tried this.
          requires u done root fs holds plan honest s (right_after u b root fs c from one is k)
          (subst (λ (x : Check). NeedsNext x task) (sym one) (record { dep = found.dep; next = found.next; what = found.what })) tried this

pub stands_tried : (held : Option Directory) (told : Directory → Task → List ℕ → List Offered) (b : Builder) (c : Check) (runs : List Task) (t : Turn)
    → WaitsTried b c b t → GoesOnTried held told b c Stands b runs runs t
stands_tried held told b c runs t waits = λ u done root fs earlier from holds plan honest known s waiting k one found tried this.
    record { stays = waits u (offers_to b.plan told u.directory) tried this; marks = inl (refl, inl (stays_none b)) }

-- ---- it requires a task

pub waits_tried : {E : Type 0} (held : Option Directory) (told : Directory → Task → List ℕ → List Offered) (b new : Builder) (c : Check) (task : Task)
    (runs : List Task) (r : Result Turn E) → OnOk r (StaysMarked b new) → IfOk r (WaitsTried b c new)
    → IfOk r (RequiresTried held told b c task new runs runs)
waits_tried held told b new c task runs (Err x) marks waits = tt
waits_tried held told b new c task runs (Ok t) marks waits = λ u done root fs holds plan honest s k needs tried this.
    record { stays = waits u (offers_to b.plan told u.directory) tried this; marks = inl (refl, inl marks) }

-- that is of no function
pub lost_tried : {E : Type 0} (held : Option Directory) (told : Directory → Task → List ℕ → List Offered) (b new : Builder) (c : Check) (task : Task)
    (before after : List Task) (r : Result Turn E) → MayEnter b task Unknown → IsEncodableTask task
    → IfOk r (DiffersTried held told b c new before after) → IfOk r (RequiresTried held told b c task new before after)
lost_tried held told b new c task before after (Err x) may encodable differs = tt
lost_tried held told b new c task before after (Ok t) may encodable differs = λ u done root fs holds plan honest s k needs tried this.
    let parts : IsTrueTask task = called_true c.rec c.at needs.dep task k.may.parts needs.next needs.what in
    differs u holds honest s.ledger.tasks
    (lost_gives u b root fs c task plan k needs may (record { encodable = encodable; name = parts.0; leaves = parts.1; bytes = refl })) tried this

-- one task more than may be
pub full_tried : (held : Option Directory) (told : Directory → Task → List ℕ → List Offered) (b : Builder) (c : Check) (task : Task) (runs : List Task)
    → RequiresTried held told b c task b runs runs Many
full_tried held told b c task runs = λ u done root fs holds plan honest s k needs tried this.
    record { stays = record { stack = tried; turn = tt }; marks = inl (refl, inl (stays_none b)) }

-- ---- a place is compared

pub compares_tried : {E : Type 0} (held between : Option Directory) (told : Directory → Task → List ℕ → List Offered) (b mid new : Builder) (c later : Check)
    (place : Place) (before after : List Task) (r : Result Turn E) → between ≡ held → mid ≡ record b { named = mid.named }
    → later ≡ record c { required = later.required } → Finds held b mid c later place → IfOk r (GoesOnTried between told mid later place new before after)
    → IfOk r (ComparesTried held told b c new before after)
compares_tried held between told b mid new c later place before after (Err x) steady same one finds goes = tt
compares_tried held between told b mid new c later place before after (Ok t) steady same one finds goes = λ u done root fs holds plan honest s waiting k tried this.
    let plans = ap (λ x. x.plan) same in
    let offers = offers_to b.plan told u.directory in
    leaves_after u offers b mid new c.no.0 t before after (stays_same b mid (ap (λ x. x.ledger) same) (ap (λ x. x.reused) same))
    (ap (λ x. x.ledger.tables.names) same)
    (subst (λ n. LeavesTried u offers mid n new t before after) (ap (λ (x : Check). x.no.0) one)
    (subst (λ p. LeavesTried u (offers_to p told u.directory) mid later.no.0 new t before after) plans
    (goes u done root fs b c (steady ∙ holds) (subst (IsPlanNow u) (sym plans) plan) (subst (λ p. AreOffersHonest u p told) (sym plans) honest) s.known
    (site_by b mid same u done root (finds.known u.directory holds s.known) s) (waiting_by b mid same u root fs waiting) (checks_by b mid same u root fs c k) one
    (subst (λ h. FindsHere h b mid c later place) (sym steady) finds.here)
    (subst (λ p. AreTried u (offers_to p told u.directory) mid) (sym plans) (same_tried u offers b mid (ap (λ x. x.stack.items) same) tried))
    (subst (λ p. IsTriedCheck u (offers_to p told u.directory) later) (sym plans)
    (same_check u offers c later (ap (λ (x : Check). x.rec) one) (ap (λ (x : Check). x.contents) one) (ap (λ (x : Check). x.rest) one) this)))))

-- ---- a task runs

pub runs_tried : {E : Type 0} (held : Option Directory) (told : Directory → Task → List ℕ → List Offered) (b new : Builder) (f : RunningTask) (runs : List Task)
    (r : Result Turn E) → IfOk r (GoesMarked b new) → IfOk r (StepsTried held told b (hands.Runs f) new runs runs)
runs_tried held told b new f runs (Err x) goes = tt
runs_tried held told b new f runs (Ok t) goes = goes_tried b new t goes
