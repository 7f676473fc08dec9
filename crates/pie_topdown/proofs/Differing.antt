-- A check gives way, goes on by what was found, or requires a task, in the words of the model.
use Rattle.std.proofs.Common.{◌≡◌, ℕ, ◌≤◌, List, [], ◌∷◌, ◌++◌, Option, Some, Result, Ok, Err, Vec, length, map, take, refl, sym, ap, subst, ◌∙◌}
use Rattle.std.specs.declared.alloc.Global.{Global}
use Rattle.std.specs.Prelude.{slice_get, drop, IfOk}
use Rattle.std.specs.List.{Contains}
use Rattle.std.proofs.lemmas.Option.{slice_get_within, get_or_from_slice_get}
use Rattle.pie_value.specs.declared.task.Task.{Task}
use Rattle.pie_value.specs.Canonical.{enc_task, IsEncodableTask}
use Rattle.pie_files.specs.Directory.{Directory}
use Rattle.pie_graph.specs.declared.edges.TaskNo.{TaskNo}
use Rattle.pie_record.specs.Canonical.{IsTrueRecord, IsTrueDep, IsTrueOn, IsTrueTask}
use Rattle.pie_record.specs.declared.task_record.TaskRecord.{TaskRecord}
use Rattle.pie_record.specs.declared.dep.Dep.{Dep}
use Rattle.pie_record.specs.declared.dep.DepOn.{DepOn}
use Rattle.pie_record.specs.declared.dep.DepOn.TheVariants.{File, Called}
use Rattle.pie_store.specs.Canonical.{required_on}
use Rattle.pie_store.specs.declared.offers.Offer.{Offer}
use Rattle.pie_store.specs.inner.Offers.{Offered}
use Rattle.pie_old.specs.inner.Rows.{needs_in}
use Rattle.pie_model.specs.inner.Stack.{Frame as ModelFrame}
use Rattle.pie_step_laws.specs.Frames.{begun}
use Rattle.pie_model_pipeline.specs.Rows.{observation_of, record_of}
use Rattle.pie_model_pipeline.specs.World.{world}
use Rattle.pie_builder_laws.specs.Names.{called_in, called_on}
use Rattle.pie_core_laws.specs.Update.{Update}
use Rattle.pie_topdown_laws.specs.Ledgers.{setting}
use Rattle.pie_topdown_laws.proofs.Building.{gives_way}
use Rattle.pie_topdown_laws.proofs.Stacking.{goes_on}
use Rattle.pie_topdown.specs.declared.builder.Builder.{Builder}
use Rattle.pie_topdown.specs.declared.entering.Entry.TheVariants.{Unknown}
use Rattle.pie_topdown.specs.declared.checking.Place.{Place}
use Rattle.pie_topdown.specs.declared.checking.Place.TheVariants.{Over, Stands, Differs, Needs}
use Rattle.pie_topdown.specs.declared.hand.Check.{Check}
use Rattle.pie_topdown.specs.declared.hand.Rest.TheVariants as rests
use Rattle.pie_topdown.specs.declared.hand.Turn.{Turn}
use Rattle.pie_topdown.specs.declared.hand.Turn.TheVariants.{Many}
use Rattle.pie_topdown.specs.inner.Calling.{ChecksSo}
use Rattle.pie_topdown.specs.inner.Frames.{IsCheck, IsSite}
use Rattle.pie_topdown.specs.inner.Offering.{OffersOrRuns, TriesSo, DiffersSo, ComparesSo, GoesOnSo, RequiresSo}
use Rattle.pie_topdown.specs.inner.Due.{IsDue}
use Rattle.pie_topdown.specs.inner.Entries.{MayEnter}
use Rattle.pie_topdown.specs.inner.Places.{Finds, FindsHere, MayGiveWay, NeedsNext}
use Rattle.pie_topdown.specs.inner.Right.{names_of, records_of, IsPlanNow, AreHonest, AreOffersHonest, EntersRight, ChecksRight, PassesRight, KeepsRight}
use Rattle.pie_topdown.proofs.Differences.{differs_due, lost_due}
use Rattle.pie_topdown.proofs.Learnt.{site_by, waiting_by, checks_by}
use Rattle.pie_topdown.proofs.Pushed.{check_full}

one_some : (x y : Task) → Some x ≡ Some y → x ≡ y
one_some x y e = cc

-- ---- a check gives way

-- its task may begin anew
pub gives_enters : (u : Update) (b : Builder) (root : List ℕ) (fs : List ModelFrame) (c : Check) → slice_get b.ledger.tables.names c.no.0 ≡ Some c.rec.task
    → ChecksRight u b root fs c → EntersRight u b root fs c.no.0 c.code.now
gives_enters u b root fs c named k =
    let C = k.check.check in
    record {
      task = c.rec.task;
      named = named;
      top = goes_on (setting u) (records_of b) (names_of b) root fs C.checked.frame k.top (begun world (enc_task c.rec.task)) (sym C.checked.task)
          (gives_way (setting u) k.check.before (records_of b) root fs (enc_task c.rec.task) (record_of c.rec) (map observation_of (take c.at c.rec.deps))
          (map observation_of (drop c.at c.rec.deps)) C.checked);
      untouched = k.may.untouched;
      function = k.may.function;
      busy = k.busy;
    }

-- its offers are asked for
pub unasked_differs : {E : Type 0} (held : Option Directory) (told : Directory → Task → List ℕ → List Offered) (b new : Builder) (c : Check) (r : Result Turn E)
    → IfOk r (OffersOrRuns held told b c.no.0 c.code.now new) → IfOk r (DiffersSo held told b c new)
unasked_differs held told b new c (Err x) begins = tt
unasked_differs held told b new c (Ok t) begins = λ u done root fs holds plan honest s waiting e due rest.
    begins u done root fs holds plan honest s waiting e due

-- or the next of them is tried
pub asked_differs : {E : Type 0} (held : Option Directory) (told : Directory → Task → List ℕ → List Offered) (b new : Builder) (c : Check)
    (offers : Vec Offer Global) (r : Result Turn E) → c.rest ≡ rests.Asked offers → IfOk r (TriesSo b c.no.0 c.code.now offers.items new)
    → IfOk r (DiffersSo held told b c new)
asked_differs held told b new c offers (Err x) is tries = tt
asked_differs held told b new c offers (Ok t) is tries = λ u done root fs holds plan honest s waiting e due rest.
    tries u done root fs s waiting e (subst (AreHonest u e.task) is rest) due

-- ---- the tasks that were required have the numbers that the check has

needs_same : (deps : List Dep) → needs_in deps ≡ called_in deps
needs_same [] = refl
needs_same (d ∷ ds) = by d.what (needs_same ds)
  where
    by : (w : DepOn) → needs_in ds ≡ called_in ds → required_on w ++ needs_in ds ≡ called_on w ++ called_in ds
    by (File p) e = e
    by (Called t) e = ap (λ xs. t ∷ xs) e

-- a check of other numbers of them is right as well
renumbered : (u : Update) (b : Builder) (root : List ℕ) (fs : List ModelFrame) (from : Check) (r : Vec TaskNo Global) → IsCheck b.ledger (record from { required = r })
    → ChecksRight u b root fs from → ChecksRight u b root fs (record from { required = r })
renumbered u b root fs from r is k = record {
  check = record {
    before = k.check.before;
    apart = k.check.apart;
    check = record {
      old = k.check.check.old;
      checked = k.check.check.checked;
      numbers = is.needs ∙ ap (map Some) (needs_same (take from.at from.rec.deps));
    };
  };
  top = k.top;
  may = record { untouched = k.may.untouched; function = k.may.function; parts = k.may.parts; source = k.may.source; due = k.may.due; rest = k.may.rest };
  busy = k.busy;
}

pub right_after : (u : Update) (b : Builder) (root : List ℕ) (fs : List ModelFrame) (c from : Check) → c ≡ record from { required = c.required } → IsCheck b.ledger c
    → ChecksRight u b root fs from → ChecksRight u b root fs c
right_after u b root fs c from same is k =
    subst (ChecksRight u b root fs) (sym same) (renumbered u b root fs from c.required (subst (IsCheck b.ledger) same is) k)

-- ---- it goes on by what was found

pub over_goes : {E : Type 0} (held : Option Directory) (told : Directory → Task → List ℕ → List Offered) (b new : Builder) (c : Check) (r : Result Turn E)
    → IsCheck b.ledger c → IfOk r (KeepsRight b c new) → IfOk r (GoesOnSo held told b c Over new)
over_goes held told b new c (Err x) is keeps = tt
over_goes held told b new c (Ok t) is keeps = λ u done root fs before from holds plan honest known s waiting k same found.
    keeps u done root fs s waiting (right_after u b root fs c from same is k)

pub stands_goes : (held : Option Directory) (told : Directory → Task → List ℕ → List Offered) (b : Builder) (c : Check) (t : Turn)
    → PassesRight b c t → GoesOnSo held told b c Stands b t
stands_goes held told b c t passes = λ u done root fs before from holds plan honest known s waiting k same found.
    passes u done root fs held before from holds known s waiting k same found

pub differs_goes : {E : Type 0} (held : Option Directory) (told : Directory → Task → List ℕ → List Offered) (b new : Builder) (c : Check) (r : Result Turn E)
    → IsSite b → MayGiveWay b.ledger c → IfOk r (DiffersSo held told b c new) → IfOk r (GoesOnSo held told b c Differs new)
differs_goes held told b new c (Err x) is may differs = tt
differs_goes held told b new c (Ok t) is may differs = λ u done root fs before from holds plan honest known s waiting k same found.
    let its = ap (λ (x : Check). x.rec) same in
    let e = subst (λ (x : Check). EntersRight u b root fs x.no.0 x.code.now) (sym same)
    (gives_enters u b root fs from (subst (λ (x : Check). slice_get b.ledger.tables.names x.no.0 ≡ Some x.rec.task) same may.named) k) in
    differs u done root fs holds plan honest s waiting e
    (record {
      task = c.rec.task;
      named = may.named;
      due = subst (λ (x : TaskRecord). IsDue u b.plan x.task) (sym its) (differs_due u done root b fs from plan is s k found);
    })
    (subst (AreHonest u e.task) (sym (ap (λ (x : Check). x.rest) same))
    (subst (λ (x : Task). AreHonest u x from.rest) (ap (λ (x : TaskRecord). x.task) (sym its) ∙ one_some c.rec.task e.task (sym may.named ∙ e.named)) k.may.rest))

pub needs_goes : {E : Type 0} (held : Option Directory) (told : Directory → Task → List ℕ → List Offered) (b new : Builder) (c : Check) (task : Task)
    (r : Result Turn E) → IsCheck b.ledger c → IfOk r (RequiresSo held told b c task new) → IfOk r (GoesOnSo held told b c (Needs task) new)
needs_goes held told b new c task (Err x) is requires = tt
needs_goes held told b new c task (Ok t) is requires = λ u done root fs before from holds plan honest known s waiting k same found.
    requires u done root fs holds plan honest s waiting (right_after u b root fs c from same is k)
    (subst (λ (x : Check). NeedsNext x task) (sym same) (record { dep = found.dep; next = found.next; what = found.what }))

-- ---- it requires a task

pub pushed_requires : {E : Type 0} (held : Option Directory) (told : Directory → Task → List ℕ → List Offered) (b new : Builder) (c : Check) (task : Task)
    (r : Result Turn E) → IfOk r (ChecksSo b c task new) → IfOk r (RequiresSo held told b c task new)
pushed_requires held told b new c task (Err x) checks = tt
pushed_requires held told b new c task (Ok t) checks = λ u done root fs holds plan honest s waiting k needs. checks u done root fs plan s waiting k needs

-- what a record observed has canonical parts
pub called_true : (rec : TaskRecord) (at : ℕ) (dep : Dep) (task : Task) → IsTrueRecord rec → slice_get rec.deps at ≡ Some dep → dep.what ≡ Called task → IsTrueTask task
called_true rec at dep task parts next what =
    subst IsTrueOn what
    (subst IsTrueDep (get_or_from_slice_get rec.deps at dep dep next) (parts.deps at dep (slice_get_within rec.deps at dep next))).0

-- that is of no function
pub lost_requires : {E : Type 0} (held : Option Directory) (told : Directory → Task → List ℕ → List Offered) (b new : Builder) (c : Check) (task : Task)
    (r : Result Turn E) → slice_get b.ledger.tables.names c.no.0 ≡ Some c.rec.task → IfOk r (DiffersSo held told b c new)
    → MayEnter b task Unknown → IsEncodableTask task → ¬ (Contains b.ledger.tables.names task) → IfOk r (RequiresSo held told b c task new)
lost_requires held told b new c task (Err x) named differs may encodable absent = tt
lost_requires held told b new c task (Ok t) named differs may encodable absent = λ u done root fs holds plan honest s waiting k needs.
    let parts : IsTrueTask task = called_true c.rec c.at needs.dep task k.may.parts needs.next needs.what in
    let e = gives_enters u b root fs c named k in
    differs u done root fs holds plan honest s waiting e (record {
      task = c.rec.task;
      named = named;
      due = lost_due u b root fs c task plan k needs may (record { encodable = encodable; name = parts.0; leaves = parts.1; bytes = refl });
    }) (subst (λ (x : Task). AreHonest u x c.rest) (one_some c.rec.task e.task (sym named ∙ e.named)) k.may.rest)

pub full_requires : (held : Option Directory) (told : Directory → Task → List ℕ → List Offered) (b : Builder) (c : Check) (task : Task)
    → 50000 ≤ length b.ledger.tables.names → IsEncodableTask task → ¬ (Contains b.ledger.tables.names task) → RequiresSo held told b c task b Many
full_requires held told b c task full encodable absent = λ u done root fs holds plan honest s waiting k needs.
    let parts : IsTrueTask task = called_true c.rec c.at needs.dep task k.may.parts needs.next needs.what in
    check_full b c task full (record { encodable = encodable; name = parts.0; leaves = parts.1; bytes = refl }) absent u done root fs plan s waiting k needs

-- ---- a place is compared

pub compares : {E : Type 0} (held between : Option Directory) (told : Directory → Task → List ℕ → List Offered) (b mid new : Builder) (c after : Check) (place : Place)
    (r : Result Turn E) → between ≡ held → mid ≡ record b { named = mid.named } → after ≡ record c { required = after.required }
    → Finds held b mid c after place → IfOk r (GoesOnSo between told mid after place new) → IfOk r (ComparesSo held told b c new)
compares held between told b mid new c after place (Err x) steady same one finds goes = tt
compares held between told b mid new c after place (Ok t) steady same one finds goes = λ u done root fs holds plan honest s waiting k.
    goes u done root fs b c (steady ∙ holds) (subst (IsPlanNow u) (sym (ap (λ x. x.plan) same)) plan)
    (subst (λ p. AreOffersHonest u p told) (sym (ap (λ x. x.plan) same)) honest) s.known
    (site_by b mid same u done root (finds.known u.directory holds s.known) s) (waiting_by b mid same u root fs waiting) (checks_by b mid same u root fs c k) one
    (subst (λ h. FindsHere h b mid c after place) (sym steady) finds.here)
