-- The task in hand is none of those that have ended or wait, so what is done for it changes nothing of them.
use Rattle.std.proofs.Common.{◌≡◌, ℕ, ◌≤◌, true, List, ◌∷◌, None, Some, length, sym, ap, subst, ◌∙◌, arith, ◌⊎◌, inl, inr}
use Rattle.std.specs.Prelude.{slice_get}
use Rattle.std.proofs.lemmas.Option.{slice_get_within}
use Rattle.pie_value.specs.declared.task.Task.{Task}
use Rattle.pie_value.specs.Canonical.{enc_task}
use Rattle.pie_record.specs.declared.task_record.TaskRecord.{TaskRecord}
use Rattle.pie_record.specs.inner.Records.{record_of as kept_of}
use Rattle.pie_model.specs.Paths.{among}
use Rattle.pie_model.specs.inner.Stack.{Frame as ModelFrame, tasks_of}
use Rattle.pie_model.proofs.Basics.{clash}
use Rattle.pie_core_laws.specs.Update.{Update}
use Rattle.pie_topdown_laws.specs.Checks.{AreUnderWay}
use Rattle.pie_topdown_laws.specs.Running.{IsTop}
use Rattle.pie_topdown.specs.declared.builder.Builder.{Builder}
use Rattle.pie_topdown.specs.inner.Due.{IsDueAt}
use Rattle.pie_topdown.specs.inner.Frames.{IsSite}
use Rattle.pie_topdown.specs.inner.Right.{site_of, build_of, names_of, records_of, AreWritten, IsRightSite, AreWaiting}
use Rattle.pie_core_laws.proofs.Exactly.{same_or_not}
use Rattle.pie_graph.specs.Numbers.{IsMarked}
use Rattle.pie_topdown.proofs.Lasting.{due_lasts, own_lasts}
use Rattle.pie_topdown.proofs.Kept.{no_kept, not_recorded}
use Rattle.pie_topdown.proofs.Touched.{IsSameBut, StaysOf, kept_is, touched_site, touched_waiting}

pub one_some : {A : Type 0} (x y : A) → Some x ≡ Some y → x ≡ y
one_some x y e = cc

pub never : {X : Type 0} (x : X) → None ≡ Some x → ⊥
never x e = cc

module _ (u : Update) (done : List (List ℕ)) (root : List ℕ) (b : Builder) (fs : List ModelFrame) (f : ModelFrame) (k : ℕ) (t : Task)
    (s : IsRightSite u done root b) (top : IsTop (site_of u b) (build_of b) root fs f) (task : f.task ≡ enc_task t)
    (named : slice_get b.ledger.tables.names k ≡ Some t) where
  -- it has no record
  pub own_unkept : kept_of b.ledger.tables.records k ≡ None
  own_unkept =
      no_kept b.ledger.tables.names b.ledger.tables.records k t s.ledger.tasks named
      (not_recorded (records_of b) (names_of b) (enc_task t) (tasks_of fs)
      (subst (λ x. AreUnderWay (records_of b) (names_of b) (x ∷ tasks_of fs)) task top.under_way))

  pub kept_apart : (n : ℕ) (rec : TaskRecord) → kept_of b.ledger.tables.records n ≡ Some rec → n ≡ k → ⊥
  kept_apart n rec kept e = never rec (sym own_unkept ∙ ap (kept_of b.ledger.tables.records) (sym e) ∙ kept)

  -- it is none of those that wait
  pub others_apart : (n : ℕ) (v : Task) → slice_get b.ledger.tables.names n ≡ Some v → among (enc_task v) (tasks_of fs) ≡ true → n ≡ k → ⊥
  others_apart n v at on e =
      let one : v ≡ t = one_some v t (sym at ∙ ap (slice_get b.ledger.tables.names) e ∙ named) in
      clash {A = ⊥} (among f.task (tasks_of fs)) (subst (λ z. among z (tasks_of fs) ≡ true) (ap enc_task one ∙ sym task) on) top.goes.once.0

  -- only of it was something staged, or it was marked
  module _ (c : Builder) (e : IsSameBut b c) (stays : (n : ℕ) → (n ≡ k → ⊥) → StaysOf b c n) (its : IsMarked c.ledger.tables.ran.items k → IsDueAt u b k) where
    own_written : AreWritten u c
    own_written = record {
      there = λ n rec rested kept.
          let was = sym (kept_is b c e n) ∙ kept in
          s.written.there n rec (sym (stays n (kept_apart n rec was)).flag ∙ rested) was;
      fetched = λ n rec path bytes rested kept staged.
          let was = sym (kept_is b c e n) ∙ kept in
          let same = stays n (kept_apart n rec was) in
          s.written.fetched n rec path bytes (sym same.flag ∙ rested) was (sym (same.content path) ∙ staged);
      ran = λ n rec path marked kept.
          let was = sym (kept_is b c e n) ∙ kept in
          let same = stays n (kept_apart n rec was) in
          same.content path ∙ s.written.ran n rec path (sym same.flag ∙ marked) was;
      own = λ n rec rested kept.
          let was = sym (kept_is b c e n) ∙ kept in
          own_lasts b.plan c.plan rec e.plan (s.written.own n rec (sym (stays n (kept_apart n rec was)).flag ∙ rested) was);
      due = λ n marked. due_lasts u b c n (λ v at. subst (λ (ts : List Task). slice_get ts n ≡ Some v) (sym e.names) at) e.plan (due n marked (same_or_not k n));
      beyond = λ n path past.
          let here = subst (λ ts. length ts ≤ n) e.names past in
          (stays n (inside n here)).content path ∙ s.written.beyond n path here;
    }
      where
        due : (n : ℕ) → IsMarked c.ledger.tables.ran.items n → (n ≡ k) ⊎ (n ≡ k → ⊥) → IsDueAt u b n
        due n marked (inl same) = subst (IsDueAt u b) (sym same) (its (subst (IsMarked c.ledger.tables.ran.items) same marked))
        due n marked (inr apart) = s.written.due n (sym (stays n apart).flag ∙ marked)

        inside : (n : ℕ) → length b.ledger.tables.names ≤ n → n ≡ k → ⊥
        inside n past same = let within = slice_get_within b.ledger.tables.names k t named in omega (arith, past, same, within)

    pub own_site : IsRightSite u done root c
    own_site = touched_site b c e u done root own_written s

    pub own_waiting : IsSite b → AreWaiting u b root fs → AreWaiting u c root fs
    own_waiting is waiting = touched_waiting b c e u root fs is (λ n v at on. stays n (others_apart n v at on)) waiting
