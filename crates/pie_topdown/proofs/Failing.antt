-- A task fails by itself: why the clean build is refused.
use Rattle.std.proofs.Common.{◌≡◌, ◌⊎◌, ℕ, true, false, List, ◌∷◌, None, Some, refl, sym, ap, subst, ◌∙◌, inl, inr}
use Rattle.std.specs.Prelude.{slice_get, option_map}
use Rattle.pie_base.specs.declared.fault.FaultKind.{FaultKind}
use Rattle.pie_value.specs.declared.task.Task.{Task}
use Rattle.pie_value.specs.declared.verdict.Refusal.{Refusal}
use Rattle.pie_value.specs.declared.verdict.Refusal.TheVariants.{Fault}
use Rattle.pie_value.specs.Canonical.{enc_task}
use Rattle.pie_graph.specs.Numbers.{IsMarked}
use Rattle.pie_record.specs.inner.Records.{record_of as kept_of}
use Rattle.pie_model.specs.Paths.{among}
use Rattle.pie_model.specs.Trees.{is_done, outcome_of}
use Rattle.pie_model.specs.Evaluation.{evaluation}
use Rattle.pie_model.specs.Records.{Record}
use Rattle.pie_model.specs.declared.words.Outcome.TheVariants.{Failed}
use Rattle.pie_model.specs.inner.RecordLaws.{Passes}
use Rattle.pie_model.specs.inner.Stack.{Frame as ModelFrame, tasks_of}
use Rattle.pie_model.proofs.Basics.{among_split}
use Rattle.pie_settle_laws.proofs.Leaving.{going_ends}
use Rattle.pie_model_pipeline.specs.Rows.{record_of}
use Rattle.pie_model_pipeline.specs.Words.{fault_of}
use Rattle.pie_model_pipeline.specs.World.{world}
use Rattle.pie_model_pipeline.proofs.Joining.{tasks_told}
use Rattle.pie_builder_laws.proofs.Naming.{among_at, canonical_at, one_place}
use Rattle.pie_builder_laws.proofs.Tabled.{record_by_number}
use Rattle.pie_core_laws.specs.Update.{Update, present}
use Rattle.pie_topdown_laws.specs.Ledgers.{setting}
use Rattle.pie_topdown_laws.specs.Running.{IsTop, FailsAbove}
use Rattle.pie_topdown_laws.specs.Tables.{unrecorded}
use Rattle.pie_topdown_laws.proofs.Deciding.{failed_decides}
use Rattle.pie_topdown_laws.proofs.Sinking.{failure_sinks, failed_root}
use Rattle.pie_topdown.specs.declared.builder.Builder.{Builder}
use Rattle.pie_topdown.specs.declared.hand.Turn.{Turn}
use Rattle.pie_topdown.specs.inner.Turns.{FailsBy}
use Rattle.pie_topdown.specs.inner.Right.{site_of, build_of, names_of, records_of, AreTheBusy, AreWaiting, HasEnteredAll, IsFalling, IsRightSite, IsRefused, FailsRight, FailsSo, TurnIsRight}

refused_so : (u : Update) (done : List (List ℕ)) (root : List ℕ) (b : Builder) (fs : List ModelFrame) (t : Task) (k : FaultKind) → IsRightSite u done root b
    → FailsAbove (site_of u b) (build_of b) root fs t k → IsRefused u done root (Fault (record { task = t; kind = k }))
refused_so u done root b fs t k s F = λ rest.
    failed_decides (setting u) (records_of b) (names_of b) s.ledger.table (names_of b) done rest root s.recorded (enc_task t) (fault_of k)
    (failed_root (setting u) (records_of b) (names_of b) s.ledger.table done s.recorded root fs F.frame F.top F.last (Failed F.frame.task (fault_of k)) F.ends
    refl)
    s.ledger.table.few
    (failure_sinks (setting u) (records_of b) root fs F.frame F.top.goes F.last (Failed F.frame.task (fault_of k)) F.ends refl
    ∙ ap (λ z. Failed z (fault_of k)) F.task)

-- a build that fails is, but for that, as it was
calmed_is : (b c : Builder) (why : Refusal) → c ≡ record b { failure = Some why } → b.failure ≡ None → record c { failure = None } ≡ b
calmed_is b c why is calm = ap (λ (x : Builder). record x { failure = None }) is ∙ (λ i. record b { failure = sym calm i })

-- the task on top doesn't end with a value: so the root fails, where that is why the clean build is refused
module _ (u : Update) (done : List (List ℕ)) (root : List ℕ) (b c : Builder) (why : Refusal) (fs : List ModelFrame) (top : ModelFrame) (n : ℕ) (task : Task)
    (s : IsRightSite u done root b) (waiting : AreWaiting u b root fs) (goes : IsTop (site_of u b) (build_of b) root fs top)
    (undone : is_done (outcome_of (evaluation world (present u) top.task)) ≡ false) (named : slice_get b.ledger.tables.names n ≡ Some task)
    (ran : IsMarked b.ledger.tables.ran.items n) (busy : AreTheBusy b (enc_task task ∷ tasks_of fs)) where
  its_number : (k : ℕ) (t : Task) → slice_get b.ledger.tables.names k ≡ Some t → enc_task t ≡ enc_task task → IsMarked b.ledger.tables.ran.items k
  its_number k t at e =
      let one : t ≡ task =
      tasks_told t task (canonical_at b.ledger.tables.names s.ledger.tasks k t at) (canonical_at b.ledger.tables.names s.ledger.tasks n task named) e in
      subst (IsMarked b.ledger.tables.ran.items) (sym (one_place b.ledger.tables.names s.ledger.tasks k n task (at ∙ ap Some one) named)) ran

  marked : (k : ℕ) (t : Task) → slice_get b.ledger.tables.names k ≡ Some t → kept_of b.ledger.tables.records k ≡ None
      → (among (enc_task t) (tasks_of fs) ≡ true) ⊎ IsMarked b.ledger.tables.ran.items k
  marked k t at none =
      by (among_split (enc_task t) (enc_task task) (tasks_of fs)
      (busy (enc_task t) (among_at b.ledger.tables.names k t at)
      (record_by_number b.ledger.tables.names b.ledger.tables.records k t s.ledger.tasks at ∙ ap (option_map record_of) none)))
    where
      by : (enc_task t ≡ enc_task task) ⊎ (among (enc_task t) (tasks_of fs) ≡ true)
          → (among (enc_task t) (tasks_of fs) ≡ true) ⊎ IsMarked b.ledger.tables.ran.items k
      by (inl e) = inr (its_number k t at e)
      by (inr i) = inl i

  falling : IsFalling u done root b
  falling = record { site = s; fs = fs; waiting = waiting; top = top; goes = goes; undone = undone; marked = marked }

  pub falls_right : c ≡ record b { failure = Some why } → IsRefused u done root why → is_done (outcome_of (evaluation world (present u) root)) ≡ false
      → HasEnteredAll u done root b why → FailsRight u done root c
  falls_right is refused ends all = record {
    why = why;
    kept = ap (λ x. x.failure) is;
    refused = refused;
    ends = ends;
    falls = subst (IsFalling u done root) (sym (calmed_is b c why is s.calm)) falling;
    all = subst (λ x. HasEnteredAll u done root x why) (sym is) all;
  }

-- a task fails by itself
fails_so : (u : Update) (done : List (List ℕ)) (root : List ℕ) (b c : Builder) (n : ℕ) (fs : List ModelFrame) (t : Task) (k : FaultKind) → IsRightSite u done root b
    → AreWaiting u b root fs → slice_get b.ledger.tables.names n ≡ Some t → FailsAbove (site_of u b) (build_of b) root fs t k
    → IsMarked b.ledger.tables.ran.items n → AreTheBusy b (enc_task t ∷ tasks_of fs)
    → c ≡ record b { failure = Some (Fault (record { task = t; kind = k })) } → FailsRight u done root c
fails_so u done root b c n fs t k s waiting named F ran busy is =
    falls_right u done root b c (Fault (record { task = t; kind = k })) fs F.frame n t s waiting F.top
    (ap (λ (r : Record). is_done r.outcome)
    (going_ends world (present u) (records_of b) (Passes (unrecorded (records_of b))) root fs F.frame F.top.goes F.last (Failed F.frame.task (fault_of k)) F.ends).is)
    named ran busy is (refused_so u done root b fs t k s F)
    (ap is_done (failure_sinks (setting u) (records_of b) root fs F.frame F.top.goes F.last (Failed F.frame.task (fault_of k)) F.ends refl))
    (λ x i.
    inl (failed_root (setting u) (records_of b) (names_of b) s.ledger.table done s.recorded root fs F.frame F.top F.last (Failed F.frame.task (fault_of k)) F.ends
    refl x i))

pub fails_if : (b c : Builder) (n : ℕ) (t : Task) (k : FaultKind) (turn : Turn) → slice_get b.ledger.tables.names n ≡ Some t
    → FailsBy b (Fault (record { task = t; kind = k })) c turn → FailsSo b n k c turn
fails_if b c n t k turn at fails = λ u done root fs task s waiting named F ran busy.
    subst (TurnIsRight u done root c) (sym fails.turn)
    (fails_so u done root b c n fs task k s waiting named F ran busy
    (subst (λ (x : Task). c ≡ record b { failure = Some (Fault (record { task = x; kind = k })) }) (same task (sym at ∙ named)) fails.is))
  where
    same : (task : Task) → Some t ≡ Some task → t ≡ task
    same task e = cc
