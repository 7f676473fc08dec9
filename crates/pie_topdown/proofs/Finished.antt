-- A task that ran is done, in the words of the model.
use Rattle.std.proofs.Common.{◌≡◌, ℕ, true, false, List, None, Some, Result, Ok, Err, refl, sym, ap, subst, ◌∙◌}
use Rattle.std.specs.Prelude.{slice_get, IfOk}
use Rattle.pie_base.specs.declared.fault.FaultKind.TheVariants.{Big}
use Rattle.pie_value.specs.declared.value.Value.{Value}
use Rattle.pie_value.specs.Values.{tree_of}
use Rattle.pie_value.specs.Limits.{is_small}
use Rattle.pie_value.specs.Canonical.{enc_task, IsCanonicalTask, IsEncodable, HasTrueLeaves}
use Rattle.pie_graph.specs.Numbers.{numbers}
use Rattle.pie_record.specs.declared.dep.Dep.{Dep}
use Rattle.pie_record.specs.declared.task_record.Outcome.TheVariants as outcomes
use Rattle.pie_record.specs.declared.task_record.TaskRecord.{TaskRecord}
use Rattle.pie_record.specs.inner.Records.{record_of as kept_of}
use Rattle.pie_old.specs.inner.Rows.{paths_in}
use Rattle.pie_running.specs.declared.page.NoteParts.{NoteParts}
use Rattle.pie_running.specs.inner.Noted.{Noted, noted_in}
use Rattle.pie_model.specs.inner.Steps.{ChangesAt}
use Rattle.pie_model.specs.inner.Stack.{Frame as ModelFrame}
use Rattle.pie_model_pipeline.specs.Rows.{record_of}
use Rattle.pie_builder_laws.specs.Tables.{recorded}
use Rattle.pie_builder_laws.specs.Views.{RowIs}
use Rattle.pie_builder_laws.proofs.Tabled.{record_put}
use Rattle.pie_core_laws.specs.Update.{Update}
use Rattle.pie_task_laws.specs.Coming.{left_as}
use Rattle.pie_topdown_laws.specs.Running.{DoneAbove, EndsAbove}
use Rattle.pie_topdown.specs.declared.builder.Builder.{Builder}
use Rattle.pie_topdown.specs.declared.hand.Hand.TheVariants as hands
use Rattle.pie_topdown.specs.declared.hand.Turn.{Turn}
use Rattle.pie_topdown.specs.declared.hand.Turn.TheVariants.{Goes}
use Rattle.pie_graph.specs.Numbers.{IsMarked}
use Rattle.pie_topdown.specs.inner.Asking.{EndsRightly, EndsSo}
use Rattle.pie_topdown.specs.inner.Effects.{EndsIfNew, HasEnded}
use Rattle.pie_topdown.specs.inner.Frames.{IsNoted}
use Rattle.pie_topdown.specs.inner.Ledgers.{IsLedger, row_with}
use Rattle.pie_topdown.specs.inner.Right.{site_of, build_of, records_of, IsRightSite, AreWaiting, FailsSo, HasKept, IsRight}
use Rattle.pie_topdown.proofs.Entered.{canonical_at}
use Rattle.pie_topdown.proofs.Ended.{WroteRight, ended_site, ended_waiting, ended_hand}
use Rattle.pie_topdown.proofs.Topmost.{own_unkept}

-- with an output past the limits it fails
pub ends_big : {E : Type 0} (b new : Builder) (at : ℕ) (n : Noted) (v : Value) (r : Result Turn E) → at ≡ n.number → IsNoted b.ledger n
    → is_small (tree_of v) ≡ false → IfOk r (FailsSo b at Big new) → IfOk r (EndsSo b n v new)
ends_big b new at n v (Err x) number noted big fails = tt
ends_big b new at n v (Ok turn) number noted big fails = λ u done root fs s waiting h.
    fails u done root fs n.task s waiting (subst (λ k. slice_get b.ledger.tables.names k ≡ Some n.task) (sym number) noted.task)
    (subst (λ z. EndsAbove (site_of u b) (build_of b) root fs n v z) big h.ends) (subst (IsMarked b.ledger.tables.ran.items) (sym number) h.ran) h.busy

-- a task ended with the record of these notes
pub kept_as : (b c : Builder) (at : ℕ) (p : NoteParts) (left : ℕ) (n : Noted) (v : Value) (deps : List Dep) (writes : List (List ℕ × List ℕ)) → n ≡ noted_in p left
    → at ≡ n.number → deps ≡ p.deps.items → writes ≡ p.writes.items
    → EndsIfNew b.ledger at (record { task = p.task; deps = deps; writes = writes; outcome = outcomes.Done v }) (numbers p.needs.items) c.ledger
    → IsLedger c.ledger → c ≡ record b { ledger = c.ledger } → HasKept b n.number (left_as n (outcomes.Done v)) n.needs c
kept_as b c at p left n v deps writes parts number ds ws ends is rest =
    subst (λ (m : Noted). HasKept b m.number (left_as m (outcomes.Done v)) m.needs c) (sym parts) (record {
      ended = subst (λ k. EndsIfNew b.ledger k (left_as (noted_in p left) (outcomes.Done v)) (numbers p.needs.items) c.ledger)
          (number ∙ ap (λ (m : Noted). m.number) parts)
          (subst (λ xs. EndsIfNew b.ledger at (record { task = p.task; deps = xs; writes = p.writes.items; outcome = outcomes.Done v }) (numbers p.needs.items) c.ledger)
          ds
          (subst (λ xs. EndsIfNew b.ledger at (record { task = p.task; deps = deps; writes = xs; outcome = outcomes.Done v }) (numbers p.needs.items) c.ledger) ws
          ends));
      ledger = is;
      rest = rest;
    })

module _ (b c : Builder) (n : Noted) (v : Value) (kept : HasKept b n.number (left_as n (outcomes.Done v)) n.needs c) (noted : IsNoted b.ledger n)
    (encodable : IsEncodable (tree_of v)) (leaves : HasTrueLeaves (tree_of v)) (u : Update) (done : List (List ℕ)) (root : List ℕ) (fs : List ModelFrame)
    (s : IsRightSite u done root b) (waiting : AreWaiting u b root fs) (h : EndsRightly u b root fs n v)
    (D : DoneAbove (site_of u b) (build_of b) n v) where
  abbrev rec : TaskRecord
  rec = left_as n (outcomes.Done v)

  unrecorded : kept_of b.ledger.tables.records n.number ≡ None
  unrecorded = own_unkept u done root b fs h.frame n.number n.task s h.top h.task noted.task

  ended : HasEnded b.ledger n.number rec n.needs c.ledger
  ended = kept.ended unrecorded

  change : ChangesAt (records_of b) (recorded b.ledger.tables.names c.ledger.tables.records) (enc_task n.task) (record_of rec)
  change = record_put b.ledger.tables.names b.ledger.tables.records c.ledger.tables.records n.number n.task rec s.ledger.tasks noted.task ended.puts

  canonical : IsCanonicalTask n.task (enc_task n.task)
  canonical = canonical_at b.ledger.tables.names s.ledger.tasks n.number n.task noted.task

  row : RowIs b.ledger.tables.names (row_with n.needs (paths_in n.writes)) (Some rec)
  row = (h.numbers, refl)

  wrote : WroteRight u b n.number rec
  wrote = record {
    there = λ rested. let no_way : true ≡ false = sym h.ran ∙ rested in absurd (cc);
    fetched = λ path bytes rested staged. let no_way : true ≡ false = sym h.ran ∙ rested in absurd (cc);
    ran = λ path marked. D.right.staged path;
    own = λ rested. let no_way : true ≡ false = sym h.ran ∙ rested in absurd (cc);
  }

  pub done_right : IsRight u done root c hands.Ended
  done_right = record {
    site = ended_site b c n.number rec n.needs ended kept.rest u done root s kept.ledger
        (D.ends (recorded b.ledger.tables.names c.ledger.tables.records) change) D.right.right.met noted.task row wrote leaves;
    fs = fs;
    waiting = ended_waiting b c n.number rec n.needs ended kept.rest u done root s kept.ledger
        (D.ends (recorded b.ledger.tables.names c.ledger.tables.records) change) D.right.right.met noted.task row wrote leaves fs waiting;
    hand = ended_hand b c n.number rec n.needs ended kept.rest u done root s kept.ledger
        (D.ends (recorded b.ledger.tables.names c.ledger.tables.records) change) D.right.right.met noted.task row wrote leaves h.frame fs v h.task canonical h.top
        waiting h.busy refl encodable;
  }

-- with one within the limits it is done
pub ends_small : (b c : Builder) (n : Noted) (v : Value) → HasKept b n.number (left_as n (outcomes.Done v)) n.needs c → IsNoted b.ledger n → IsEncodable (tree_of v)
    → HasTrueLeaves (tree_of v) → is_small (tree_of v) ≡ true → EndsSo b n v c (Goes hands.Ended)
ends_small b c n v kept noted encodable leaves small = λ u done root fs s waiting h.
    done_right b c n v kept noted encodable leaves u done root fs s waiting h
    (subst (λ z. EndsAbove (site_of u b) (build_of b) root fs n v z) small h.ends)
