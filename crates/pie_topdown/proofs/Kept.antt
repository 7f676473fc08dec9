-- A record of the store stands: its task ends with it, in the words of the model.
use Rattle.std.proofs.Common.{◌≡◌, ℕ, ◌≤◌, true, false, List, ◌∷◌, Option, None, Some, Result, Ok, Err, length, refl, sym, subst, ◌∙◌}
use Rattle.std.specs.Prelude.{slice_get, IfOk}
use Rattle.std.specs.Option.{option_map}
use Rattle.std.proofs.lemmas.List.{take_all}
use Rattle.pie_value.specs.declared.task.Task.{Task}
use Rattle.pie_value.specs.declared.value.Value.{Value}
use Rattle.pie_value.specs.Values.{tree_of}
use Rattle.pie_value.specs.Canonical.{enc_task, IsCanonicalTask, IsEncodable}
use Rattle.pie_graph.specs.Numbers.{numbers}
use Rattle.pie_record.specs.Canonical.{IsStorable, IsStorableOutcome}
use Rattle.pie_record.specs.declared.records.Records.{Records}
use Rattle.pie_record.specs.declared.task_record.Outcome.{Outcome}
use Rattle.pie_record.specs.declared.task_record.Outcome.TheVariants.{Done, Failed, Cycled}
use Rattle.pie_record.specs.declared.task_record.TaskRecord.{TaskRecord}
use Rattle.pie_record.specs.inner.Records.{record_of as kept_of}
use Rattle.pie_old.specs.inner.Rows.{paths_in}
use Rattle.pie_model.specs.Records.{Record}
use Rattle.pie_model.specs.Trees.{is_done}
use Rattle.pie_model.proofs.Basics.{among_here}
use Rattle.pie_model.specs.inner.Stack.{Frame as ModelFrame, tasks_of}
use Rattle.pie_model.specs.inner.Steps.{ChangesAt}
use Rattle.pie_model_pipeline.specs.Rows.{record_of, outcome_of}
use Rattle.pie_builder_laws.specs.Names.{AreTasks, called_in}
use Rattle.pie_builder_laws.specs.Tables.{recorded}
use Rattle.pie_builder_laws.specs.Views.{AreNumbersOf, RowIs}
use Rattle.pie_builder_laws.proofs.Tabled.{record_put, record_by_number}
use Rattle.pie_core_laws.specs.Update.{Update}
use Rattle.pie_topdown_laws.specs.Checks.{AreUnderWay}
use Rattle.pie_topdown_laws.specs.Places.{StandsAbove, StandsWhole}
use Rattle.pie_topdown_laws.proofs.Comparing.{ends_at}
use Rattle.pie_topdown_laws.proofs.Tabling.{no_record}
use Rattle.pie_topdown.specs.declared.builder.Builder.{Builder}
use Rattle.pie_topdown.specs.declared.hand.Check.{Check}
use Rattle.pie_topdown.specs.declared.hand.Hand.TheVariants as hands
use Rattle.pie_topdown.specs.declared.hand.Turn.{Turn}
use Rattle.pie_topdown.specs.inner.Due.{IsDueBy}
use Rattle.pie_topdown.specs.inner.Frames.{IsCheck}
use Rattle.pie_topdown.specs.inner.Effects.{HasEnded}
use Rattle.pie_topdown.specs.inner.Ledgers.{row_with}
use Rattle.pie_topdown.specs.inner.Right.{names_of, records_of, IsRightSite, AreWaiting, ChecksRight, IsSourced, HasKept, EndsKept, KeepsRight, IsRight, TurnIsRight}
use Rattle.pie_topdown.proofs.Entered.{canonical_at}
use Rattle.pie_topdown.proofs.Ended.{WroteRight, ended_site, ended_waiting, ended_hand}

-- an outcome that is done in the model gave a value
pub record Gave (o : Outcome) : Type 0 where
  pub value : Value
  pub is : o ≡ Done value

pub gave : (o : Outcome) → is_done (outcome_of o) ≡ true → Gave o
gave (Done v) h = record { value = v; is = refl }
gave (Failed f) h = absurd (cc)
gave (Cycled ts) h = absurd (cc)

-- a task under way has no record
pub not_recorded : (R : List ℕ → Option Record) (names : List (List ℕ)) (t : List ℕ) (ts : List (List ℕ)) → AreUnderWay R names (t ∷ ts) → R t ≡ None
not_recorded R names t ts busy = no_record R t (busy.each t (among_here t ts))

pub no_kept : (names : List Task) (records : Records) (n : ℕ) (t : Task) → AreTasks names → slice_get names n ≡ Some t → recorded names records (enc_task t) ≡ None
    → kept_of records n ≡ None
no_kept names records n t are at none = by (kept_of records n) (sym (record_by_number names records n t are at) ∙ none)
  where
    by : (o : Option TaskRecord) → option_map record_of o ≡ None → o ≡ None
    by None h = refl
    by (Some rec) h = absurd (cc)

module _ (b c : Builder) (check : Check) (kept : HasKept b check.no.0 check.rec (numbers check.required.items) c) (u : Update) (done : List (List ℕ)) (root : List ℕ)
    (fs : List ModelFrame) (s : IsRightSite u done root b) (waiting : AreWaiting u b root fs) (k : ChecksRight u b root fs check)
    (own : check.contents ≡ None) (named : slice_get b.ledger.tables.names check.no.0 ≡ Some check.rec.task) (storable : IsStorable check.rec)
    (over : length check.rec.deps ≤ check.at) where
  rec : TaskRecord
  rec = check.rec

  canonical : IsCanonicalTask check.rec.task (enc_task check.rec.task)
  canonical = canonical_at b.ledger.tables.names s.ledger.tasks check.no.0 check.rec.task named

  above : StandsAbove b.ledger.tables.names b.ledger.tables.records fs check.rec
  above = subst (λ x. AreUnderWay (records_of b) (names_of b) (x ∷ tasks_of fs)) k.check.check.checked.task k.top.under_way

  -- it has no record yet
  unrecorded : kept_of b.ledger.tables.records check.no.0 ≡ None
  unrecorded = no_kept b.ledger.tables.names b.ledger.tables.records check.no.0 check.rec.task s.ledger.tasks named
      (not_recorded (records_of b) (names_of b) (enc_task check.rec.task) (tasks_of fs) above)

  ended : HasEnded b.ledger check.no.0 check.rec (numbers check.required.items) c.ledger
  ended = kept.ended unrecorded

  change : ChangesAt (records_of b) (recorded b.ledger.tables.names c.ledger.tables.records) (enc_task check.rec.task) (record_of check.rec)
  change = record_put b.ledger.tables.names b.ledger.tables.records c.ledger.tables.records check.no.0 check.rec.task check.rec s.ledger.tasks named ended.puts

  whole : StandsWhole u b.ledger.tables.names b.ledger.tables.records c.ledger.tables.records check.rec
  whole = ends_at u k.check.before b.ledger.tables.names b.ledger.tables.records root fs check.rec check.at (numbers check.required.items) k.check.check
      c.ledger.tables.records s.listed above over change

  row : RowIs b.ledger.tables.names (row_with (numbers check.required.items) (paths_in check.rec.writes)) (Some check.rec)
  row = (
    subst (λ ds. AreNumbersOf b.ledger.tables.names (numbers check.required.items) (called_in ds)) (take_all check.at check.rec.deps over) k.check.check.numbers,
    refl,
  )

  wrote : WroteRight u b check.no.0 check.rec
  wrote = record {
    there = λ rested. subst (IsSourced u check.rec) own k.may.source;
    fetched = λ path bytes rested staged.
        let none : Some bytes ≡ None = sym staged ∙ k.may.untouched.unstaged path in absurd (cc);
    ran = λ path marked.
        let no : true ≡ false = sym marked ∙ k.may.untouched.rested in absurd (cc);
    own = λ rested. subst (IsDueBy u b.plan check.rec) own k.may.due;
  }

  output : Gave check.rec.outcome
  output = gave check.rec.outcome k.check.check.old.done

  small : IsEncodable (tree_of output.value)
  small = subst IsStorableOutcome output.is storable.outcome

  pub keeps_check : IsRight u done root c hands.Ended
  keeps_check = record {
    site = ended_site b c check.no.0 check.rec (numbers check.required.items) ended kept.rest u done root s kept.ledger whole.ends whole.right.met named row wrote
        k.may.parts.outcome;
    fs = fs;
    waiting = ended_waiting b c check.no.0 check.rec (numbers check.required.items) ended kept.rest u done root s kept.ledger whole.ends whole.right.met named row
        wrote k.may.parts.outcome fs waiting;
    hand = ended_hand b c check.no.0 check.rec (numbers check.required.items) ended kept.rest u done root s kept.ledger whole.ends whole.right.met named row
        wrote k.may.parts.outcome k.check.check.checked.frame fs output.value k.check.check.checked.task canonical k.top waiting k.busy output.is small;
  }

-- so it does where it is its own record
pub keeps_if : {E : Type 0} (b c : Builder) (check : Check) (r : Result Turn E) → IsCheck b.ledger check → length check.rec.deps ≤ check.at
    → check.contents ≡ None → IfOk r (EndsKept b check.no.0 check.rec (numbers check.required.items) c) → IfOk r (KeepsRight b check c)
keeps_if b c check (Ok t) is over own h = λ u done root fs s waiting k.
    subst (TurnIsRight u done root c) (sym h.1) (keeps_check b c check h.0 u done root fs s waiting k own is.named is.storable over)
keeps_if b c check (Err e) is over own h = tt
