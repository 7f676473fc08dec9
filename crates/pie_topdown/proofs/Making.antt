-- What a build makes whose roots have outputs.
use Rattle.std.proofs.Common.{◌≡◌, ℕ, List, Some, get_or, sym, subst, ◌∙◌, inl, inr, ◌⊎◌, ◌<◌}
use Rattle.std.specs.Prelude.{slice_get}
use Rattle.std.specs.List.{Contains}
use Rattle.std.proofs.lemmas.Bool.{cases_order}
use Rattle.std.proofs.lemmas.List.Elements.{All-contains, All-weaker, Contains-get_or}
use Rattle.std.proofs.lemmas.Option.{slice_get_within, get_or_from_slice_get}
use Rattle.pie_value.specs.declared.task.Task.{Task}
use Rattle.pie_value.specs.declared.verdict.Verdict.{Verdict}
use Rattle.pie_value.specs.declared.verdict.Verdict.TheVariants.{Accepted, Refused}
use Rattle.pie_digest.specs.Digests.{function_names}
use Rattle.pie_reach.specs.inner.Reaches.{IsAcyclic, Reaches}
use Rattle.pie_reach.specs.inner.Reaches.Leads.{itself, step}
use Rattle.pie_record.specs.declared.task_record.TaskRecord.{TaskRecord}
use Rattle.pie_record.specs.inner.Names.{AreDistinct}
use Rattle.pie_settle_laws.proofs.Ordering.{acyclic}
use Rattle.pie_checks.specs.declared.built.Built.{Built}
use Rattle.pie_results.specs.inner.Stored.{HaveEnded, StoredWhere}
use Rattle.pie_topdown.specs.declared.builder.Builder.{Builder}
use Rattle.pie_topdown.specs.declared.ledger.Ledger.{Ledger}
use Rattle.pie_topdown.specs.inner.Ended.{StoredIf}
use Rattle.pie_topdown.specs.inner.Frames.{IsSite}
use Rattle.pie_topdown.specs.inner.Ledgers.{HasOutput, IsLedger}
use Rattle.pie_topdown.specs.inner.Roots.{AreSettled, IsSettledRoot}

-- no task requires one that requires it, directly or through others
pub ledger_acyclic : (l : Ledger) → IsLedger l → IsAcyclic l.rows
ledger_acyclic l is = acyclic l.rows l.places.items (record { as_many = is.places ∙ sym is.rows; each = is.before })

-- a task has one number
one_number : (names : List Task) → AreDistinct names → (i j : ℕ) (t : Task) → slice_get names i ≡ Some t → slice_get names j ≡ Some t → i ≡ j
one_number names apart i j t e f = by (cases_order i j)
  where
    same : get_or names i t ≡ get_or names j t
    same = get_or_from_slice_get names i t t e ∙ sym (get_or_from_slice_get names j t t f)

    by : (i ≡ j) ⊎ ((i < j) ⊎ (j < i)) → i ≡ j
    by (inl h) = h
    by (inr (inl l)) = absurd (apart i j t l (slice_get_within names j t f) same)
    by (inr (inr l)) = absurd (apart j i t l (slice_get_within names i t e) (sym same))

module _ (l : Ledger) (is : IsLedger l) (roots : List Task) (settled : AreSettled l roots) (distinct : AreDistinct l.tables.names) where
  reached : (n k : ℕ) → Reaches l.rows n k → HasOutput l.tables.records n → HasOutput l.tables.records k
  reached n k itself o = o
  reached n k (step {b = m} calls on) o = reached m k on (is.calls n m calls)

  root_output : (t : Task) (n : ℕ) → Contains roots t → slice_get l.tables.names n ≡ Some t → HasOutput l.tables.records n
  root_output t n h named =
      let root = All-contains (IsSettledRoot l) roots t settled h in
      subst (HasOutput l.tables.records) (one_number l.tables.names distinct root.number n t root.named named) root.output

  pub have_ended : HaveEnded l.tables.names l.tables.records l.rows roots
  have_ended = record {
    named = λ k d inside.
        let t = get_or roots k d in
        let root = All-contains (IsSettledRoot l) roots t settled (Contains-get_or roots k d inside) in
        (root.number, slice_get_within l.tables.names root.number t root.named, get_or_from_slice_get l.tables.names root.number t t root.named);
    ended = λ live are n h.
        let from = are.exactly.only n h in
        let root = are.are.only from.0 from.1 in
        let o = reached from.0 n from.2 (root_output root.0 from.0 root.1 root.2) in
        record { rec = o.rec; kept = o.kept; done = o.done; needs = is.ended n o.rec o.kept o.done };
  }

pub made_stored : (b : Builder) (roots : List Task) (made : Built) → IsSite b → AreSettled b.ledger roots → AreDistinct b.ledger.tables.names
    → (HaveEnded b.ledger.tables.names b.ledger.tables.records b.ledger.rows roots → StoredWhere made.verdict b.ledger.tables.names roots made)
    → StoredIf made.verdict b.plan.typed.now roots made
made_stored b roots made site settled distinct stored =
    by made.verdict (stored (have_ended b.ledger site.ledger roots settled distinct))
  where
    by : (v : Verdict) → StoredWhere v b.ledger.tables.names roots made → StoredIf v b.plan.typed.now roots made
    by Accepted can = record {
      order = can.order;
      few = can.few;
      known = All-weaker (λ (r : TaskRecord). Contains b.ledger.tables.names r.task)
          (λ (r : TaskRecord). Contains (function_names b.plan.typed.now) r.task.func)
          (λ r h. All-contains (λ (t : Task). Contains (function_names b.plan.typed.now) t.func) b.ledger.tables.names r.task site.known h)
          made.rows.items can.named;
      closed = can.closed;
    }
    by (Refused r) x = tt
