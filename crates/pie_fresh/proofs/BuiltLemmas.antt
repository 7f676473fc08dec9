-- What is collected where all roots are done.
use Rattle.std.proofs.Common.{◌≡◌, ℕ, ◌<◌, List, [], ◌∷◌, ◌++◌, length, get_or, ◌+◌, sym, subst, ap, refl, ◌∙◌, arith, inl, inr}
use Rattle.std.specs.Prelude.{All, Contains, IsTrue, IfSome, Option, None, Some}
use Rattle.std.proofs.lemmas.Option.{get_or_from_slice_get}
use Rattle.pie_value.specs.declared.task.Task.{Task}
use Rattle.pie_value.specs.declared.verdict.Verdict.TheVariants.{Accepted}
use Rattle.pie_parser.specs.FunctionTrees.{FunctionTree}
use Rattle.pie_store.specs.Canonical.{AreInOrder, tasks_in}
use Rattle.pie_digest.specs.Digests.{function_names}
use Rattle.pie_record.specs.declared.task_record.TaskRecord.{TaskRecord}
use Rattle.pie_record.specs.inner.Records.{record_of}
use Rattle.pie_fresh.specs.declared.ledger.Ledger.{Ledger}
use Rattle.pie_fresh.specs.inner.Ledgers.{IsLedger, IsRecorded, AreOpen}
use Rattle.pie_fresh.specs.inner.Ordered.{AreOrdered}
use Rattle.pie_fresh.specs.inner.Frames.{AreEntered}
use Rattle.pie_fresh.proofs.Ordering.{recorded_at}
use Rattle.std.proofs.Common.{Vec, Global}
use Rattle.pie_base.specs.Path.{is_out}
use Rattle.std.specs.List.Sorted.{IsStrictlySortedBy}
use Rattle.std.specs.Ordering.{nat_cmp}
use Rattle.std.specs.Cmp.Lexicographic.{slice_cmp}
use Rattle.std.proofs.lemmas.Bool.{cases_lt}
use Rattle.std.proofs.lemmas.List.Elements.{All-nil, All-push, All-contains, Contains-append_left, Contains-push}
use Rattle.pie_graph.specs.declared.edges.TaskNo.{TaskNo}
use Rattle.pie_graph.specs.Numbers.{numbers, AllBelow}
use Rattle.pie_record.specs.Canonical.{IsStorable}
use Rattle.pie_checks.specs.declared.built.Built.{Built}
use Rattle.pie_fresh.specs.inner.Builds.{IsKept, IsStored, IsStoredOf, StoredWhere, InPathOrder}

sorted_nil : IsStrictlySortedBy (slice_cmp nat_cmp) []
unfolding IsStrictlySortedBy
sorted_nil = tt

pub empty_kept : (b : Built) → b.rows.items ≡ [] → b.files.items ≡ [] → IsKept b
empty_kept b rows files = record {
  rows = subst (All IsStorable) (sym rows) (All-nil IsStorable);
  files = subst (λ fs. InPathOrder fs) (sym files) (record { ascending = sorted_nil; out = All-nil (λ (f : List ℕ × Vec ℕ Global). IsTrue (is_out f.0)) });
}

numbers_more : (nos : List TaskNo) (t : TaskNo) → numbers (nos ++ t ∷ []) ≡ numbers nos ++ t.0 ∷ []
numbers_more [] t = refl
numbers_more (u ∷ nos) t = ap (λ ns. u.0 ∷ ns) (numbers_more nos t)

pub pushed_below : (m : ℕ) (nos : List TaskNo) (t : TaskNo) → t.0 < m → AllBelow m (numbers nos) → AllBelow m (numbers (nos ++ t ∷ []))
pushed_below m nos t below all = subst (AllBelow m) (sym (numbers_more nos t)) (All-push (λ n. n < m) (numbers nos) t.0 all below)

-- one number more: each one so far is among them
pub pushed_live : (n : ℕ) (nos : List TaskNo) (t : TaskNo) → t.0 ≡ n → ((k : ℕ) → k < n → Contains (numbers nos) k) → (k : ℕ) → k < n + 1
    → Contains (numbers (nos ++ t ∷ [])) k
pushed_live n nos t is before k lt = subst (λ ns. Contains ns k) (sym (numbers_more nos t)) (elim (cases_lt k n) [
  | inl below ↦ Contains-append_left (numbers nos) (t.0 ∷ []) k (before k below)
  | inr at ↦ let same : t.0 ≡ k = omega (arith, lt, at, is) in subst (Contains (numbers nos ++ t.0 ∷ [])) same (Contains-push (numbers nos) t.0)
])

-- one record more, which a ledger keeps
pub storable_more : (l : Ledger) (n : ℕ) (r : TaskRecord) (rows : List TaskRecord) → IsLedger l → Some r ≡ record_of l.records n → All IsStorable rows
    → All IsStorable (rows ++ r ∷ [])
storable_more l n r rows is found all = All-push IsStorable rows r all (subst (λ o. IfSome o IsStorable) (sym found) (is.storable n))

-- ---- what can stand in a store

-- each task has a record
finished_at : (l : Ledger) (n : ℕ) → AreOpen l [] → n < length l.names → (r : TaskRecord) × (record_of l.records n ≡ Some r)
finished_at l n finished inside = by (record_of l.records n) refl
  where
    by : (o : Option TaskRecord) → record_of l.records n ≡ o → (r : TaskRecord) × (record_of l.records n ≡ Some r)
    by None e = let c = finished.others n inside e in absurd (omega (arith, c.1))
    by (Some r) e = (r, e)

root_row : (l : Ledger) (rows : List TaskRecord) (t : Task) → IsLedger l → AreOpen l [] → AreOrdered l rows → Contains l.names t → Contains (tasks_in rows) t
root_row l rows t is finished o c =
    let rec = finished_at l c.0 finished c.1 in
    let known : IsRecorded l c.0 rec.0 = recorded_at l c.0 rec.0 is rec.1 in
    let same : rec.0.task ≡ t = sym (get_or_from_slice_get l.names c.0 rec.0.task t known.named) ∙ c.2 in
    subst (λ (u : Task). Contains (tasks_in rows) u) same
    (subst (λ (p : Option TaskRecord). IfSome p (λ r. Contains (tasks_in rows) r.task)) rec.1 (o.each c.0))

pub stored_of : (l : Ledger) (rows : List TaskRecord) (roots : List Task) (b : Built) → b.verdict ≡ Accepted → b.rows.items ≡ rows → IsLedger l → AreOpen l []
    → AreOrdered l rows → AreEntered l.names roots → IsStoredOf l.names roots b
stored_of l rows roots b verdict same is finished o entered fs known =
    subst (λ v. StoredWhere v fs roots b) (sym verdict) (stored fs known)
  where
    stored : (fs : List FunctionTree) → All (λ (t : Task). Contains (function_names fs) t.func) l.names → IsStored fs roots b
    stored fs known = record {
      order = subst AreInOrder (sym same) o.order;
      few = let size : length b.rows.items ≡ length rows = ap length same in omega (arith, size, o.few, is.few);
      known = subst (All (λ (r : TaskRecord). Contains (function_names fs) r.task.func)) (sym same)
          (λ k d lt. All-contains (λ (t : Task). Contains (function_names fs) t.func) l.names (get_or rows k d).task known (o.named k d lt));
      roots = entered.small;
      closed = subst (λ (rs : List TaskRecord). All (λ (t : Task). Contains (tasks_in rs) t) roots) (sym same)
          (λ k d lt. root_row l rows (get_or roots k d) is finished o (entered.named k d lt));
    }
