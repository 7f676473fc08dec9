-- What the end of a task makes of a ledger.
use Rattle.std.proofs.Common.{◌≡◌, ◌+◌, ◌<◌, List, length, set, Some, None, sym, ap, subst, ◌∙◌, arith}
use Rattle.std.specs.Prelude.{All}
use Rattle.std.proofs.lemmas.Option.{slice_get_within}
use Rattle.pie_record.specs.declared.task_record.TaskRecord.{TaskRecord}
use Rattle.pie_record.specs.declared.dep.Dep.{Dep}
use Rattle.pie_record.specs.Canonical.{IsStorable, IsStorableDep, IsStorableWrite, IsStorableOutcome}
use Rattle.pie_record.specs.inner.Records.{record_of, Puts}
use Rattle.pie_store.specs.Canonical.{needs}
use Rattle.pie_value.specs.Canonical.{IsEncodableTask}
use Rattle.pie_fresh.specs.declared.ledger.Ledger.{Ledger}
use Rattle.pie_running.specs.inner.Noted.{Noted, tasks_on, IsSound}
use Rattle.pie_fresh.specs.inner.Ledgers.{IsLedger, IsPlaced, IsHigh, Rises, Grows}
use Rattle.pie_fresh.proofs.Rising.{ended_grows, ended_high}
use Rattle.pie_fresh.proofs.LedgerLemmas.{ended_ledger}

-- a task of these notes ended, and this is its record
pub record EndsAs (l m : Ledger) (v : Noted) (r : TaskRecord) : Type 0 where
  pub names : m.names ≡ l.names
  pub rows : length m.rows ≡ length l.rows
  pub heights : m.heights.items ≡ set l.heights.items v.number v.height
  pub puts : Puts l.records m.records v.number r
  pub ended : m.ended ≡ l.ended + 1
  pub task : r.task ≡ v.task
  pub deps : r.deps ≡ v.deps
  pub writes : r.writes ≡ v.writes
  pub outcome : IsStorableOutcome r.outcome

ends_storable : (l m : Ledger) (v : Noted) (r : TaskRecord) → EndsAs l m v r → IsSound v → IsStorable r
ends_storable l m v r e s =
    let deps : length r.deps ≡ length v.deps = ap length e.deps in
    let writes : length r.writes ≡ length v.writes = ap length e.writes in
    record {
      task = subst IsEncodableTask (sym e.task) s.task;
      few_deps = omega (arith, deps, s.few);
      deps = subst (All IsStorableDep) (sym e.deps) s.deps;
      few_writes = omega (arith, writes, s.few);
      writes = subst (All IsStorableWrite) (sym e.writes) s.writes;
      outcome = e.outcome;
    }

ends_over : (l m : Ledger) (v : Noted) (r : TaskRecord) → EndsAs l m v r → IsPlaced l v → Rises l (needs r) 0 v.height
ends_over l m v r e p = subst (λ (ds : List Dep). Rises l (tasks_on ds) 0 v.height) (sym e.deps) p.risen

-- notes that are seen as others have what is known of these
pub ends_ledger : (l m : Ledger) (v n : Noted) (r : TaskRecord) → v ≡ n → EndsAs l m v r → IsLedger l → IsPlaced l n → IsSound n
    → record_of l.records n.number ≡ None → IsLedger m
ends_ledger l m v n r same e is placed sound free =
    let p : IsPlaced l v = subst (λ k. IsPlaced l k) (sym same) placed in
    let s : IsSound v = subst (λ k. IsSound k) (sym same) sound in
    ended_ledger l m v.number v.height r is e.names e.rows e.heights e.puts e.ended (ends_storable l m v r e s) p.low
    (subst (λ (k : Noted). record_of l.records k.number ≡ None) (sym same) free) (p.named ∙ ap Some (sym e.task)) (ends_over l m v r e p)

pub ends_grows : (l m : Ledger) (v n : Noted) (r : TaskRecord) → v ≡ n → EndsAs l m v r → record_of l.records n.number ≡ None → Grows l m
ends_grows l m v n r same e free =
    let ended : m.ended ≡ l.ended + 1 = e.ended in
    ended_grows l m v.number v.height r e.names (subst (λ (k : Noted). record_of l.records k.number ≡ None) (sym same) free) e.puts e.heights
    (omega (arith, ended))

pub ends_high : (l m : Ledger) (v n : Noted) (r : TaskRecord) → v ≡ n → EndsAs l m v r → IsLedger l → IsPlaced l n → IsHigh m n.number n.height
ends_high l m v n r same e is placed =
    let p : IsPlaced l v = subst (λ k. IsPlaced l k) (sym same) placed in
    let within : v.number < length l.names = slice_get_within l.names v.number v.task p.named in
    subst (λ (k : Noted). IsHigh m k.number k.height) same
    (ended_high l m v.number v.height r (omega (arith, within, is.heights)) e.puts e.heights)
