-- The writes of a record, one after another, and all of a record.
use Rattle.std.proofs.Common.{◌≡◌, ℕ, ◌+◌, ◌<◌, ◌≤◌, Bool, true, false, List, [], ◌∷◌, ◌++◌, length, take, get_or, refl, sym, ap, subst, ◌∙◌}
use Rattle.std.specs.Prelude.{IsTrue, ◌↔◌, All, is_some}
use Rattle.std.proofs.lemmas.List.{take_all, take_more}
use Rattle.std.proofs.lemmas.List.Elements.{All-push}
use Rattle.pie_graph.specs.Rows.{Row}
use Rattle.pie_record.specs.declared.dep.Dep.{Dep}
use Rattle.pie_record.specs.declared.task_record.TaskRecord.{TaskRecord}
use Rattle.pie_tables.specs.declared.tables.Tables.{Tables}
use Rattle.pie_named.specs.declared.named.Named.{Named}
use Rattle.pie_compare.specs.inner.Standing.{output_of, DepsStand, WriteStands, Stands}

pub writes_stand : (n : Named) (writes : List (List ℕ × List ℕ)) (i : ℕ) → length writes ≤ i → All (WriteStands n) (take i writes)
    → IsTrue true ↔ All (WriteStands n) writes
writes_stand n writes i past before = (λ yes. subst (All (WriteStands n)) (take_all i writes past) before, λ all. refl)

pub writes_more : (n : Named) (writes : List (List ℕ × List ℕ)) (i : ℕ) (w : List ℕ × List ℕ) → i < length writes → w ≡ get_or writes i w
    → All (WriteStands n) (take i writes) → WriteStands n w → All (WriteStands n) (take (i + 1) writes)
writes_more n writes i w inside is before stands =
    subst (All (WriteStands n)) (sym (take_more writes i w inside ∙ ap (λ (v : List ℕ × List ℕ). take i writes ++ v ∷ []) (sym is)))
    (All-push (WriteStands n) (take i writes) w before stands)

pub writes_fall : (n : Named) (writes : List (List ℕ × List ℕ)) (i : ℕ) (w : List ℕ × List ℕ) → i < length writes → w ≡ get_or writes i w
    → (IsTrue false ↔ WriteStands n w) → IsTrue false ↔ All (WriteStands n) writes
writes_fall n writes i w inside is other = (λ yes. absurd (cc), λ all. other.1 (subst (WriteStands n) (sym is) (all i w inside)))

pub record_is : (t : Tables) (rows : List Row) (n : Named) (rec : TaskRecord) (own writes : List (List ℕ × List ℕ)) (deps : List Dep) (seen stands : Bool)
    → is_some (output_of rec.outcome) ≡ true → own ≡ rec.writes → deps ≡ rec.deps → writes ≡ rec.writes → seen ≡ true
    → IsTrue seen ↔ DepsStand (record { tables = t; rows = rows; known = n; own = own }) [] deps → IsTrue stands ↔ All (WriteStands n) writes → IsTrue stands ↔ Stands t rows n rec
record_is t rows n rec own writes deps seen stands gave is_own is_deps is_writes sees observed written = (
  λ yes. record {
    output = gave;
    deps = subst (λ (ws : List (List ℕ × List ℕ)). DepsStand (record { tables = t; rows = rows; known = n; own = ws }) [] rec.deps) is_own
        (subst (DepsStand (record { tables = t; rows = rows; known = n; own = own }) []) is_deps (observed.0 sees));
    writes = subst (All (WriteStands n)) is_writes (written.0 yes);
  },
  λ all. written.1 (subst (All (WriteStands n)) (sym is_writes) all.writes),
)
