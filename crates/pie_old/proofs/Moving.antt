-- Rows of records, made of the numbers for one after another.
use Rattle.std.proofs.Common.{◌≡◌, ℕ, ◌+◌, ◌<◌, List, [], ◌∷◌, ◌++◌, length, get_or, drop, map, Option, Some}
use Rattle.std.proofs.Common.{refl, sym, ap, subst, ◌∙◌, arith, inl, inr}
use Rattle.std.specs.Prelude.{Vec}
use Rattle.std.proofs.lemmas.Bool.{cases_lt}
use Rattle.std.proofs.lemmas.List.{drop_all, drop_more, length-drop, length-map}
use Rattle.pie_value.specs.declared.task.Task.{Task}
use Rattle.pie_graph.specs.declared.edges.Edges.{Edges}
use Rattle.pie_graph.specs.declared.edges.TaskNo.{TaskNo}
use Rattle.pie_graph.specs.Rows.{Row, row_of}
use Rattle.pie_record.specs.declared.task_record.TaskRecord.{TaskRecord}
use Rattle.pie_store.specs.Canonical.{needs, tasks_in}
use Rattle.pie_store.specs.inner.Ties.{AreNeeds, named_by}
use Rattle.pie_old.specs.inner.Rows.{AreRowsOf, IsRowOf, row_with}
use Rattle.pie_old.proofs.Placing.{head_same, tail_same}
use Rattle.pie_old.proofs.Rowing.{AreRowsTo, rows_first, rows_more, rows_all}

abbrev named : {Z : Type 0} → List Task → Vec TaskNo Z → List (Option Task)
named tasks nos = named_by tasks nos.items

abbrev wanted : TaskRecord → List (Option Task)
wanted r = map Some (needs r)

-- rows of the records before a place, and numbers for those from it on
pub record AreRowsUpTo {Z : Type 0} (rows : List TaskRecord) (rest : List (Vec TaskNo Z)) (made : List Row) (at : ℕ) : Type 0 where
  pub before : AreRowsTo (tasks_in rows) rows made at
  pub left : AreNeeds (tasks_in rows) rest (drop at rows)

pub up_to_first : {Z : Type 0} (rows : List TaskRecord) (each : List (Vec TaskNo Z)) → AreNeeds (tasks_in rows) each rows → AreRowsUpTo rows each [] 0
up_to_first rows each e = record { before = rows_first (tasks_in rows) rows; left = e }

pub up_to_inside : {Z : Type 0} (rows : List TaskRecord) (nos : Vec TaskNo Z) (rest : List (Vec TaskNo Z)) (made : List Row) (at : ℕ)
    → AreRowsUpTo rows (nos ∷ rest) made at → at < length rows
up_to_inside rows nos rest made at of = elim (cases_lt at (length rows)) [
  | inl lt ↦ lt
  | inr ge ↦
      let bad : AreNeeds (tasks_in rows) (nos ∷ rest) [] = subst (AreNeeds (tasks_in rows) (nos ∷ rest)) (drop_all at rows ge) of.left in absurd (cc)
]

pub up_to_more : {Z : Type 0} (rows : List TaskRecord) (nos : Vec TaskNo Z) (rest : List (Vec TaskNo Z)) (old new : List Edges) (edges : Edges) (at : ℕ)
    (r : TaskRecord) → r ≡ get_or rows at r → new ≡ old ++ edges ∷ [] → row_of edges ≡ row_with nos.items r
    → AreRowsUpTo rows (nos ∷ rest) (map row_of old) at → AreRowsUpTo rows rest (map row_of new) (at + 1)
up_to_more rows nos rest old new edges at r e w is of =
    let tasks = tasks_in rows in
    let inside = up_to_inside rows nos rest (map row_of old) at of in
    let split : drop at rows ≡ r ∷ drop (at + 1) rows =
    drop_more rows at r inside ∙ ap (λ (x : TaskRecord). x ∷ drop (at + 1) rows) (sym e) in
    let both : AreNeeds tasks (nos ∷ rest) (r ∷ drop (at + 1) rows) = subst (AreNeeds tasks (nos ∷ rest)) split of.left in
    let here : named tasks nos ≡ wanted r = head_same (named tasks nos) (wanted r) (map (named tasks) rest) (map wanted (drop (at + 1) rows)) both in
    let row : IsRowOf tasks r (row_with nos.items r) = record { needs = here; reads = refl; lists = refl; writes = refl } in
    record {
      before = rows_more tasks rows old new edges at r inside e w (subst (IsRowOf tasks r) (sym is) row) of.before;
      left = tail_same (named tasks nos) (wanted r) (map (named tasks) rest) (map wanted (drop (at + 1) rows)) both;
    }

pub up_to_all : {Z : Type 0} (rows : List TaskRecord) (rest : List (Vec TaskNo Z)) (made : List Row) (at : ℕ) → rest ≡ []
    → AreRowsUpTo rows rest made at → AreRowsOf (tasks_in rows) rows made
up_to_all {Z} rows rest made at none of =
    let left : AreNeeds {Z = Z} (tasks_in rows) [] (drop at rows) =
    subst (λ (vs : List (Vec TaskNo Z)). AreNeeds (tasks_in rows) vs (drop at rows)) none of.left in
    let size : 0 ≡ length (drop at rows) = ap length left ∙ length-map (drop at rows) wanted in
    rows_all (tasks_in rows) rows made at (omega (arith, size, length-drop at rows)) of.before
