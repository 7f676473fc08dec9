-- A row for each record, one after another.
use Rattle.std.proofs.Common.{◌≡◌, ℕ, ◌+◌, ◌<◌, ◌≤◌, List, [], ◌∷◌, ◌++◌, length, get_or, map, Some, sym, ap, subst, ◌∙◌, arith, inl, inr}
use Rattle.std.specs.Prelude.{slice_get}
use Rattle.std.proofs.lemmas.Bool.{cases_lt}
use Rattle.std.proofs.lemmas.List.{get_or_append_left, get_or_push, length_push, map-append}
use Rattle.std.proofs.lemmas.Option.{get_or_from_slice_get, slice_get_within}
use Rattle.pie_value.specs.declared.task.Task.{Task}
use Rattle.pie_graph.specs.declared.edges.Edges.{Edges}
use Rattle.pie_graph.specs.Rows.{Row, no_edges, row_at, row_of}
use Rattle.pie_record.specs.declared.task_record.TaskRecord.{TaskRecord}
use Rattle.pie_old.specs.inner.Rows.{AreRowsOf, IsRowOf}

-- rows of the records before a place
pub record AreRowsTo (tasks : List Task) (records : List TaskRecord) (rows : List Row) (count : ℕ) : Type 0 where
  pub as_many : length rows ≡ count
  pub within : count ≤ length records
  pub each : (n : ℕ) (r : TaskRecord) → n < count → slice_get records n ≡ Some r → IsRowOf tasks r (row_at rows n)

pub rows_first : (tasks : List Task) (records : List TaskRecord) → AreRowsTo tasks records [] 0
rows_first tasks records = record { as_many = omega arith; within = omega arith; each = λ n r l e. absurd (omega (arith, l)) }

pub rows_more : (tasks : List Task) (records : List TaskRecord) (old new : List Edges) (edges : Edges) (count : ℕ) (r : TaskRecord)
    → count < length records → r ≡ get_or records count r → new ≡ old ++ edges ∷ [] → IsRowOf tasks r (row_of edges)
    → AreRowsTo tasks records (map row_of old) count → AreRowsTo tasks records (map row_of new) (count + 1)
rows_more tasks records old new edges count r l e w is of =
    let rows = map row_of old in
    let grown : map row_of new ≡ rows ++ row_of edges ∷ [] = ap (map row_of) w ∙ map-append row_of old (edges ∷ []) in
    record {
      as_many = ap length grown ∙ length_push rows (row_of edges) ∙ ap (λ (n : ℕ). n + 1) of.as_many;
      within = omega (arith, l);
      each = λ n s m at. subst (λ (rs : List Row). IsRowOf tasks s (row_at rs n)) (sym grown) (elim (cases_lt n count) [
        | inl lt ↦
            subst (IsRowOf tasks s) (sym (get_or_append_left rows (row_of edges ∷ []) no_edges n (omega (arith, lt, of.as_many)))) (of.each n s lt at)
        | inr ge ↦
            let same : n ≡ count = omega (arith, ge, m) in
            let here : s ≡ r =
            sym (get_or_from_slice_get records n s r at) ∙ ap (λ (k : ℕ). get_or records k r) same ∙ sym e in
            let last : row_at (rows ++ row_of edges ∷ []) n ≡ row_of edges = get_or_push rows (row_of edges) no_edges n (of.as_many ∙ sym same) in
            subst (IsRowOf tasks s) (sym last) (subst (λ (x : TaskRecord). IsRowOf tasks x (row_of edges)) (sym here) is)
      ]);
    }

pub rows_all : (tasks : List Task) (records : List TaskRecord) (rows : List Row) (count : ℕ) → length records ≤ count → AreRowsTo tasks records rows count
    → AreRowsOf tasks records rows
rows_all tasks records rows count l of = record {
  as_many = omega (arith, of.as_many, of.within, l);
  each = λ n r e. of.each n r (let low = slice_get_within records n r e in omega (arith, low, l)) e;
}
