-- What the graph of the records shows is what the required tasks provide.
use Rattle.std.proofs.Common.{◌≡◌, ◌⊎◌, inl, inr, ℕ, suc, ◌+◌, ◌<◌, ◌≤◌, Bool, true, false, cond, Option, Some, None, List, [], ◌∷◌, ◌++◌, map}
use Rattle.std.proofs.Common.{length, refl, sym, ap, subst, ◌∙◌}
use Rattle.std.specs.Prelude.{zero, slice_get, slice_set, option_map, unwrap_or, get_or, Contains}
use Rattle.std.specs.Ordering.{nat_cmp, is_eq}
use Rattle.std.specs.declared.cmp.Ordering.TheVariants.{Equal}
use Rattle.std.specs.Cmp.{nat_cmp_is, Equal-is}
use Rattle.std.specs.FinMap.{nat_cmp-IsAntisymmetric}
use Rattle.std.proofs.lemmas.Option.{slice_get_past, slice_get_cases, unwrap_or-slice_get}
use Rattle.std.proofs.lemmas.List.{length-append, length-set, get_or-set_same, get_or-set_other}
use Rattle.pie_value.specs.declared.task.Task.{Task}
use Rattle.pie_value.specs.Canonical.{enc_task}
use Rattle.pie_graph.specs.Rows.{Row, row_at, no_edges, Writes}
use Rattle.pie_record.specs.declared.records.Records.{Records}
use Rattle.pie_record.specs.declared.task_record.TaskRecord.{TaskRecord}
use Rattle.pie_record.specs.inner.Records.{record_of as kept_of, Puts}
use Rattle.pie_view.specs.declared.seen.Seen.{Seen as RowsSeen}
use Rattle.pie_view.specs.declared.seen.Seen.TheVariants.{Absent, By, Clash}
use Rattle.pie_view.specs.Seen.{Visible, IsOnly}
use Rattle.pie_model.specs.Paths.{Path}
use Rattle.pie_model.specs.Trees.{trace_of, writes_of}
use Rattle.pie_model.specs.Seen.{first_write, seen_file, provided}
use Rattle.pie_model.specs.Evaluation.{World, Project, evaluation}
use Rattle.pie_model.specs.Records.{Record, hashed, needs_of}
use Rattle.pie_model.specs.inner.Stack.{Frame}
use Rattle.pie_step_laws.specs.Contents.{KeepsContents, WroteContents, IsShown}
use Rattle.pie_step_laws.specs.Table.{IsTable}
use Rattle.pie_step_laws.specs.UnderWay.{UnderWay}
use Rattle.pie_step_laws.proofs.ContentLemmas.{running_sees}
use Rattle.pie_model.proofs.Basics.{clash}
use Rattle.pie_check_laws.proofs.Members.{none_in}
use Rattle.pie_model_pipeline.specs.Rows.{record_of}
use Rattle.pie_builder_laws.specs.Names.{AreTasks, called_in}
use Rattle.pie_builder_laws.specs.Tables.{recorded, Kept, kept}
use Rattle.pie_builder_laws.specs.Views.{AreNumbersOf, RowRequires, AreRowsOf, unmarked, shown, RowIs, IsGraphOf, Staged, IsStaged, found}
use Rattle.pie_builder_laws.proofs.Tabled.{record_by_number, record_has_number, contents_by_number}
use Rattle.pie_builder_laws.proofs.Shown.{is_shown}

abbrev paths_in : List (Path × List ℕ) → List Path
paths_in ws = map (λ (w : Path × List ℕ). w.0) ws

pub hashed_paths : (w : World) (ws : List (Path × List ℕ)) → paths_in (hashed w ws) ≡ paths_in ws
hashed_paths w [] = refl
hashed_paths w (x ∷ xs) = ap (λ ps. x.0 ∷ ps) (hashed_paths w xs)

-- past the last row there are no edges
pub past_rows : (rows : List Row) (n : ℕ) → length rows ≤ n → row_at rows n ≡ no_edges
past_rows rows n l = sym (unwrap_or-slice_get rows n no_edges) ∙ ap (λ o. unwrap_or o no_edges) (slice_get_past rows n l)

-- what a named task with a record wrote
abbrev pub writes_by : World → Project → Option Task → Option TaskRecord → List (Path × List ℕ)
writes_by w P None kept = []
writes_by w P (Some t) None = []
writes_by w P (Some t) (Some rec) = writes_of (trace_of (evaluation w P (enc_task t)))

module _ (w : World) (P : Project) (names : List Task) (records : Records) (rows : List Row) (a : AreTasks names)
    (T : IsTable w P (recorded names records) (map enc_task names)) (g : IsGraphOf names records rows) where
  abbrev contents : Kept
  contents n = writes_by w P (slice_get names n) (kept_of records n)

  its_writes : (n : ℕ) (t : Task) (rec : TaskRecord) → slice_get names n ≡ Some t → kept_of records n ≡ Some rec
      → paths_in rec.writes ≡ paths_in (writes_of (trace_of (evaluation w P (enc_task t))))
  its_writes n t rec e k =
      ap (λ (r : Record). paths_in r.writes)
      (T.right (enc_task t) (record_of rec) (record_by_number names records n t a e ∙ ap (λ o. option_map record_of o) k))
      ∙ hashed_paths w (writes_of (trace_of (evaluation w P (enc_task t))))

  row_requires : (row : Row) (o : Option TaskRecord) → RowIs names row o → RowRequires names row o
  row_requires row None h = h.0
  row_requires row (Some rec) h = h.0

  row_writes : (n : ℕ) (t : Option Task) (o : Option TaskRecord) → slice_get names n ≡ t → kept_of records n ≡ o → RowIs names (row_at rows n) o
      → (t ≡ None → row_at rows n ≡ no_edges) → (row_at rows n).writes ≡ paths_in (writes_by w P t o)
  row_writes n None o e k h past = ap (λ (r : Row). r.writes) (past refl)
  row_writes n (Some t) None e k h past = h.1
  row_writes n (Some t) (Some rec) e k h past = h.1 ∙ its_writes n t rec e k

  unnamed : (n : ℕ) → slice_get names n ≡ None → row_at rows n ≡ no_edges
  unnamed n e = by (slice_get_cases names n).1
    where
      by : ((u : Task) × (n < length names) × (slice_get names n ≡ Some u) × (get_or names n u ≡ u)) ⊎ ((length names ≤ n) × (slice_get names n ≡ None))
          → row_at rows n ≡ no_edges
      by (inl m) = absurd (both m.0 (sym m.2 ∙ e))
        where
          both : (u : Task) → Some u ≡ None → ⊥
          both u h = cc
      by (inr m) = past_rows rows n (subst (λ k. k ≤ n) (sym g.as_many) m.0)

  pub are_rows : AreRowsOf names records contents rows
  are_rows = record {
    as_many = g.as_many;
    needs = λ n. row_requires (row_at rows n) (kept_of records n) (g.each n);
    writes = λ n. row_writes n (slice_get names n) (kept_of records n) refl refl (g.each n) (unnamed n);
  }

  pub keeps : KeepsContents w P (recorded names records) (kept names contents)
  keeps x r =
      let m = record_has_number names records x r.kept r.is in
      ap (kept names contents) m.bytes ∙ contents_by_number names contents m.number m.task a m.named
      ∙ ap (λ o. writes_by w P o (kept_of records m.number)) m.named ∙ ap (λ o. writes_by w P (Some m.task) o) m.kept
      ∙ ap (λ y. writes_of (trace_of (evaluation w P y))) (sym m.bytes)

  -- what wrote has a name and a record
  its_contents : (n : ℕ) (p : Path) → Writes rows n p → (staged : Staged) → IsStaged w P names records staged → first_write p (contents n) ≡ staged n p
  its_contents n p h staged s = by (slice_get names n) refl (kept_of records n) refl (g.each n)
    where
      by : (t : Option Task) → slice_get names n ≡ t → (o : Option TaskRecord) → kept_of records n ≡ o → RowIs names (row_at rows n) o
          → first_write p (writes_by w P t o) ≡ staged n p
      by None e o k i = absurd (none_in p (subst (λ xs. Contains xs p) (ap (λ (r : Row). r.writes) (unnamed n e)) h))
      by (Some t) e None k i = absurd (none_in p (subst (λ xs. Contains xs p) i.1 h))
      by (Some t) e (Some rec) k i = sym (s n t rec e k p)

  found_is : (staged : Staged) → IsStaged w P names records staged → (required : List ℕ) (p : Path) (seen : RowsSeen)
      → IsOnly (Visible rows required p) seen → shown contents p seen ≡ found staged p seen
  found_is staged s required p Absent h = refl
  found_is staged s required p (By one) h = ap (λ o. seen_file (unmarked o)) (its_contents one.0 p h.0.1 staged s)
  found_is staged s required p Clash h = refl

pub provided_is : (w : World) (P : Project) (root : List ℕ) (base : List (List ℕ)) (names : List Task) (records : Records) (fs : List Frame) (f : Frame)
    (rows : List Row) (staged : Staged) (required : List ℕ) (us : List Task) (path : Path) (seen : RowsSeen) → AreTasks names
    → UnderWay w P root base (recorded names records) (map enc_task names) fs f → IsGraphOf names records rows → IsStaged w P names records staged
    → AreNumbersOf names required us → needs_of f.seen ≡ map enc_task us → IsOnly (Visible rows required path) seen
    → provided f.progress.kids path ≡ found staged path seen
provided_is w P root base names records fs f rows staged required us path seen a U g s e n h =
    let contents : Kept = λ k. writes_by w P (slice_get names k) (kept_of records k) in
    let T = U.table in
    running_sees w P root base (recorded names records) (map enc_task names) fs f (kept names contents) path (shown contents path seen) U
    (keeps w P names records rows a T g)
    (subst (λ vs. IsShown (WroteContents (recorded names records) (kept names contents) vs path) (shown contents path seen)) (sym n)
    (is_shown names records contents rows a (are_rows w P names records rows a T g) required us e path seen h))
    ∙ found_is w P names records rows a T g staged s required path seen h

-- ---- the graph goes on

named_still : (names : List Task) (t u : Task) (n : ℕ) → slice_get names n ≡ Some u → slice_get (names ++ t ∷ []) n ≡ Some u
named_still [] t u n e = cc
named_still (x ∷ xs) t u zero e = e
named_still (x ∷ xs) t u (suc n) e = named_still xs t u n e

pub numbers_stay : (names : List Task) (t : Task) (numbers : List ℕ) (tasks : List Task) → AreNumbersOf names numbers tasks
    → AreNumbersOf (names ++ t ∷ []) numbers tasks
numbers_stay names t [] [] e = refl
numbers_stay names t [] (u ∷ us) e = cc
numbers_stay names t (n ∷ ns) [] e = cc
numbers_stay names t (n ∷ ns) (u ∷ us) e = both _ _ (named_still names t u n (head e)) (numbers_stay names t ns us (tail e))
  where
    head : slice_get names n ∷ map (slice_get names) ns ≡ Some u ∷ map Some us → slice_get names n ≡ Some u
    head h = cc

    tail : slice_get names n ∷ map (slice_get names) ns ≡ Some u ∷ map Some us → map (slice_get names) ns ≡ map Some us
    tail h = cc

    both : (o : Option Task) (os : List (Option Task)) → o ≡ Some u → os ≡ map Some us → o ∷ os ≡ Some u ∷ map Some us
    both o os h k = λ i. h i ∷ k i

-- rows with one more that has no edges
row_still : (rows : List Row) (n : ℕ) → row_at (rows ++ no_edges ∷ []) n ≡ row_at rows n
row_still [] zero = refl
row_still [] (suc n) = refl
row_still (r ∷ rs) zero = refl
row_still (r ∷ rs) (suc n) = row_still rs n

row_named : (names : List Task) (t : Task) (row : Row) (o : Option TaskRecord) → RowIs names row o → RowIs (names ++ t ∷ []) row o
row_named names t row None h = h
row_named names t row (Some rec) h = (numbers_stay names t row.needs (called_in rec.deps) h.0, h.1)

pub graph_grows : (names : List Task) (records : Records) (rows : List Row) (t : Task) → IsGraphOf names records rows
    → IsGraphOf (names ++ t ∷ []) records (rows ++ no_edges ∷ [])
graph_grows names records rows t g = record {
  as_many = length-append rows (no_edges ∷ []) ∙ ap (λ n. n + 1) g.as_many ∙ sym (length-append names (t ∷ []));
  each = λ n. subst (λ r. RowIs (names ++ t ∷ []) r (kept_of records n)) (sym (row_still rows n))
      (row_named names t (row_at rows n) (kept_of records n) (g.each n));
}

pub graph_changes : (names : List Task) (old new : Records) (rows : List Row) (n : ℕ) (row : Row) (rec : TaskRecord) → IsGraphOf names old rows
    → Puts old new n rec → n < length rows → RowIs names row (Some rec) → IsGraphOf names new (slice_set rows n row)
graph_changes names old new rows n row rec g p l now = record {
  as_many = length-set rows n row ∙ g.as_many;
  each = λ m. subst (RowIs names (row_at (slice_set rows n row) m)) (sym (p m)) (by m (is_eq (nat_cmp n m)) refl);
}
  where
    other : (m : ℕ) → is_eq (nat_cmp n m) ≡ false → m ≡ n → ⊥
    other m e i = clash (is_eq (nat_cmp n m)) (subst (λ k. is_eq (nat_cmp n k) ≡ true) (sym i) (ap is_eq (sym (nat_cmp_is n n Equal refl)))) e

    here : RowIs names (row_at (slice_set rows n row) n) (Some rec)
    here = subst (λ r. RowIs names r (Some rec)) (sym (get_or-set_same rows n row no_edges l)) now

    by : (m : ℕ) (b : Bool) → is_eq (nat_cmp n m) ≡ b → RowIs names (row_at (slice_set rows n row) m) (cond b (Some rec) (kept_of old m))
    by m true e = subst (λ k. RowIs names (row_at (slice_set rows n row) k) (Some rec)) (nat_cmp-IsAntisymmetric n m ((Equal-is (nat_cmp n m)).0 e)) here
    by m false e = subst (λ r. RowIs names r (kept_of old m)) (sym (get_or-set_other rows n m row no_edges (other m e))) (g.each m)
