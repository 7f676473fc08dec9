-- What is known of the rows of a build, as tasks are entered and get their edges.
use Rattle.std.proofs.Common.{◌≡◌, ℕ, ◌<◌, ◌≤◌, ◌+◌, List, [], ◌∷◌, ◌++◌, length, get_or, set, sym, ap, ◌∙◌, subst, inl, inr, arith}
use Rattle.std.specs.List.{Contains}
use Rattle.std.proofs.lemmas.Bool.{cases_lt}
use Rattle.std.proofs.lemmas.Bool.Decides.{eqb_tells}
use Rattle.std.proofs.lemmas.List.{get_or_past, get_or_append_left, get_or-set_same, get_or-set_other, get_or_push, get_or-map, length-append, length-map}
use Rattle.pie_graph.specs.declared.edges.TaskNo.{TaskNo}
use Rattle.pie_graph.specs.Numbers.{numbers}
use Rattle.pie_graph.specs.Rows.{Row, row_at, no_edges, Calls}
use Rattle.pie_reach.specs.inner.Reaches.{Reaches, ReachedFrom}
use Rattle.pie_reach.specs.inner.Reaches.Leads.{itself, step}
use Rattle.pie_view.specs.inner.Entered.{AreLasts, Spans}

same_reach : (rows : List Row) (a b : ℕ) → a ≡ b → Reaches rows a b
same_reach rows a b e = subst (Reaches rows a) e itself

-- ---- a row without needs is filled

call_set : (rows : List Row) (n : ℕ) (row : Row) (a b : ℕ) → (row_at rows n).needs ≡ [] → Calls rows a b → Calls (set rows n row) a b
call_set rows n row a b blank h =
    elim (eqb_tells a n) [
      | inl e ↦ absurd (omega (arith, (subst (λ (ns : List ℕ). Contains ns b) (ap (λ (k : ℕ). (row_at rows k).needs) e.1 ∙ blank) h).1))
      | inr e ↦ subst (λ (r : Row). Contains r.needs b) (sym (get_or-set_other rows n a row no_edges e.1)) h
    ]

pub reach_set : (rows : List Row) (n : ℕ) (row : Row) (a b : ℕ) → (row_at rows n).needs ≡ [] → Reaches rows a b → Reaches (set rows n row) a b
reach_set rows n row a b blank (itself {a = d}) = itself
reach_set rows n row a b blank (step {a = x} {b = y} {c = z} first rest) = step (call_set rows n row x y blank first) (reach_set rows n row y b blank rest)

pub lasts_kept : (lasts : List ℕ) (rows : List Row) (n : ℕ) (row : Row) → (row_at rows n).needs ≡ [] → AreLasts lasts rows → AreLasts lasts (set rows n row)
lasts_kept lasts rows n row blank are k m low high = reach_set rows n row k m blank (are k m low high)

reach_new : (rows : List Row) (n : ℕ) (row : Row) (m : ℕ) → n < length rows → (row_at rows n).needs ≡ [] → ReachedFrom rows row.needs m
    → Reaches (set rows n row) n m
reach_new rows n row m l blank h =
    step (subst (λ (r : Row). Contains r.needs h.0) (sym (get_or-set_same rows n row no_edges l)) h.1) (reach_set rows n row h.0 m blank h.2)

pub lasts_set : (lasts : List ℕ) (rows : List Row) (n : ℕ) (row : Row) (last : ℕ) → n < length rows → n < length lasts → (row_at rows n).needs ≡ []
    → Spans rows row.needs n last → AreLasts lasts rows → AreLasts (set lasts n last) (set rows n row)
lasts_set lasts rows n row last l inside blank spans are k m low high =
    elim (eqb_tells k n) [
      | inl e ↦
          let at : get_or (set lasts n last) k k ≡ last = ap (λ (j : ℕ). get_or (set lasts n last) j k) e.1 ∙ get_or-set_same lasts n last k inside in
          elim (cases_lt n m) [
            | inl below ↦ subst (λ (j : ℕ). Reaches (set rows n row) j m) (sym e.1)
                (reach_new rows n row m l blank (spans m below (omega (arith, high, at))))
            | inr past ↦ same_reach (set rows n row) k m (omega (arith, low, past, e.1))
          ]
      | inr e ↦
          reach_set rows n row k m blank (are k m low (subst (λ (j : ℕ). m ≤ j) (get_or-set_other lasts n k last k e.1) high))
    ]

-- ---- a task is entered

call_add : (rows : List Row) (a b : ℕ) → Calls rows a b → Calls (rows ++ no_edges ∷ []) a b
call_add rows a b h =
    elim (cases_lt a (length rows)) [
      | inl l ↦ subst (λ (r : Row). Contains r.needs b) (sym (get_or_append_left rows (no_edges ∷ []) no_edges a l)) h
      | inr past ↦ absurd (omega (arith, (subst (λ (r : Row). Contains r.needs b) (get_or_past rows a no_edges past) h).1))
    ]

reach_add : (rows : List Row) (a b : ℕ) → Reaches rows a b → Reaches (rows ++ no_edges ∷ []) a b
reach_add rows a b (itself {a = d}) = itself
reach_add rows a b (step {a = x} {b = y} {c = z} first rest) = step (call_add rows x y first) (reach_add rows y b rest)

pub lasts_added : (lasts : List ℕ) (rows : List Row) → AreLasts lasts rows → AreLasts lasts (rows ++ no_edges ∷ [])
lasts_added lasts rows are k m low high = reach_add rows k m (are k m low high)

pushed_same : (lasts : List ℕ) (count k m : ℕ) → length lasts ≡ count → length lasts ≤ k → k ≤ m → m ≤ get_or (lasts ++ count ∷ []) k k → k ≡ m
pushed_same lasts count k m size past low high =
    elim (cases_lt k (length lasts + 1)) [
      | inl l ↦
          let here : k ≡ length lasts = omega (arith, l, past) in
          let at : get_or (lasts ++ count ∷ []) k k ≡ count
          = get_or_push lasts count k k (sym here) in
          omega (arith, here, at, size, low, high)
      | inr beyond ↦
          let at : get_or (lasts ++ count ∷ []) k k ≡ k
          = get_or_past (lasts ++ count ∷ []) k k (omega (arith, beyond, length-append lasts (count ∷ []))) in
          omega (arith, at, low, high)
    ]

-- one number more, which stands for itself
pub lasts_pushed : (lasts : List ℕ) (rows : List Row) (count : ℕ) → length lasts ≡ count → AreLasts lasts rows → AreLasts (lasts ++ count ∷ []) rows
lasts_pushed lasts rows count size are k m low high =
    elim (cases_lt k (length lasts)) [
      | inl l ↦ are k m low (subst (λ (j : ℕ). m ≤ j) (get_or_append_left lasts (count ∷ []) k k l) high)
      | inr past ↦ same_reach rows k m (pushed_same lasts count k m size past low high)
    ]

-- ---- what is known of some tasks

pub none_last : (rows : List Row) (n m : ℕ) → n ≤ m → m ≤ n → Reaches rows n m
none_last rows n m low high = same_reach rows n m (omega (arith, low, high))

pub spans_more : (rows : List Row) (needs : List ℕ) (need low last next : ℕ) → Contains needs need → Spans rows needs low last
    → ((m : ℕ) → last < m → m ≤ next → Reaches rows need m) → Spans rows needs low next
spans_more rows needs need low last next has spans more m above high =
    elim (cases_lt last m) [
      | inl l ↦ (need, has, more m l high)
      | inr within ↦ spans m above (omega (arith, within))
    ]

-- the number of a task that stands at a place is among the numbers
pub number_here : (tasks : List TaskNo) (i : ℕ) (d : TaskNo) → i < length tasks → Contains (numbers tasks) (get_or tasks i d).0
number_here tasks i d l =
    (i, omega (arith, l, length-map tasks (λ (t : TaskNo). t.0)), get_or-map (λ (t : TaskNo). t.0) tasks i d (get_or tasks i d).0 l)
