-- Tasks that stand before another, one after another.
use Rattle.std.proofs.Common.{◌≡◌, ℕ, ◌<◌, ◌≤◌, ◌+◌, List, length, get_or, sym, ap, ◌∙◌, inl, inr, subst, arith}
use Rattle.std.specs.Prelude.{slice_index}
use Rattle.std.specs.List.{Contains}
use Rattle.std.proofs.lemmas.Bool.{cases_lt}
use Rattle.std.proofs.lemmas.List.{length-map, get_or_default, get_or-map}
use Rattle.std.proofs.lemmas.List.Elements.{Contains-get_or}
use Rattle.pie_graph.specs.declared.edges.TaskNo.{TaskNo}
use Rattle.pie_graph.specs.Numbers.{numbers}
use Rattle.pie_graph.specs.Rows.{Row, Calls}
use Rattle.pie_reach.proofs.WalkSteps.{caller_below}
use Rattle.pie_order.specs.Places.{PlacesAgree, StandsBefore}

pub one_more : (tasks : List TaskNo) (places : List ℕ) (caller i : ℕ) (d : TaskNo) → i < length tasks → StandsBefore places (get_or tasks i d).0 caller
    → ((j : ℕ) → j < i → StandsBefore places (slice_index (numbers tasks) j) caller) → (j : ℕ) → j < i + 1
    → StandsBefore places (slice_index (numbers tasks) j) caller
one_more tasks places caller i d l stands all j m = elim (cases_lt j i) [
  | inl before ↦ all j before
  | inr now ↦
      let same : j ≡ i = omega (arith, now, m) in
      subst (λ (n : ℕ). StandsBefore places n caller) (sym (ap (slice_index (numbers tasks)) same ∙ get_or-map (λ (t : TaskNo). t.0) tasks i d 0 l)) stands
]

pub one_more_at : (tasks : List TaskNo) (places : List ℕ) (caller i : ℕ) (d : TaskNo) (r p : ℕ) → i < length tasks
    → r ≡ slice_index places (get_or tasks i d).0 → p ≡ slice_index places caller → r < p
    → ((j : ℕ) → j < i → StandsBefore places (slice_index (numbers tasks) j) caller) → (j : ℕ) → j < i + 1
    → StandsBefore places (slice_index (numbers tasks) j) caller
one_more_at tasks places caller i d r p l e f less all = one_more tasks places caller i d l (omega (arith, e, f, less)) all

pub all_stand : (tasks : List TaskNo) (places : List ℕ) (caller i : ℕ) → length tasks ≤ i
    → ((j : ℕ) → j < i → StandsBefore places (slice_index (numbers tasks) j) caller) → (n : ℕ) → Contains (numbers tasks) n → StandsBefore places n caller
all_stand tasks places caller i l all n h =
    subst (λ (k : ℕ). StandsBefore places k caller) (get_or_default (numbers tasks) h.0 0 n h.1 ∙ h.2)
    (all h.0 (omega (arith, h.1, length-map tasks (λ (t : TaskNo). t.0), l)))

pub held : (tasks : List TaskNo) (i : ℕ) (d : TaskNo) → i < length tasks → Contains (numbers tasks) (get_or tasks i d).0
held tasks i d l = subst (λ (n : ℕ). Contains (numbers tasks) n) (get_or-map (λ (t : TaskNo). t.0) tasks i d 0 l)
    (Contains-get_or (numbers tasks) i 0 (omega (arith, l, length-map tasks (λ (t : TaskNo). t.0))))

-- one caller more whose required tasks stand before it
pub caller_more : (rows : List Row) (places needs : List ℕ) (caller : ℕ) → ((n : ℕ) → Calls rows caller n → StandsBefore places n caller)
    → ((a b : ℕ) → a < caller → Calls rows a b → StandsBefore places b a) → (a b : ℕ) → a < caller + 1 → Calls rows a b → StandsBefore places b a
caller_more rows places needs caller one all a b l calls = elim (cases_lt a caller) [
  | inl before ↦ all a b before calls
  | inr now ↦
      let same : a ≡ caller = omega (arith, now, l) in
      subst (λ (k : ℕ). StandsBefore places b k) (sym same) (one b (subst (λ (k : ℕ). Calls rows k b) same calls))
]

pub agree : (rows : List Row) (places : List ℕ) (count : ℕ) → length places ≡ length rows → length rows ≤ count
    → ((a b : ℕ) → a < count → Calls rows a b → StandsBefore places b a) → PlacesAgree rows places
agree rows places count sized l all = record { as_many = sized; each = λ a b calls. all a b (omega (arith, caller_below rows a b calls, l)) calls }
