-- Tasks that require tasks of lower numbers alone, one after another.
use Rattle.std.proofs.Common.{◌≡◌, ℕ, ◌<◌, ◌≤◌, ◌+◌, List, length, sym, subst, inl, inr, arith}
use Rattle.std.specs.List.{Contains}
use Rattle.std.proofs.lemmas.Bool.{cases_lt}
use Rattle.pie_graph.specs.Rows.{Row, row_at, Calls}
use Rattle.pie_reach.proofs.WalkSteps.{caller_below}
use Rattle.pie_walk.specs.States.{NeedsAreEarlier}

-- one task more
pub earlier_more : (rows : List Row) (caller : ℕ) (ns : List ℕ) → ns ≡ (row_at rows caller).needs → ((n : ℕ) → Contains ns n → n < caller)
    → ((a b : ℕ) → a < caller → Calls rows a b → b < a) → (a b : ℕ) → a < caller + 1 → Calls rows a b → b < a
earlier_more rows caller ns e below all a b l calls =
    elim (cases_lt a caller) [
      | inl before ↦ all a b before calls
      | inr now ↦
          let same : a ≡ caller = omega (arith, now, l) in
          subst (λ (k : ℕ). b < k) (sym same)
          (below b (subst (λ (xs : List ℕ). Contains xs b) (sym e) (subst (λ (k : ℕ). Calls rows k b) same calls)))
    ]

-- what holds of all holds of one row
pub earlier_row : (rows : List Row) (caller : ℕ) (ns : List ℕ) → ns ≡ (row_at rows caller).needs → NeedsAreEarlier rows → (n : ℕ) → Contains ns n
    → n < caller
earlier_row rows caller ns e all n h = all caller n (subst (λ (xs : List ℕ). Contains xs n) e h)

pub earlier_all : (rows : List Row) (count : ℕ) → length rows ≤ count → ((a b : ℕ) → a < count → Calls rows a b → b < a) → NeedsAreEarlier rows
earlier_all rows count l all a b calls = all a b (omega (arith, caller_below rows a b calls, l)) calls
