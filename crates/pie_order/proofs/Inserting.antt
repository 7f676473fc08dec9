-- After one side of a new edge has moved, the order agrees with the rows and with the new edge.
use Rattle.std.proofs.Common.{◌⊎◌, ℕ, ◌<◌, List, length, ◌∙◌, inl, inr, arith}
use Rattle.std.specs.List.{Contains}
use Rattle.std.proofs.lemmas.List.Elements.{All-contains}
use Rattle.pie_graph.specs.Rows.{Row, row_at, Calls, NeedsBelow}
use Rattle.pie_graph.proofs.RowLemmas.{needs_below_at}
use Rattle.pie_reach.proofs.WalkSteps.{caller_below}
use Rattle.pie_order.specs.Places.{StandsBefore, PlacesAgree}
use Rattle.pie_order.specs.Runs.{AreParted, GoFirst, GoLast}
use Rattle.pie_order.specs.Sides.{IsSide}
use Rattle.pie_order.proofs.StandingSteps.{held}

-- where the front holds all that its tasks require, the parted tasks agree
parted_agree : (front back : ℕ → Type 0) (rows : List Row) (old new : List ℕ) → NeedsBelow rows → ((n : ℕ) → front n ⊎ back n)
    → ((x y : ℕ) → Calls rows x y → front x → front y)
    → PlacesAgree rows old → AreParted front back old new → PlacesAgree rows new
parted_agree front back rows old new needs either closed agrees parted = record {
  as_many = parted.sized ∙ agrees.as_many;
  each = λ x y calls.
      let less = agrees.each x y calls in
      let x_in : x < length old = omega (arith, agrees.as_many, caller_below rows x y calls) in
      let y_in : y < length old = omega (
        arith,
        agrees.as_many,
        All-contains (λ n. n < length rows) (row_at rows x).needs y (needs_below_at rows x needs) calls,
      ) in
      elim (either x) [
        | inl x_front ↦ parted.front_keeps y x y_in x_in (closed x y calls x_front) x_front less
        | inr x_back ↦ elim (either y) [
          | inl y_front ↦ parted.parted y x y_in x_in y_front x_back
          | inr y_back ↦ parted.back_keeps y x y_in x_in y_back x_back less
        ]
      ];
}

pub sunk_agrees : (rows : List Row) (from to : ℕ) (tasks old new : List ℕ) → NeedsBelow rows → from < length old → to < length old
    → IsSide (length rows) (Calls rows) to from tasks
    → PlacesAgree rows old → GoFirst tasks old new → PlacesAgree rows new × StandsBefore new to from
sunk_agrees rows from to tasks old new needs from_in to_in side agrees parted = (
  parted_agree (Contains tasks) (λ n. Contains tasks n → ⊥) rows old new needs (held tasks) (λ x y calls h. side.closed x y h calls) agrees parted,
  parted.parted to from to_in from_in side.started side.apart,
)

turned : (tasks : List ℕ) (n : ℕ) → (Contains tasks n → ⊥) ⊎ Contains tasks n
turned tasks n = elim (held tasks n) [ inl h ↦ inr h | inr none ↦ inl none ]

pub lifted_agrees : (rows : List Row) (from to : ℕ) (tasks old new : List ℕ) → NeedsBelow rows → from < length old → to < length old
    → IsSide (length rows) (λ a b. Calls rows b a) from to tasks
    → PlacesAgree rows old → GoLast tasks old new → PlacesAgree rows new × StandsBefore new to from
lifted_agrees rows from to tasks old new needs from_in to_in side agrees parted = (
  parted_agree (λ n. Contains tasks n → ⊥) (Contains tasks) rows old new needs (turned tasks)
      (λ x y calls none h. none (side.closed y x h calls)) agrees parted,
  parted.parted to from to_in from_in side.apart side.started,
)
