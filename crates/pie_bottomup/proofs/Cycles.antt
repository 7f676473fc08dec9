-- The numbers of a cycle are those of tasks.
use Rattle.std.proofs.Common.{◌≡◌, ◌⊎◌, ℕ, ◌<◌, ◌+◌, List, length, slice_index, sym, subst, inl, inr, arith, get_or}
use Rattle.std.specs.declared.cmp.Ordering.TheVariants.{Less, Equal, Greater}
use Rattle.std.specs.Ordering.{nat_cmp, MatchOrdering}
use Rattle.std.specs.Cmp.{ranks}
use Rattle.std.proofs.lemmas.List.{get_or_default, get_or-map, length-map}
use Rattle.pie_graph.specs.declared.edges.TaskNo.{TaskNo}
use Rattle.pie_graph.specs.Numbers.{AllBelow, numbers}
use Rattle.pie_graph.specs.Rows.{Row}
use Rattle.pie_order.specs.Cycles.{IsCycle, WouldCall}
use Rattle.pie_reach.proofs.WalkSteps.{caller_below}
use Rattle.std.specs.List.{All}
use Rattle.std.specs.Prelude.{Option, Some, MatchOption}
use Rattle.pie_frames.specs.declared.frames.Frames.{Frames}
use Rattle.pie_frames.specs.inner.Standing.{Holds}
use Rattle.pie_bottomup.proofs.Moving.{held_inside}
use Rattle.std.proofs.Common.{[], ◌∷◌, ◌++◌}
use Rattle.std.proofs.lemmas.List.Elements.{All-push}
use Rattle.pie_value.specs.declared.task.Task.{Task}
use Rattle.pie_value.specs.Canonical.{IsEncodableTask}

last_or_not : (i n : ℕ) → i < n → (i + 1 < n) ⊎ (i + 1 ≡ n)
last_or_not i n l =
    elim (nat_cmp (i + 1) n) as (λ r. MatchOrdering r (i + 1 < n) (i + 1 ≡ n) (n < i + 1) → (i + 1 < n) ⊎ (i + 1 ≡ n)) [
      | Less ↦ λ lt. inl lt
      | Equal ↦ λ e. inr e
      | Greater ↦ λ gt. absurd (omega (arith, l, gt))
    ] (ranks (i + 1) n)

would_below : (rows : List Row) (from to a b : ℕ) → from < length rows → WouldCall rows from to a b → a < length rows
would_below rows from to a b inside (inl calls) = caller_below rows a b calls
would_below rows from to a b inside (inr is) = subst (λ n. n < length rows) (sym is.0) inside

-- each task of a cycle requires the next one
pub cycle_below : (rows : List Row) (from to : ℕ) (ns : List ℕ) → from < length rows → IsCycle (WouldCall rows from to) ns → AllBelow (length rows) ns
cycle_below rows from to ns inside cycle i d l =
    subst (λ n. n < length rows) (get_or_default ns i 0 d l) (elim (last_or_not i (length ns) l) as (λ _. slice_index ns i < length rows) [
      | inl more ↦ would_below rows from to (slice_index ns i) (slice_index ns (i + 1)) inside (cycle.ring.each i more)
      | inr last ↦ would_below rows from to (slice_index ns i) (slice_index ns 0) inside (cycle.ring.closes i last)
    ])

-- a number of some that are below a bound
pub number_below : (bound : ℕ) (nos : List TaskNo) (i : ℕ) (d : TaskNo) → AllBelow bound (numbers nos) → i < length nos → (get_or nos i d).0 < bound
number_below bound nos i d below l =
    subst (λ n. n < bound) (get_or-map (λ (t : TaskNo). t.0) nos i d d.0 l)
    (below i d.0 (subst (λ n. i < n) (sym (length-map nos (λ (t : TaskNo). t.0))) l))

-- one more task
pub encodable_more : (tasks : List Task) (t : Task) → All IsEncodableTask tasks → IsEncodableTask t → All IsEncodableTask (tasks ++ t ∷ [])
encodable_more tasks t all one = All-push IsEncodableTask tasks t all one

-- the cycle that a require of the task in hand would close
pub cycle_in_hand : (task : TaskNo) (f : Frames) (to count : ℕ) (ns : List ℕ) → count ≡ length f.walk.rows → Holds task f
    → IsCycle (WouldCall f.walk.rows task.0 to) ns → AllBelow count ns
cycle_in_hand task f to count ns sized holds cycle =
    subst (λ n. AllBelow n ns) (sym sized) (cycle_below f.walk.rows task.0 to ns (held_inside task f holds) cycle)

-- what there is of an answer
pub there_is : {A : Type 0} (P : A → Type 0) (o : Option A) (a : A) → o ≡ Some a → MatchOption o Unit P → P a
there_is P o a is h = subst (λ x. MatchOption x Unit P) is h
