-- The best of some numbers and of one more.
use Rattle.std.proofs.Common.{◌≡◌, ℕ, ◌<◌, ◌≤◌, ◌+◌, Bool, true, false, cond, ltb, List, [], ◌∷◌, ◌++◌, Option, Some, None, length, get_or, take, refl, sym, ap}
use Rattle.std.proofs.Common.{◌∙◌, subst, inl, inr, arith}
use Rattle.std.specs.Prelude.{slice_index, IfSome}
use borrow.Author.Tests.{ltb-true, ltb-false}
use Rattle.std.proofs.lemmas.List.{take_more, take-map, map-append, take_all}
use Rattle.std.proofs.lemmas.List.Elements.{Contains-append_left, Contains-push, Contains-push_cases, All-contains, All-take}
use Rattle.pie_graph.specs.declared.edges.TaskNo.{TaskNo}
use Rattle.pie_graph.specs.Numbers.{numbers, AllBelow, IsMarked}
use Rattle.pie_reach.specs.inner.LeastKey.{best_of, IsBest}

unmarked_task : (marks : List Bool) (task n : ℕ) → get_or marks task false ≡ false → task ≡ n → IsMarked marks n → ⊥
unmarked_task marks task n e same is = let clash : false ≡ true = sym e ∙ ap (λ m. get_or marks m false) same ∙ is in absurd (cc)

first_more : (ns : List ℕ) (task : TaskNo) (marks : List Bool) (keys : List ℕ) → IsBest ns marks keys None
    → IsBest (ns ++ task.0 ∷ []) marks keys (best_of marks keys task None)
first_more ns task marks keys none =
    elim (get_or marks task.0 false) as (λ b. get_or marks task.0 false ≡ b → IsBest (ns ++ task.0 ∷ []) marks keys (cond b (Some task) None)) [
      | true ↦ λ e. (
        Contains-push ns task.0,
        e,
        λ n h is. elim (Contains-push_cases ns task.0 n h)
            [ inl old ↦ absurd (none n old is) | inr same ↦ omega (arith, ap (slice_index keys) same) ],
      )
      | false ↦ λ e n h is. elim (Contains-push_cases ns task.0 n h) [ inl old ↦ none n old is | inr same ↦ unmarked_task marks task.0 n e same is ]
    ] refl

next_more : (ns : List ℕ) (task best : TaskNo) (marks : List Bool) (keys : List ℕ) → IsBest ns marks keys (Some best)
    → IsBest (ns ++ task.0 ∷ []) marks keys (best_of marks keys task (Some best))
next_more ns task best marks keys old =
    elim (get_or marks task.0 false) as (λ b. get_or marks task.0 false ≡ b
    → IsBest (ns ++ task.0 ∷ []) marks keys (cond b (cond (ltb (slice_index keys task.0) (slice_index keys best.0)) (Some task) (Some best)) (Some best))) [
      | true ↦ λ e. elim (ltb (slice_index keys task.0) (slice_index keys best.0)) as
          (λ b. ltb (slice_index keys task.0) (slice_index keys best.0) ≡ b → IsBest (ns ++ task.0 ∷ []) marks keys (cond b (Some task) (Some best))) [
            | true ↦ λ less. (
              Contains-push ns task.0,
              e,
              λ n h is. elim (Contains-push_cases ns task.0 n h) [
                | inl there ↦ omega (arith, old.2 n there is, ltb-true (slice_index keys task.0) (slice_index keys best.0) less)
                | inr same ↦ omega (arith, ap (slice_index keys) same)
              ],
            )
            | false ↦ λ more. (
              Contains-append_left ns (task.0 ∷ []) best.0 old.0,
              old.1,
              λ n h is. elim (Contains-push_cases ns task.0 n h) [
                | inl there ↦ old.2 n there is
                | inr same ↦ omega (arith, ap (slice_index keys) same, ltb-false (slice_index keys task.0) (slice_index keys best.0) more)
              ],
            )
          ] refl
      | false ↦ λ e. (
        Contains-append_left ns (task.0 ∷ []) best.0 old.0,
        old.1,
        λ n h is. elim (Contains-push_cases ns task.0 n h) [ inl there ↦ old.2 n there is | inr same ↦ absurd (unmarked_task marks task.0 n e same is) ],
      )
    ] refl

best_more : (ns : List ℕ) (task : TaskNo) (marks : List Bool) (keys : List ℕ) (best : Option TaskNo) → IsBest ns marks keys best
    → IsBest (ns ++ task.0 ∷ []) marks keys (best_of marks keys task best)
best_more ns task marks keys None old = first_more ns task marks keys old
best_more ns task marks keys (Some best) old = next_more ns task best marks keys old

pub best_step : (among : List TaskNo) (i : ℕ) (d : TaskNo) (marks : List Bool) (keys : List ℕ) (best now : Option TaskNo) → i < length among
    → IsBest (numbers (take i among)) marks keys best → now ≡ best_of marks keys (get_or among i d) best → IsBest (numbers (take (i + 1) among)) marks keys now
best_step among i d marks keys best now l old e =
    let more : numbers (take (i + 1) among) ≡ numbers (take i among) ++ (get_or among i d).0 ∷ [] =
    ap numbers (take_more among i d l) ∙ map-append (λ (t : TaskNo). t.0) (take i among) (get_or among i d ∷ []) in
    subst (λ (ns : List ℕ). IsBest ns marks keys now) (sym more)
    (subst (IsBest (numbers (take i among) ++ (get_or among i d).0 ∷ []) marks keys) (sym e)
    (best_more (numbers (take i among)) (get_or among i d) marks keys best old))

within : (ns : List ℕ) (marks : List Bool) (keys : List ℕ) (bound : ℕ) (best : Option TaskNo) → AllBelow bound ns → IsBest ns marks keys best
    → IfSome best (λ b. b.0 < bound)
within ns marks keys bound None below is = tt
within ns marks keys bound (Some best) below is = All-contains (λ n. n < bound) ns best.0 below is.0

pub best_within : (among : List TaskNo) (i : ℕ) (marks : List Bool) (keys : List ℕ) (bound : ℕ) (best : Option TaskNo) → AllBelow bound (numbers among)
    → IsBest (numbers (take i among)) marks keys best → IfSome best (λ b. b.0 < bound)
best_within among i marks keys bound best below is =
    within (numbers (take i among)) marks keys bound best (subst (AllBelow bound) (take-map (λ (t : TaskNo). t.0) i among)
    (All-take (λ n. n < bound) i (numbers among) below)) is

pub best_end : (among : List TaskNo) (i : ℕ) (marks : List Bool) (keys : List ℕ) (best : Option TaskNo) → length among ≤ i
    → IsBest (numbers (take i among)) marks keys best → IsBest (numbers among) marks keys best
best_end among i marks keys best l is = subst (λ (ts : List TaskNo). IsBest (numbers ts) marks keys best) (take_all i among l) is
