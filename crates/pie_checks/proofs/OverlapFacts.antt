-- The least path that two tasks wrote, with the two least of them.
use Rattle.std.proofs.Common.{◌≡◌, ◌≢◌, ℕ, ◌<◌, false, List, length, refl, sym, ap, ◌∙◌, subst}
use Rattle.std.proofs.Common.{inl, inr}
use Rattle.std.specs.Prelude.{Some, None}
use Rattle.std.specs.declared.cmp.Ordering.TheVariants.{Equal}
use Rattle.std.specs.Ordering.{is_gt}
use Rattle.std.specs.List.{Contains}
use Rattle.std.proofs.lemmas.Bool.{cases_eq}
use Rattle.pie_value.specs.declared.task.Task.{Task}
use Rattle.pie_value.specs.declared.verdict.Refusal.{Refusal}
use Rattle.pie_value.specs.declared.verdict.Refusal.TheVariants.{Overlap}
use Rattle.pie_value.specs.Canonical.{enc_task}
use Rattle.pie_value.specs.Order.{byte_order}
use Rattle.pie_record.specs.inner.Names.{AreDistinct}
use Rattle.pie_checks.specs.Records.{OfTask}
use Rattle.pie_checks.specs.Refusals.{Overlaps, task_order, IsLeastPlace, NoPlace, FindsOverlap}
use Rattle.pie_checks.specs.Listings.{Entry, AreNumbered, Stands, IsShared, IsFirstShared, HasTwo, numbers_beside}
use Rattle.pie_checks.specs.Searches.{task_at, IsTwoLeast}
use Rattle.pie_checks.proofs.PathOrder.{then_not_gt, not_after_through, same_order, equal_same}
use Rattle.pie_checks.proofs.Gathering.{beside_only, beside_each}
use Rattle.pie_checks.proofs.LeastTask.{IsUpTo, not_out}
use Rattle.pie_checks.proofs.Numbering.{task_of, number_of, same_task, apart, not_but, below_count}

pub two_beside : (writes : List Entry) (path : List ℕ) (ns : List ℕ) → ns ≡ numbers_beside writes path → IsFirstShared writes (Some path) → HasTwo ns
two_beside writes path ns e first =
    let two : HasTwo (numbers_beside writes path) = (
      first.0.0,
      first.0.1,
      beside_each writes path first.0.0 first.0.2,
      beside_each writes path first.0.1
          first.0.3,
      first.0.4,
    ) in
    subst HasTwo (sym e) two

-- tasks that overlap have two numbers
shared_by : (tasks : List Task) (writes : List Entry) (path : List ℕ) (c d : Task) → Overlaps (OfTask tasks (Stands writes)) path c d → IsShared writes path
shared_by tasks writes path c d h = (h.0.0, h.1.0, h.0.2, h.1.2, λ e. h.2 (same_task tasks h.0.0 h.1.0 c d h.0.1 h.1.1 e))

pub no_overlap : (tasks : List Task) (writes : List Entry) → IsFirstShared writes None → NoPlace (Overlaps (OfTask tasks (Stands writes)))
no_overlap tasks writes none path c d h = none path (shared_by tasks writes path c d h)

-- the second of the two is up to any other task of the path
second_up : (tasks : List Task) (ns : List ℕ) (first second nc nd : ℕ) → IsTwoLeast tasks ns (first, second) → Contains ns nc → Contains ns nd → nc ≢ nd
    → task_order (task_at tasks first) (task_at tasks nc) ≡ Equal → IsUpTo tasks second nd
second_up tasks ns first second nc nd two hc hd other eq =
    elim (cases_eq first nc) [
      | inl same ↦ two.1.1 nd (hd, not_out first nd (λ e. other (sym same ∙ e)))
      | inr differs ↦
          let enc : List Task → ℕ → List ℕ = λ ts n. enc_task (task_at ts n) in
          let alike : enc tasks first ≡ enc tasks nc = equal_same (enc tasks first) (enc tasks nc) eq in
          let down : IsUpTo tasks nc first = ap is_gt (same_order (enc tasks nc) (enc tasks first) (sym alike)) in
          let low : IsUpTo tasks second nc = two.1.1 nc (hc, not_out first nc differs) in
          let high : IsUpTo tasks first nd = two.0.1 nd (hd, refl) in
          not_after_through (enc tasks second) (enc tasks nc) (enc tasks nd) low (not_after_through (enc tasks nc) (enc tasks first) (enc tasks nd) down high)
    ]

pub overlap_least : (tasks : List Task) (writes : List Entry) (path : List ℕ) (first second : ℕ) → AreDistinct tasks → AreNumbered (length tasks) writes
    → IsFirstShared writes (Some path)
    → IsTwoLeast tasks (numbers_beside writes path) (first, second) → IsLeastPlace (Overlaps (OfTask tasks (Stands writes))) path (task_at tasks first)
    (task_at tasks second)
overlap_least tasks writes path first second distinct numbered shared two =
    let ns = numbers_beside writes path in
    let a = task_at tasks first in
    let b = task_at tasks second in
    let sa = beside_only writes path first two.0.0.0 in
    let sb = beside_only writes path second two.1.0.0 in
    let la = below_count (length tasks) writes path first numbered sa in
    let lb = below_count (length tasks) writes path second numbered sb in
    record {
      holds = (
        (first, task_of tasks first la, sa),
        (second, task_of tasks second lb, sb),
        apart tasks first second distinct la lb
            (not_but first second two.1.0.1),
      );
      least = λ q c d h.
          let nc = h.0.0 in
          let nd = h.1.0 in
          let ec = (number_of tasks nc c h.0.1).1 in
          let ed = (number_of tasks nd d h.1.1).1 in
          let other : nc ≢ nd = λ e. h.2 (same_task tasks nc nd c d h.0.1 h.1.1 e) in
          then_not_gt (byte_order path q) _ (shared.1 q (shared_by tasks writes q c d h)) (λ eq.
          let same : q ≡ path = sym (equal_same path q eq) in
          let hc : Contains ns nc = beside_each writes path nc (subst (λ (p : List ℕ). Stands writes p nc) same h.0.2) in
          let hd : Contains ns nd = beside_each writes path nd (subst (λ (p : List ℕ). Stands writes p nd) same h.1.2) in
          then_not_gt (task_order a c) (task_order b d) (subst (λ (t : Task). is_gt (task_order a t) ≡ false) ec (two.0.1 nc (hc, refl))) (λ tie.
          let tied : task_order a (task_at tasks nc) ≡ Equal = ap (task_order a) ec ∙ tie in
          subst (λ (t : Task). is_gt (task_order b t) ≡ false) ed (second_up tasks ns first second nc nd two hc hd other tied)));
    }

pub two_below : (tasks : List Task) (writes : List Entry) (path ns : List ℕ) (two : ℕ × ℕ) → ns ≡ numbers_beside writes path
    → AreNumbered (length tasks) writes → IsTwoLeast tasks ns two
    → (two.0 < length tasks) × (two.1 < length tasks)
two_below tasks writes path ns two e numbered h =
    let first : Contains (numbers_beside writes path) two.0 = subst (λ (xs : List ℕ). Contains xs two.0) e h.0.0.0 in
    let second : Contains (numbers_beside writes path) two.1 = subst (λ (xs : List ℕ). Contains xs two.1) e h.1.0.0 in (
      below_count (length tasks) writes path two.0 numbered (beside_only writes path two.0 first),
      below_count (length tasks) writes path two.1 numbered
          (beside_only writes path two.1 second),
    )

pub overlap_told : (tasks : List Task) (writes : List Entry) (path ns : List ℕ) (two : ℕ × ℕ) (refusal : Refusal) → AreDistinct tasks
    → AreNumbered (length tasks) writes → IsFirstShared writes (Some path)
    → ns ≡ numbers_beside writes path → IsTwoLeast tasks ns two → refusal ≡ Overlap path (task_at tasks two.0) (task_at tasks two.1)
    → FindsOverlap (OfTask tasks (Stands writes)) (Some refusal)
overlap_told tasks writes path ns two refusal distinct numbered shared e h is =
    let found : FindsOverlap (OfTask tasks (Stands writes)) (Some (Overlap path (task_at tasks two.0) (task_at tasks two.1))) =
    overlap_least tasks writes path two.0 two.1 distinct numbered shared (subst (λ (xs : List ℕ). IsTwoLeast tasks xs two) e h) in
    subst (λ (r : Refusal). FindsOverlap (OfTask tasks (Stands writes)) (Some r)) (sym is) found
