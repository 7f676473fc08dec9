-- The places of the last checks, said of tasks of the language and of their canonical bytes.
use Rattle.std.proofs.Common.{◌≡◌, ℕ, true, false, Option, Some, None, List, [], refl, sym, ap, subst, ◌∙◌}
use Rattle.std.specs.declared.cmp.Ordering.{Ordering}
use Rattle.std.specs.declared.cmp.Ordering.TheVariants.{Less, Equal, Greater}
use Rattle.std.specs.Cmp.Lexicographic.{slice_cmp}
use Rattle.std.specs.Ordering.{nat_cmp, is_lt, is_gt, ordering_then}
use Rattle.std.specs.List.{Contains}
use Rattle.std.proofs.lemmas.Cmp.{tied_itself, nat_list_cmp_total}
use Rattle.std.proofs.lemmas.Map.Lookups.{exact_bytes}
use Rattle.pie_value.specs.declared.task.Task.{Task}
use Rattle.pie_value.specs.declared.verdict.Refusal.{Refusal}
use Rattle.pie_value.specs.declared.verdict.Refusal.TheVariants as refusals
use Rattle.pie_value.specs.Canonical.{enc_task, IsCanonicalTask}
use Rattle.pie_checks.specs.Refusals.{Paths, Overlaps, IsProvided, Nests, Hides, place_order, pair_order, IsLeastPlace, IsLeastPair, FindsFirst}
use Rattle.pie_checks.specs.Refusals.{NoPlace as NoPlaceOf, NoPair}
use Rattle.pie_model.specs.Verdict.{comes_before}
use Rattle.pie_check_laws.specs.Findings.{BothWrote, IsWritten, StandBelow, SawAbsent, Places, NoPlace, IsFirstPlace, IsJudged, listed}
use Rattle.pie_check_laws.specs.Verdicts.{AreTheSame, verdict_by}
use Rattle.pie_model_pipeline.proofs.Joining.{tasks_told}
use Rattle.pie_check_laws.proofs.Order.{finding_order, turned, then_equal}
use Rattle.pie_check_laws.proofs.PathKinds.{below_is}

-- ---- the same paths, with tasks and with their canonical bytes

-- the entries are the paths of these tasks, each task by its canonical bytes
pub record AreEntries (R : Paths) (entries : List (List ℕ × List ℕ)) : Type 0 where
  pub canonical : (p : List ℕ) (t : Task) → R p t → IsCanonicalTask t (enc_task t)
  pub to : (p : List ℕ) (t : Task) → R p t → Contains entries (p, enc_task t)
  pub back : (p u : List ℕ) → Contains entries (p, u) → (t : Task) × (enc_task t ≡ u) × R p t

pub same_entries : (R : Paths) (entries : List (List ℕ × List ℕ)) → AreEntries R entries → AreTheSame R entries
same_entries R entries a p u =
    (λ h. a.back p u h, λ r. subst (λ z. Contains entries (p, z)) r.1 (a.to p r.0 r.2))

-- ---- orders

-- what comes first of two by one order and not after by the other
less_of_two : (o r : Ordering) → (o ≡ Equal → ⊥) → is_gt (ordering_then o r) ≡ false → is_lt o ≡ true
less_of_two Less r h k = refl
less_of_two Equal r h k = absurd (h refl)
less_of_two Greater r h k = cc

-- a finding with two tasks doesn't come after another where its place doesn't
place_first : (p q : List ℕ) (a b c d : Task) (t u : List ℕ) → enc_task c ≡ t → enc_task d ≡ u → is_gt (place_order p a b q c d) ≡ false
    → comes_before (record { path = q; first = t; second = u }) (record { path = p; first = enc_task a; second = enc_task b }) ≡ false
place_first p q a b c d t u e f h =
    turned (record { path = p; first = enc_task a; second = enc_task b }) (record { path = q; first = t; second = u })
    ∙ (λ i. is_gt (finding_order (record { path = p; first = enc_task a; second = enc_task b }) (record { path = q; first = sym e i; second = sym f i })))
    ∙ h

-- the same with two paths
pair_first : (p q r s n : List ℕ) → n ≡ [] → is_gt (pair_order p q r s) ≡ false
    → comes_before (record { path = r; first = s; second = n }) (record { path = p; first = q; second = [] }) ≡ false
pair_first p q r s n e h =
    turned (record { path = p; first = q; second = [] }) (record { path = r; first = s; second = n })
    ∙ ap (λ (z : List ℕ). is_gt (finding_order (record { path = p; first = q; second = [] }) (record { path = r; first = s; second = z }))) e
    ∙ ap (λ o. is_gt (ordering_then (slice_cmp nat_cmp p r) o)) (then_equal (slice_cmp nat_cmp q s))
    ∙ h

-- ---- places

-- each place of bytes is one of tasks
abbrev AreTasks : Places → (List ℕ → Task → Task → Type 0) → Type 0
AreTasks S R = (p t u : List ℕ) → S p t u → (a : Task) × (b : Task) × (enc_task a ≡ t) × (enc_task b ≡ u) × R p a b

no_place : (S : Places) (R : List ℕ → Task → Task → Type 0) → AreTasks S R → NoPlaceOf R → NoPlace S
no_place S R from h p t u s = let m = from p t u s in h p m.0 m.1 m.4

first_place : (S : Places) (R : List ℕ → Task → Task → Type 0) → AreTasks S R → (p : List ℕ) (a b : Task) → S p (enc_task a) (enc_task b)
    → IsLeastPlace R p a b → IsFirstPlace S p (enc_task a) (enc_task b)
first_place S R from p a b s h = record {
  holds = s;
  first = λ f k. let m = from f.path f.first f.second k in
      place_first p f.path a b m.0 m.1 f.first f.second m.2 m.3 (h.least f.path m.0 m.1 m.4);
}

module _ (wrote missed : Paths) (written unseen : List (List ℕ × List ℕ)) (W : AreEntries wrote written) (M : AreEntries missed unseen) where
  -- two tasks with one path

  overlaps_are : AreTasks (BothWrote (listed written)) (Overlaps wrote)
  overlaps_are p t u s =
      let m = W.back p t s.0 in
      let n = W.back p u s.1 in
      (m.0, n.0, m.1, n.1, (m.2, n.2, λ e. apart (sym m.1 ∙ ap enc_task e ∙ n.1) s.2))
    where
      apart : t ≡ u → is_lt (slice_cmp nat_cmp t u) ≡ true → ⊥
      apart e h = let tied : slice_cmp nat_cmp t u ≡ Equal = ap (slice_cmp nat_cmp t) (sym e) ∙ tied_itself nat_list_cmp_total t in
          let off : is_lt (slice_cmp nat_cmp t u) ≡ false = ap is_lt tied in absurd (cc)

  overlap_first : (p : List ℕ) (a b : Task) → IsLeastPlace (Overlaps wrote) p a b → IsFirstPlace (BothWrote (listed written)) p (enc_task a) (enc_task b)
  overlap_first p a b h =
      first_place (BothWrote (listed written)) (Overlaps wrote) overlaps_are p a b (W.to p a h.holds.0, W.to p b h.holds.1, less) h
    where
      other : slice_cmp nat_cmp (enc_task a) (enc_task b) ≡ Equal → ⊥
      other e = h.holds.2 (tasks_told a b (W.canonical p a h.holds.0) (W.canonical p b h.holds.1) (exact_bytes (enc_task a) (enc_task b) e))

      less : is_lt (slice_cmp nat_cmp (enc_task a) (enc_task b)) ≡ true
      less = less_of_two (slice_cmp nat_cmp (enc_task a) (enc_task b)) (slice_cmp nat_cmp (enc_task b) (enc_task a)) other
          (ap (λ o. is_gt (ordering_then o (ordering_then (slice_cmp nat_cmp (enc_task a) (enc_task b)) (slice_cmp nat_cmp (enc_task b) (enc_task a)))))
          (sym (tied_itself nat_list_cmp_total p)) ∙ h.least p b a (h.holds.1, h.holds.0, λ e. h.holds.2 (sym e)))

  -- a path below another

  provided_is : (p : List ℕ) → IsWritten (listed written) p → IsProvided wrote p
  provided_is p s = let m = W.back p s.0 s.1 in (m.0, m.2)

  written_is : (p : List ℕ) → IsProvided wrote p → IsWritten (listed written) p
  written_is p s = (enc_task s.0, W.to p s.0 s.1)

  nests_are : (p q n : List ℕ) → StandBelow (listed written) p q n → Nests (IsProvided wrote) p q
  nests_are p q n s = (provided_is p s.0, provided_is q s.1, sym (below_is p q) ∙ s.2)

  none_nested : NoPair (Nests (IsProvided wrote)) → NoPlace (StandBelow (listed written))
  none_nested h p q n s = h p q (nests_are p q n s)

  nested_first : (p q : List ℕ) → IsLeastPair (Nests (IsProvided wrote)) p q → IsFirstPlace (StandBelow (listed written)) p q []
  nested_first p q h = record {
    holds = (written_is p h.holds.0, written_is q h.holds.1, below_is p q ∙ h.holds.2, refl);
    first = λ f k. pair_first p q f.path f.first f.second k.3 (h.least f.path f.first (nests_are f.path f.first f.second k));
  }

  -- a path that was seen absent

  hides_are : AreTasks (SawAbsent (listed written) (listed unseen)) (Hides wrote missed)
  hides_are p t u s =
      let m = M.back p t s.0 in
      let n = W.back p u s.1 in
      (m.0, n.0, m.1, n.1, (m.2, n.2, λ e. s.2 (sym m.1 ∙ ap enc_task e ∙ n.1)))

  hidden_first : (p : List ℕ) (a b : Task) → IsLeastPlace (Hides wrote missed) p a b
      → IsFirstPlace (SawAbsent (listed written) (listed unseen)) p (enc_task a) (enc_task b)
  hidden_first p a b h =
      first_place (SawAbsent (listed written) (listed unseen)) (Hides wrote missed) hides_are p a b
      (M.to p a h.holds.0, W.to p b h.holds.1, λ e. h.holds.2 (tasks_told a b (M.canonical p a h.holds.0) (W.canonical p b h.holds.1) e)) h

  -- the first refusal

  pub judged_by : (answer : Option Refusal) → FindsFirst wrote missed answer → IsJudged (listed written) (listed unseen) (verdict_by answer)
  judged_by None h = (no_place _ _ overlaps_are h.0, none_nested h.1, no_place _ _ hides_are h.2)
  judged_by (Some (refusals.Overlap p a b)) h = overlap_first p a b h
  judged_by (Some (refusals.Nested p q)) h = (no_place _ _ overlaps_are h.0, nested_first p q h.1)
  judged_by (Some (refusals.Hidden p a b)) h = (no_place _ _ overlaps_are h.0, none_nested h.1, hidden_first p a b h.2)
  judged_by (Some (refusals.Fault f)) h = absurd h
  judged_by (Some (refusals.Cycle ts)) h = absurd h
  judged_by (Some refusals.Many) h = absurd h
