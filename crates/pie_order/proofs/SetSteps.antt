-- A number joins a set or leaves it; the first of the reached members.
use Rattle.std.proofs.Common.{◌≡◌, ◌≢◌, ◌⊎◌, ℕ, ◌<◌, ◌≤◌, ◌+◌, Bool, true, false, cond, List, [], ◌∷◌, ◌++◌, Option, Some, None, length, map, refl, sym, ap}
use Rattle.std.proofs.Common.{◌∙◌, subst, inl, inr, arith}
use Rattle.std.specs.Prelude.{slice_index, MatchOption}
use Rattle.std.specs.declared.cmp.Ordering.{Ordering}
use Rattle.std.specs.declared.cmp.Ordering.TheVariants.{Less, Equal, Greater}
use Rattle.std.specs.Ordering.{nat_cmp, is_eq}
use Rattle.std.specs.List.{Contains}
use Rattle.std.specs.BTreeSet.{BTreeSet, contains}
use Rattle.std.proofs.lemmas.Cmp.{nat_cmp_total, tied_itself}
use Rattle.std.proofs.lemmas.List.{append_assoc, map-append}
use Rattle.std.proofs.lemmas.Map.Lookups.{exact_unsigned}
use Rattle.std.proofs.lemmas.Map.Views.{btree_set_contains_iff}
use Rattle.pie_graph.specs.declared.edges.TaskNo.{TaskNo}
use Rattle.pie_graph.specs.Numbers.{numbers}
use Rattle.pie_graph.specs.Rows.{Row, Calls}
use Rattle.pie_graph.proofs.Among.{contains_here}
use Rattle.pie_reach.specs.inner.Reaches.{Leads, Reaches, ReachesNone}
use Rattle.pie_reach.specs.inner.Reaches.Leads.{itself, step}
use Rattle.pie_reach.specs.inner.Walks.{IsClosure}
use Rattle.pie_reach.specs.inner.LeastKey.{IsBest}
use Rattle.pie_reach.proofs.Meets.{alone}
use Rattle.pie_reach.proofs.HeightFacts.{leads_trans}
use Rattle.pie_order.specs.Places.{PlacesAgree}
use Rattle.pie_order.specs.Candidates.{Joins, Leaves, StandsFirst}

equal : (o : Ordering) → is_eq o ≡ true → o ≡ Equal
equal Less e = cc
equal Equal e = refl
equal Greater e = cc

tied : (a b : ℕ) → is_eq (nat_cmp a b) ≡ true → a ≡ b
tied a b h = exact_unsigned a b (equal (nat_cmp a b) h)

true_or_false : (b : Bool) → (b ≡ true) ⊎ (b ≡ false)
true_or_false true = inl refl
true_or_false false = inr refl

pub has : (s : BTreeSet ℕ) (n : ℕ) → Contains s.keys n → contains nat_cmp s n ≡ true
has s n h = (btree_set_contains_iff nat_cmp_total exact_unsigned s n).1 h

pub is_in : (s : BTreeSet ℕ) (n : ℕ) → contains nat_cmp s n ≡ true → Contains s.keys n
is_in s n h = (btree_set_contains_iff nat_cmp_total exact_unsigned s n).0 h

-- the test for one key, and what it makes of the answer
chosen : (same w old now : Bool) → now ≡ cond same w old → same ≡ false → now ≡ old
chosen same w old now e f = e ∙ ap (λ b. cond b w old) f

picked : (same w old now : Bool) → now ≡ cond same w old → same ≡ true → now ≡ w
picked same w old now e f = e ∙ ap (λ b. cond b w old) f

pub joins : (old new : BTreeSet ℕ) (task : ℕ) → ((q : ℕ) → contains nat_cmp new q ≡ cond (is_eq (nat_cmp task q)) true (contains nat_cmp old q))
    → Joins old.keys new.keys task
joins old new task up = record {
  kept = λ n h. elim (true_or_false (is_eq (nat_cmp task n))) [
    | inl s ↦ is_in new n (picked (is_eq (nat_cmp task n)) true (contains nat_cmp old n) (contains nat_cmp new n) (up n) s)
    | inr o ↦ is_in new n (chosen (is_eq (nat_cmp task n)) true (contains nat_cmp old n) (contains nat_cmp new n) (up n) o ∙ has old n h)
  ];
  joined = is_in new task (picked (is_eq (nat_cmp task task)) true (contains nat_cmp old task) (contains nat_cmp new task) (up task)
      (ap is_eq (tied_itself nat_cmp_total task)));
  only = λ n h. elim (true_or_false (is_eq (nat_cmp task n))) [
    | inl s ↦ inr (sym (tied task n s))
    | inr o ↦ inl (is_in old n (sym (chosen (is_eq (nat_cmp task n)) true (contains nat_cmp old n) (contains nat_cmp new n) (up n) o) ∙ has new n h))
  ];
}

pub leaves : (old new : BTreeSet ℕ) (task : ℕ) → ((q : ℕ) → contains nat_cmp new q ≡ cond (is_eq (nat_cmp task q)) false (contains nat_cmp old q))
    → Leaves old.keys new.keys task
leaves old new task up = record {
  kept = λ n h ne. elim (true_or_false (is_eq (nat_cmp task n))) [
    | inl s ↦ absurd (ne (sym (tied task n s)))
    | inr o ↦ is_in new n (chosen (is_eq (nat_cmp task n)) false (contains nat_cmp old n) (contains nat_cmp new n) (up n) o ∙ has old n h)
  ];
  only = λ n h. elim (true_or_false (is_eq (nat_cmp task n))) [
    | inl s ↦
        let gone = picked (is_eq (nat_cmp task n)) false (contains nat_cmp old n) (contains nat_cmp new n) (up n) s in
        let clash : true ≡ false = sym (has new n h) ∙ gone in absurd (cc)
    | inr o ↦ (
      is_in old n (sym (chosen (is_eq (nat_cmp task n)) false (contains nat_cmp old n) (contains nat_cmp new n) (up n) o) ∙ has new n h),
      λ e. let same : is_eq (nat_cmp task n) ≡ true = ap (λ (m : ℕ). is_eq (nat_cmp task m)) e ∙ ap is_eq (tied_itself nat_cmp_total task) in
          let clash : true ≡ false = sym same ∙ o in absurd (cc),
    )
  ];
}

-- below on the way down, the places fall
place_le : (rows : List Row) (places : List ℕ) → PlacesAgree rows places → (a b : ℕ) → Reaches rows a b → slice_index places b ≤ slice_index places a
place_le rows places agrees a b (itself {a = c}) = omega arith
place_le rows places agrees a b (step {a = x} {b = y} {c = z} first rest) = omega (arith, agrees.each a y first, place_le rows places agrees y b rest)

place_falls : (rows : List Row) (places : List ℕ) → PlacesAgree rows places → (a b : ℕ) → Reaches rows a b → (b ≡ a) ⊎ (slice_index places b < slice_index places a)
place_falls rows places agrees a b (itself {a = c}) = inl refl
place_falls rows places agrees a b (step {a = x} {b = y} {c = z} first rest) = inr (omega (arith, agrees.each a y first, place_le rows places agrees y b rest))

pub none_reached : (rows : List Row) (members keys : List ℕ) (root : ℕ) (marks : List Bool) → IsClosure (length rows) (Calls rows) (root ∷ []) marks
    → IsBest members marks keys None → ReachesNone rows members root
none_reached rows members keys root marks closed none = λ n member reached. none n member (closed.each n (root, contains_here root [], reached))

pub first_reached : (rows : List Row) (places members : List ℕ) (root : ℕ) (marks : List Bool) (first : TaskNo) → PlacesAgree rows places
    → IsClosure (length rows) (Calls rows) (root ∷ []) marks → IsBest members marks places (Some first) → StandsFirst rows places members root first.0
first_reached rows places members root marks first agrees closed best =
    let led = closed.only first.0 best.1 in
    let reached : Reaches rows root first.0 = subst (λ (s : ℕ). Reaches rows s first.0) (sym (alone root led.0 led.1)) led.2 in
    let stands : (other : ℕ) → Contains members other → Reaches rows root other → slice_index places first.0 ≤ slice_index places other =
    λ other member down. best.2 other member (closed.each other (root, contains_here root [], down)) in
    record {
      member = best.0;
      reached = reached;
      first = stands;
      alone = λ other member down. elim (place_falls rows places agrees first.0 other down) [
        | inl e ↦ e
        | inr falls ↦ absurd (omega (arith, falls, stands other member (leads_trans (Calls rows) root first.0 other reached down)))
      ];
    }

pub list_more : (list : List TaskNo) (task : TaskNo) (n : ℕ) (left rest all : List ℕ) → task.0 ≡ n → left ≡ n ∷ rest → numbers list ++ left ≡ all
    → numbers (list ++ task ∷ []) ++ rest ≡ all
list_more list task n left rest all same split h =
    ap (λ (ns : List ℕ). ns ++ rest) (map-append (λ (t : TaskNo). t.0) list (task ∷ [])) ∙ append_assoc (numbers list) (task.0 ∷ []) rest
    ∙ ap (λ m. numbers list ++ (m ∷ rest)) same ∙ ap (λ (ns : List ℕ). numbers list ++ ns) (sym split) ∙ h

pub best_is : (ns members : List ℕ) (ms marks : List Bool) (ks places : List ℕ) (found : Option TaskNo) → ns ≡ members → ms ≡ marks → ks ≡ places
    → IsBest ns ms ks found → IsBest members marks places found
best_is ns members ms marks ks places found a b c best =
    subst (λ (x : List ℕ). IsBest x marks places found) a (subst (λ (x : List Bool). IsBest ns x places found) b
    (subst (λ (x : List ℕ). IsBest ns ms x found) c best))
