-- The paths of a sound plan that aren't the marker.
use Rattle.std.proofs.Common.{◌≡◌, ℕ, Bool, true, false, List, [], ◌∷◌, refl, sym, ap, ◌∙◌, Vec, Global}
use Rattle.std.specs.Prelude.{not, ◌&&◌, ◌||◌, codes}
use Rattle.std.specs.List.{list_all, list_any}
use Rattle.std.proofs.lemmas.Bool.{false≢true}
use Rattle.pie_base.specs.Path.{same_text, is_out}
use Rattle.pie_commit.specs.declared.plan.Plan.{Plan}
use Rattle.pie_commit.specs.inner.Plans.{may_be_written, is_sound, is_own, is_inner}
use Rattle.pie_commit.proofs.Standing.{same_path, same_itself}

left_of : (a b : Bool) → (a && b) ≡ true → a ≡ true
left_of true b e = refl
left_of false b e = absurd (cc)

right_of : (a b : Bool) → (a && b) ≡ true → b ≡ true
right_of true b e = e
right_of false b e = absurd (cc)

-- the five parts of soundness
pub record Parts (a b c d e : Bool) : Type 0 where
  pub first : a ≡ true
  pub second : b ≡ true
  pub third : c ≡ true
  pub fourth : d ≡ true
  pub fifth : e ≡ true

parts_of : (a b c d e : Bool) → (a && b && c && d && e) ≡ true → Parts a b c d e
parts_of true true true true true h = record { first = refl; second = refl; third = refl; fourth = refl; fifth = refl }
parts_of true true true true false h = absurd (cc)
parts_of true true true false e h = absurd (cc)
parts_of true true false d e h = absurd (cc)
parts_of true false c d e h = absurd (cc)
parts_of false b c d e h = absurd (cc)

sound_parts : (p : Plan) → is_sound p ≡ true → Parts (same_text p.marker (codes ".pie/open")) (same_text p.place (codes ".pie/store"))
    (same_text p.names_place (codes ".pie/pending")) (list_all is_out p.removals.items) (list_all (λ w. may_be_written w.0) p.writes.items)
sound_parts p sound = parts_of (same_text p.marker (codes ".pie/open")) (same_text p.place (codes ".pie/store"))
    (same_text p.names_place (codes ".pie/pending")) (list_all is_out p.removals.items) (list_all (λ w. may_be_written w.0) p.writes.items) sound

marker_is : (p : Plan) → is_sound p ≡ true → p.marker ≡ codes ".pie/open"
marker_is p sound = same_path p.marker (codes ".pie/open") (sound_parts p sound).first

-- a path for which a test holds that fails for the marker
not_marker : (test : List ℕ → Bool) (p : Plan) (q : List ℕ) → is_sound p ≡ true → test (codes ".pie/open") ≡ false → test q ≡ true
    → same_text p.marker q ≡ false
not_marker test p q sound off on = elim (same_text p.marker q) as (λ b. same_text p.marker q ≡ b → b ≡ false) [
  | true ↦ λ e. absurd (false≢true (sym off ∙ ap test (sym (marker_is p sound) ∙ same_path p.marker q e) ∙ on))
  | false ↦ λ e. refl
] refl

inner_by : (a b : Bool) → a ≡ true → b ≡ false → (a && not b) ≡ true
inner_by true false e f = refl
inner_by true true e f = absurd (cc)
inner_by false b e f = absurd (cc)

or_right : (a b : Bool) → b ≡ true → (a || b) ≡ true
or_right true b e = refl
or_right false b e = e

or_left : (a b : Bool) → a ≡ true → (a || b) ≡ true
or_left true b e = refl
or_left false b e = absurd (cc)

by_second : (a b c d e : Bool) → b ≡ true → (a || b || c || d || e) ≡ true
by_second true b c d e h = refl
by_second false true c d e h = refl
by_second false false c d e h = absurd (cc)

by_third : (a b c d e : Bool) → c ≡ true → (a || b || c || d || e) ≡ true
by_third true b c d e h = refl
by_third false true c d e h = refl
by_third false false true d e h = refl
by_third false false false d e h = absurd (cc)

by_fourth : (a b c d e : Bool) → d ≡ true → (a || b || c || d || e) ≡ true
by_fourth a b c d e h = or_left (a || b || c || d) e (or_right (a || b || c) d h)

by_fifth : (a b c d e : Bool) → e ≡ true → (a || b || c || d || e) ≡ true
by_fifth a b c d e h = or_right (a || b || c || d) e h

pub place_inner : (p : Plan) → is_sound p ≡ true → is_inner p p.place ≡ true
place_inner p sound =
    let q = p.place in
    inner_by (is_own p q) (same_text p.marker q)
    (by_second (same_text q p.marker) (same_text q p.place) (same_text q p.names_place) (list_any (same_text q) p.removals.items)
    (list_any (λ w. same_text q w.0) p.writes.items) (same_itself q))
    (not_marker (λ r. same_text r (codes ".pie/store")) p q sound refl (sound_parts p sound).second)

pub names_inner : (p : Plan) → is_sound p ≡ true → is_inner p p.names_place ≡ true
names_inner p sound =
    let q = p.names_place in
    inner_by (is_own p q) (same_text p.marker q)
    (by_third (same_text q p.marker) (same_text q p.place) (same_text q p.names_place) (list_any (same_text q) p.removals.items)
    (list_any (λ w. same_text q w.0) p.writes.items) (same_itself q))
    (not_marker (λ r. same_text r (codes ".pie/pending")) p q sound refl (sound_parts p sound).third)

-- each of these is a path of the plan and not the marker
abbrev pub AllInner : Plan → List (List ℕ) → Type 0
AllInner p [] = Unit {0}
AllInner p (q ∷ paths) = (is_inner p q ≡ true) × AllInner p paths

abbrev pub AllInnerWrites : Plan → List (List ℕ × Vec ℕ Global) → Type 0
AllInnerWrites p [] = Unit {0}
AllInnerWrites p (w ∷ writes) = (is_inner p w.0 ≡ true) × AllInnerWrites p writes

removal_own : (p : Plan) (q : List ℕ) → list_any (same_text q) p.removals.items ≡ true → is_own p q ≡ true
removal_own p q e = by_fourth (same_text q p.marker) (same_text q p.place) (same_text q p.names_place) (list_any (same_text q) p.removals.items)
    (list_any (λ w. same_text q w.0) p.writes.items) e

write_own : (p : Plan) (q : List ℕ) → list_any (λ w. same_text q w.0) p.writes.items ≡ true → is_own p q ≡ true
write_own p q e = by_fifth (same_text q p.marker) (same_text q p.place) (same_text q p.names_place) (list_any (same_text q) p.removals.items)
    (list_any (λ w. same_text q w.0) p.writes.items) e

each_removal : (p : Plan) → is_sound p ≡ true → (paths : List (List ℕ)) → list_all is_out paths ≡ true
    → ((q : List ℕ) → list_any (same_text q) paths ≡ true → list_any (same_text q) p.removals.items ≡ true) → AllInner p paths
each_removal p sound [] out among = tt
each_removal p sound (q ∷ paths) out among = (
  inner_by (is_own p q) (same_text p.marker q) (removal_own p q (among q (or_left (same_text q q) _ (same_itself q))))
      (not_marker is_out p q sound refl (left_of (is_out q) _ out)),
  each_removal p sound paths (right_of (is_out q) _ out) (λ r e. among r (or_right (same_text r q) _ e)),
)

pub removals_inner : (p : Plan) → is_sound p ≡ true → AllInner p p.removals.items
removals_inner p sound = each_removal p sound p.removals.items (sound_parts p sound).fourth (λ q e. e)

each_write : (p : Plan) → is_sound p ≡ true → (writes : List (List ℕ × Vec ℕ Global)) → list_all (λ w. may_be_written w.0) writes ≡ true
    → ((q : List ℕ) → list_any (λ w. same_text q w.0) writes ≡ true → list_any (λ w. same_text q w.0) p.writes.items ≡ true) → AllInnerWrites p writes
each_write p sound [] out among = tt
each_write p sound (w ∷ writes) out among = (
  inner_by (is_own p w.0) (same_text p.marker w.0) (write_own p w.0 (among w.0 (or_left (same_text w.0 w.0) _ (same_itself w.0))))
      (not_marker may_be_written p w.0 sound refl (left_of (may_be_written w.0) _ out)),
  each_write p sound writes (right_of (may_be_written w.0) _ out) (λ r e. among r (or_right (same_text r w.0) _ e)),
)

pub writes_inner : (p : Plan) → is_sound p ≡ true → AllInnerWrites p p.writes.items
writes_inner p sound = each_write p sound p.writes.items (sound_parts p sound).fifth (λ q e. e)
