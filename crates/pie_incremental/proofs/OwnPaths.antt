-- The plan's own paths.
use Rattle.std.proofs.Common.{◌≡◌, Bool, true, false, refl, ap, ◌∙◌}
use Rattle.std.specs.Prelude.{◌&&◌, ◌||◌}
use Rattle.std.proofs.lemmas.Bool.{false≢true}
use Rattle.pie_base.specs.Path.{same_text}
use Rattle.pie_commit.specs.declared.plan.Plan.{Plan}
use Rattle.pie_commit.specs.inner.Plans.{has_own_places}
use Rattle.pie_commit.proofs.Standing.{same_path}
use Rattle.pie_incremental.specs.Own.{open_path, store_path, pending_path}

pub and_left : (a b : Bool) → (a && b) ≡ true → a ≡ true
and_left true b e = refl
and_left false b e = e

pub and_right : (a b : Bool) → (a && b) ≡ true → b ≡ true
and_right true b e = e
and_right false b e = absurd (false≢true e)

pub or_left : (a b : Bool) → (a || b) ≡ false → a ≡ false
or_left true b e = e
or_left false b e = refl

pub or_right : (a b : Bool) → (a || b) ≡ false → b ≡ false
or_right true b e = cc
or_right false b e = e

pub five_off : (a b c d e : Bool) → a ≡ false → b ≡ false → c ≡ false → d ≡ false → e ≡ false → (a || b || c || d || e) ≡ false
five_off a b c d e p q r s t =
    ap (λ x. x || b || c || d || e) p ∙ ap (λ x. false || x || c || d || e) q ∙ ap (λ x. false || false || x || d || e) r
    ∙ ap (λ x. false || false || false || x || e) s ∙ ap (λ x. false || false || false || false || x) t

pub record Places (p : Plan) : Type 0 where
  pub marker : p.marker ≡ open_path
  pub store : p.place ≡ store_path
  pub names : p.names_place ≡ pending_path

pub places : (p : Plan) → has_own_places p ≡ true → Places p
places p h =
    let a = same_text p.marker open_path in
    let b = same_text p.place store_path in
    let c = same_text p.names_place pending_path in
    record {
      marker = same_path p.marker open_path (and_left a b (and_left (a && b) c h));
      store = same_path p.place store_path (and_right a b (and_left (a && b) c h));
      names = same_path p.names_place pending_path (and_right (a && b) c h);
    }
