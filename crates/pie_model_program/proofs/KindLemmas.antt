-- The kind of a path by its first segment and whether it has more.
use Rattle.std.proofs.Common.{ℕ, ◌≡◌, Bool, true, false, cond, eqb, List, [], ◌∷◌, sym, ◌∙◌, ap, ap₂, refl, codes, bytes_eq}
use Rattle.pie_model.specs.Paths.{Path, among, longer_first, segments, below_out, kept_names, kind_by, kind_of, first_segment}
use Rattle.pie_model.specs.declared.words.Kind.{Kind}
use Rattle.pie_model.specs.declared.words.Kind.TheVariants.{Out, Kept, Source}
use Rattle.pie_model_program.specs.Kinds.{has_slash}

-- the segments after the first
abbrev later : Path → List (List ℕ)
later [] = []
later (c ∷ p) = cond (eqb c 47) (segments p) (later p)

segments_are : (p : Path) → segments p ≡ first_segment p ∷ later p
segments_are [] = refl
segments_are (c ∷ p) = go (eqb c 47) (segments_are p)
  where
    go : (b : Bool) → segments p ≡ first_segment p ∷ later p
        → cond b ([] ∷ segments p) (longer_first c (segments p)) ≡ cond b [] (c ∷ first_segment p) ∷ cond b (segments p) (later p)
    go true e = refl
    go false e = ap (longer_first c) e

below_later : (p : Path) → below_out (later p) ≡ cond (has_slash p) Out Kept
below_later [] = refl
below_later (c ∷ p) = go (eqb c 47) (below_later p)
  where
    go : (b : Bool) → below_out (later p) ≡ cond (has_slash p) Out Kept → below_out (cond b (segments p) (later p))
        ≡ cond (cond b true (has_slash p)) Out Kept
    go true e = ap below_out (segments_are p)
    go false e = e

pub kind_is : (p : Path) (out more kept : Bool) (k : Kind) → out ≡ bytes_eq (first_segment p) (codes "out") → more ≡ has_slash p → kept
    ≡ among (first_segment p) kept_names
    → k ≡ cond out (cond more Out Kept) (cond kept Kept Source) → k ≡ kind_of p
unfolding kind_of
kind_is p out more kept k a b c d =
    d ∙ ap (λ x. cond x (cond more Out Kept) (cond kept Kept Source)) a
    ∙ ap₂ (λ x y. cond (bytes_eq (first_segment p) (codes "out")) x (cond y Kept Source)) (ap (λ x. cond x Out Kept) b ∙ sym (below_later p)) c
    ∙ sym (ap kind_by (segments_are p))
