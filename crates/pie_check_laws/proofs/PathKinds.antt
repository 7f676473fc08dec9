-- The paths of the model and of the language: which lie under `out`, and which below another.
use Rattle.std.proofs.Common.{◌≡◌, ℕ, ◌==◌, Bool, true, false, cond, ◌&&◌, Some, None, List, [], ◌∷◌, ◌++◌, bytes_eq, refl, sym, ap, ◌∙◌}
use Rattle.std.specs.Prelude.{is_some, codes}
use Rattle.std.proofs.lemmas.Cmp.{nat_eq_equiv}
use Rattle.std.proofs.lemmas.Bool.Decides.{Decides-eqb}
use Rattle.pie_base.specs.Path.{is_out, is_below, rest_below}
use Rattle.pie_model.specs.declared.words.Kind.{Kind}
use Rattle.pie_model.specs.declared.words.Kind.TheVariants.{Out, Kept, Source}
use Rattle.pie_model.specs.Paths.{among, after_prefix, longer_first, segments, below_out, kept_names, kind_by, kind_of}

eqb_turned : (a b : ℕ) → (a == b) ≡ (b == a)
eqb_turned a b = nat_eq_equiv.symm a b

-- what follows a path and a slash is what is left below the path
pub rest_is : (p q : List ℕ) → after_prefix (p ++ 47 ∷ []) q ≡ rest_below p q
rest_is [] [] = refl
rest_is [] (b ∷ q) = ap (λ t. cond t (Some q) None) (eqb_turned 47 b)
rest_is (d ∷ p) [] = refl
rest_is (d ∷ p) (b ∷ q) = ap (λ o. cond (d == b) o None) (rest_is p q)

pub below_is : (p q : List ℕ) → is_some (after_prefix (p ++ 47 ∷ []) q) ≡ is_below p q
below_is p q = ap is_some (rest_is p q)

-- ---- segments

-- there is one
abbrev has_one : List (List ℕ) → Bool
has_one [] = false
has_one (x ∷ rest) = true

-- the first is this, and another follows
abbrev begin_with : List ℕ → List (List ℕ) → Bool
begin_with s [] = false
begin_with s (x ∷ rest) = cond (bytes_eq x s) (has_one rest) false

-- no byte of it is a slash
abbrev is_unparted : List ℕ → Bool
is_unparted [] = true
is_unparted (d ∷ s) = cond (d == 47) false (is_unparted s)

same_both : (t : Bool) → cond t false false ≡ false
same_both true = refl
same_both false = refl

longer_has : (b : ℕ) (ss : List (List ℕ)) → has_one (longer_first b ss) ≡ true
longer_has b [] = refl
longer_has b (x ∷ rest) = refl

segments_has : (p : List ℕ) → has_one (segments p) ≡ true
segments_has [] = refl
segments_has (b ∷ p) = by (b == 47)
  where
    by : (t : Bool) → has_one (cond t ([] ∷ segments p) (longer_first b (segments p))) ≡ true
    by true = refl
    by false = longer_has b (segments p)

longer_no_empty : (b : ℕ) (ss : List (List ℕ)) → begin_with [] (longer_first b ss) ≡ false
longer_no_empty b [] = refl
longer_no_empty b (x ∷ rest) = refl

longer_begins : (d b : ℕ) (s : List ℕ) (ss : List (List ℕ)) → begin_with (d ∷ s) (longer_first b ss) ≡ cond (d == b) (begin_with s ss) false
longer_begins d b s [] = same_both (bytes_eq (b ∷ []) (d ∷ s)) ∙ sym (same_both (d == b))
longer_begins d b s (x ∷ rest) = ap (λ t. cond (t && bytes_eq x s) (has_one rest) false) (eqb_turned b d) ∙ by (d == b)
  where
    by : (t : Bool) → cond (t && bytes_eq x s) (has_one rest) false ≡ cond t (cond (bytes_eq x s) (has_one rest) false) false
    by true = refl
    by false = refl

pub begins : (s : List ℕ) → is_unparted s ≡ true → (p : List ℕ) → begin_with s (segments p) ≡ is_below s p
begins [] u [] = refl
begins [] u (b ∷ p) = by (b == 47)
  where
    by : (t : Bool) → begin_with [] (cond t ([] ∷ segments p) (longer_first b (segments p))) ≡ is_some (cond t (Some p) None)
    by true = segments_has p
    by false = longer_no_empty b (segments p)
begins (d ∷ s) u [] = refl
begins (d ∷ s) u (b ∷ p) = by (b == 47) refl (d == 47) refl u (begins s)
  where
    other : (t : Bool) → begin_with s (segments p) ≡ is_below s p → cond t (begin_with s (segments p)) false ≡ is_some (cond t (rest_below s p) None)
    other true e = e
    other false e = refl

    apart : (d == 47) ≡ false → (b == 47) ≡ true → (d == b) ≡ false
    apart h k = ap (λ z. d == z) ((Decides-eqb b 47).0 k) ∙ h

    by : (t : Bool) → (b == 47) ≡ t → (v : Bool) → (d == 47) ≡ v → cond v false (is_unparted s) ≡ true
        → (is_unparted s ≡ true → (q : List ℕ) → begin_with s (segments q) ≡ is_below s q)
        → begin_with (d ∷ s) (cond t ([] ∷ segments p) (longer_first b (segments p))) ≡ is_some (cond (d == b) (rest_below s p) None)
    by t e true k u r = cc
    by true e false k u r = ap (λ z. is_some (cond z (rest_below s p) None)) (sym (apart k e))
    by false e false k u r = longer_begins d b s (segments p) ∙ other (d == b) (r u p)

-- ---- kinds

-- whether this is the kind of the paths under `out`
abbrev pub is_kind_out : Kind → Bool
is_kind_out Out = true
is_kind_out Kept = false
is_kind_out Source = false

kind_begins : (ss : List (List ℕ)) → is_kind_out (kind_by ss) ≡ begin_with (codes "out") ss
kind_begins [] = refl
kind_begins (s ∷ rest) = by (bytes_eq s (codes "out")) rest (among s kept_names)
  where
    by : (t : Bool) (more : List (List ℕ)) (k : Bool) → is_kind_out (cond t (below_out more) (cond k Kept Source)) ≡ cond t (has_one more) false
    by true [] k = refl
    by true (x ∷ more) k = refl
    by false more true = refl
    by false more false = refl

-- a path is of that kind where it lies under `out`
pub kind_is : (p : List ℕ) → is_kind_out (kind_of p) ≡ is_out p
unfolding kind_of
kind_is p = kind_begins (segments p) ∙ begins (codes "out") refl p

out_to : (k : Kind) → k ≡ Out → is_kind_out k ≡ true
out_to k e = ap is_kind_out e

out_back : (k : Kind) → is_kind_out k ≡ true → k ≡ Out
out_back Out h = refl
out_back Kept h = cc
out_back Source h = cc

pub under_out : (p : List ℕ) → kind_of p ≡ Out → is_out p ≡ true
under_out p e = sym (kind_is p) ∙ out_to (kind_of p) e

pub under_out_back : (p : List ℕ) → is_out p ≡ true → kind_of p ≡ Out
under_out_back p h = out_back (kind_of p) (kind_is p ∙ h)
