-- The order of byte strings.
use Rattle.std.proofs.Common.{◌≡◌, ℕ, ◌==◌, Bool, true, false, cond, List, [], ◌∷◌, ◌++◌, refl, sym, ap, ◌∙◌}
use Rattle.std.specs.declared.cmp.Ordering.{Ordering}
use Rattle.std.specs.declared.cmp.Ordering.TheVariants.{Less, Equal, Greater}
use Rattle.std.specs.Ordering.{nat_cmp, is_lt, is_gt, ordering_then, ordering_reverse}
use Rattle.std.proofs.lemmas.Cmp.{upto, tied_itself, nat_list_cmp_total, ranked, nat_cmp_total}
use Rattle.std.proofs.lemmas.Map.Lookups.{exact_bytes}
use Rattle.std.specs.Prelude.{Some, None, is_some}
use Rattle.std.proofs.lemmas.Bool.Decides.{Decides-eqb}
use Rattle.pie_base.specs.Path.{is_below, rest_below}
use Rattle.pie_value.specs.Order.{byte_order}

-- ---- answers of a comparison

pub lt_not_gt : (o : Ordering) → is_lt o ≡ true → is_gt o ≡ false
lt_not_gt Less h = refl
lt_not_gt Equal h = refl
lt_not_gt Greater h = cc

pub reverse_gt : (o : Ordering) → is_lt o ≡ false → is_gt (ordering_reverse o) ≡ false
reverse_gt Less h = cc
reverse_gt Equal h = refl
reverse_gt Greater h = refl

pub reverse_lt : (o : Ordering) → is_gt o ≡ false → is_lt (ordering_reverse o) ≡ false
reverse_lt Less h = refl
reverse_lt Equal h = refl
reverse_lt Greater h = cc

pub first_not_lt : (o r : Ordering) → is_lt (ordering_then o r) ≡ false → is_lt o ≡ false
first_not_lt Less r h = h
first_not_lt Equal r h = refl
first_not_lt Greater r h = refl

pub then_not_gt : (o r : Ordering) → is_gt o ≡ false → (o ≡ Equal → is_gt r ≡ false) → is_gt (ordering_then o r) ≡ false
then_not_gt Less r h k = refl
then_not_gt Equal r h k = k refl
then_not_gt Greater r h k = h

neither : (o : Ordering) → is_gt o ≡ false → is_lt o ≡ false → o ≡ Equal
neither Less h k = cc
neither Equal h k = refl
neither Greater h k = cc

-- ---- of byte strings

pub not_after_itself : (a : List ℕ) → is_gt (byte_order a a) ≡ false
not_after_itself a = ap is_gt (tied_itself nat_list_cmp_total a)

pub same_order : (a b : List ℕ) → a ≡ b → byte_order a b ≡ Equal
same_order a b e = ap (byte_order a) (sym e) ∙ tied_itself nat_list_cmp_total a

pub not_after_through : (a b c : List ℕ) → is_gt (byte_order a b) ≡ false → is_gt (byte_order b c) ≡ false → is_gt (byte_order a c) ≡ false
not_after_through a b c h k = upto nat_list_cmp_total a b c h k

pub turned : (a b : List ℕ) → is_lt (byte_order b a) ≡ false → is_gt (byte_order a b) ≡ false
turned a b h = ap is_gt (nat_list_cmp_total.antisymm a b) ∙ reverse_gt (byte_order b a) h

pub turned_back : (a b : List ℕ) → is_gt (byte_order a b) ≡ false → is_lt (byte_order b a) ≡ false
turned_back a b h = ap is_lt (nat_list_cmp_total.antisymm b a) ∙ reverse_lt (byte_order a b) h

pub same_both : (a b : List ℕ) → is_gt (byte_order a b) ≡ false → is_gt (byte_order b a) ≡ false → a ≡ b
same_both a b h k = exact_bytes a b (neither (byte_order a b) h (turned_back b a k))

pub equal_same : (a b : List ℕ) → byte_order a b ≡ Equal → a ≡ b
equal_same a b h = exact_bytes a b h

-- ---- a string, a slash and more

heads : (y b : ℕ) (o q r : Ordering) → o ≡ nat_cmp y b → is_lt (ordering_then o q) ≡ false → is_gt (ordering_then o r) ≡ false
    → (y ≡ b) × (is_lt q ≡ false) × (is_gt r ≡ false)
heads y b Less q r e low high = cc
heads y b Equal q r e low high = (ranked y b Equal e, low, high)
heads y b Greater q r e low high = cc

-- what stands between a string with a slash and a longer one begins with the same
pub between : (p x r : List ℕ) → is_lt (byte_order x (p ++ 47 ∷ [])) ≡ false → is_gt (byte_order x (p ++ 47 ∷ r)) ≡ false → (s : List ℕ) × (x ≡ p ++ 47 ∷ s)
between [] [] r low high = cc
between [] (y ∷ x) r low high =
    let parts = heads y 47 (nat_cmp y 47) (byte_order x []) (byte_order x r) refl low high in
    (x, ap (λ (n : ℕ). n ∷ x) parts.0)
between (b ∷ p) [] r low high = cc
between (b ∷ p) (y ∷ x) r low high =
    let parts = heads y b (nat_cmp y b) (byte_order x (p ++ 47 ∷ [])) (byte_order x (p ++ 47 ∷ r)) refl low high in
    let rest = between p x r parts.1 parts.2 in
    (rest.0, λ i. parts.0 i ∷ rest.1 i)

none_before : (r : List ℕ) → is_lt (byte_order r []) ≡ false
none_before [] = refl
none_before (b ∷ r) = refl

pub longer_not_less : (p r : List ℕ) → is_lt (byte_order (p ++ 47 ∷ r) (p ++ 47 ∷ [])) ≡ false
longer_not_less [] r = none_before r
longer_not_less (b ∷ p) r =
    ap (λ (o : Ordering). is_lt (ordering_then o (byte_order (p ++ 47 ∷ r) (p ++ 47 ∷ [])))) (tied_itself nat_cmp_total b) ∙ longer_not_less p r

-- ---- paths below a path

slashed : (b : ℕ) (q : List ℕ) (t : Bool) → (b == 47) ≡ t → is_some (cond t (Some q) None) ≡ true → (r : List ℕ) × (b ∷ q ≡ 47 ∷ r)
slashed b q true e h = (q, ap (λ (n : ℕ). n ∷ q) ((Decides-eqb b 47).0 e))
slashed b q false e h = cc

agrees : (d b : ℕ) (p q : List ℕ) (t : Bool) → (d == b) ≡ t → is_some (cond t (rest_below p q) None) ≡ true → (d ≡ b) × (is_below p q ≡ true)
agrees d b p q true e h = ((Decides-eqb d b).0 e, h)
agrees d b p q false e h = cc

pub below_has : (p q : List ℕ) → is_below p q ≡ true → (r : List ℕ) × (q ≡ p ++ 47 ∷ r)
below_has [] [] h = cc
below_has [] (b ∷ q) h = slashed b q (b == 47) refl h
below_has (d ∷ p) [] h = cc
below_has (d ∷ p) (b ∷ q) h =
    let parts = agrees d b p q (d == b) refl h in
    let rest = below_has p q parts.1 in
    (rest.0, λ i. sym parts.0 i ∷ rest.1 i)

pub has_below : (p r : List ℕ) → is_below p (p ++ 47 ∷ r) ≡ true
has_below [] r = refl
has_below (d ∷ p) r = ap (λ (t : Bool). is_some (cond t (rest_below p (p ++ 47 ∷ r)) None)) ((Decides-eqb d d).1 refl) ∙ has_below p r
