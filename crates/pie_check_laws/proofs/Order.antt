-- Findings are in a total order, and those of which neither comes before the other are one.
use Rattle.std.proofs.Common.{◌≡◌, true, false, refl, sym, ap, ◌∙◌}
use Rattle.std.specs.declared.cmp.Ordering.{Ordering}
use Rattle.std.specs.declared.cmp.Ordering.TheVariants.{Less, Equal, Greater}
use Rattle.std.specs.Cmp.{IsTotalOrder}
use Rattle.std.specs.Cmp.Lexicographic.{slice_cmp}
use Rattle.std.specs.Ordering.{nat_cmp, is_lt, is_gt, ordering_then, ordering_reverse}
use Rattle.std.proofs.lemmas.Cmp.{upto, tied_itself, on_total, then_total, nat_list_cmp_total}
use Rattle.std.proofs.lemmas.Map.Lookups.{exact_bytes}
use Rattle.pie_model.specs.declared.words.Finding.{Finding}
use Rattle.pie_model.specs.Verdict.{comes_before}

-- the order of findings
abbrev pub finding_order : Finding → Finding → Ordering
finding_order a b =
    ordering_then (slice_cmp nat_cmp a.path b.path) (ordering_then (slice_cmp nat_cmp a.first b.first) (slice_cmp nat_cmp a.second b.second))

pub finding_order_total : IsTotalOrder finding_order
finding_order_total =
    then_total (on_total (λ (a : Finding). a.path) nat_list_cmp_total)
    (then_total (on_total (λ (a : Finding). a.first) nat_list_cmp_total) (on_total (λ (a : Finding). a.second) nat_list_cmp_total))

-- ---- answers of a comparison

pub reversed_lt : (o : Ordering) → is_lt (ordering_reverse o) ≡ is_gt o
reversed_lt Less = refl
reversed_lt Equal = refl
reversed_lt Greater = refl

pub reversed_gt : (o : Ordering) → is_gt (ordering_reverse o) ≡ is_lt o
reversed_gt Less = refl
reversed_gt Equal = refl
reversed_gt Greater = refl

pub less_not_greater : (o : Ordering) → is_lt o ≡ true → is_gt o ≡ false
less_not_greater Less h = refl
less_not_greater Equal h = refl
less_not_greater Greater h = cc

pub neither : (o : Ordering) → is_lt o ≡ false → is_gt o ≡ false → o ≡ Equal
neither Less h k = cc
neither Equal h k = refl
neither Greater h k = cc

pub first_equal : (o r : Ordering) → ordering_then o r ≡ Equal → o ≡ Equal
first_equal Less r h = h
first_equal Equal r h = refl
first_equal Greater r h = h

pub second_equal : (o r : Ordering) → ordering_then o r ≡ Equal → r ≡ Equal
second_equal Less r h = cc
second_equal Equal r h = h
second_equal Greater r h = cc

pub then_equal : (o : Ordering) → ordering_then o Equal ≡ o
then_equal Less = refl
then_equal Equal = refl
then_equal Greater = refl

-- ---- of findings

pub turned : (a b : Finding) → is_lt (finding_order b a) ≡ is_gt (finding_order a b)
turned a b = ap is_lt (finding_order_total.antisymm b a) ∙ reversed_lt (finding_order a b)

pub turned_back : (a b : Finding) → is_gt (finding_order a b) ≡ is_lt (finding_order b a)
turned_back a b = sym (turned a b)

pub not_before_itself : (a : Finding) → comes_before a a ≡ false
not_before_itself a = ap is_lt (tied_itself finding_order_total a)

pub before_one_way : (a b : Finding) → comes_before a b ≡ true → comes_before b a ≡ false
before_one_way a b h = turned a b ∙ less_not_greater (finding_order a b) h

-- where none comes before its follower, the last doesn't come before the first
pub not_before_through : (a b c : Finding) → comes_before b a ≡ false → comes_before c b ≡ false → comes_before c a ≡ false
not_before_through a b c h k = turned a c ∙ upto finding_order_total a b c (turned_back a b ∙ h) (turned_back b c ∙ k)

pub same_finding : (a b : Finding) → comes_before a b ≡ false → comes_before b a ≡ false → a ≡ b
same_finding a b h k =
    let e : finding_order a b ≡ Equal = neither (finding_order a b) h (turned_back a b ∙ k) in
    let rest : ordering_then (slice_cmp nat_cmp a.first b.first) (slice_cmp nat_cmp a.second b.second) ≡ Equal = second_equal _ _ e in
    let p : a.path ≡ b.path = exact_bytes a.path b.path (first_equal _ _ e) in
    let q : a.first ≡ b.first = exact_bytes a.first b.first (first_equal _ _ rest) in
    let r : a.second ≡ b.second = exact_bytes a.second b.second (second_equal _ _ rest) in
    λ i. record { path = p i; first = q i; second = r i }
