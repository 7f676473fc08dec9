-- Listings that are sorted.
use Rattle.std.proofs.Common.{◌≡◌, ◌∙◌, ℕ, ◌≤◌, Bool, true, false, List, length, get_or, refl, sym, subst, arith}
use Rattle.std.specs.declared.cmp.Ordering.{Ordering}
use Rattle.std.specs.Ordering.{nat_cmp, is_lt, is_gt, ordering_then}
use Rattle.std.specs.Cmp.{IsTotalOrder}
use Rattle.std.specs.List.{Contains}
use Rattle.std.specs.List.Sorted.{IsPermutation, IsSorted, IsPartitionedBy, IsPartitionPoint}
use Rattle.std.proofs.lemmas.List.{get_or_default}
use Rattle.std.proofs.lemmas.Cmp.{nat_list_cmp_total, nat_cmp_total, on_total, then_total}
use Rattle.std.proofs.lemmas.List.Sorted.{ranks_by, sorted_far, Contains-permutation, IsPermutation-sym}
use Rattle.pie_value.specs.Order.{byte_order}
use Rattle.pie_checks.specs.Listings.{Entry, IsInOrder, IsListing, Stands}
use Rattle.pie_checks.specs.Searches.{IsPlaceOf}
use Rattle.pie_checks.proofs.PathOrder.{turned, turned_back, first_not_lt, not_after_through}

-- by path, then by number
abbrev pub entry_order : Entry → Entry → Ordering
entry_order a b = ordering_then (byte_order a.0 b.0) (nat_cmp a.1 b.1)

abbrev path_of : Entry → List ℕ
path_of e = e.0

abbrev number_of : Entry → ℕ
number_of e = e.1

abbrev itself : Entry → Entry
itself e = e

entries_total : IsTotalOrder entry_order
entries_total = then_total (on_total path_of nat_list_cmp_total) (on_total number_of nat_cmp_total)

pub in_order : (es : List Entry) → IsSorted entry_order es → IsInOrder es
in_order es up i j d l k =
    turned (get_or es i d).0 (get_or es j d).0
    (first_not_lt (byte_order (get_or es j d).0 (get_or es i d).0) (nat_cmp (get_or es j d).1 (get_or es i d).1)
    (sorted_far (λ x y. is_lt (entry_order x y)) (ranks_by entries_total itself) es up i j d l k))

-- a listing is sorted
pub listing : (P : List ℕ → ℕ → Type 0) (es fs : List Entry) → ((path : List ℕ) (n : ℕ) → Contains es (path, n) → P path n)
    → ((path : List ℕ) (n : ℕ) → P path n → Contains es (path, n))
    → IsPermutation es fs → IsSorted entry_order fs → IsListing P fs
listing P es fs only each moved up = record {
  ordered = in_order fs up;
  only = λ path n h. only path n (Contains-permutation fs es (path, n) (IsPermutation-sym es fs moved) h);
  each = λ path n h. Contains-permutation es fs (path, n) moved (each path n h);
}

-- whether an entry comes before these bytes
abbrev pub is_before : List ℕ → Entry → Bool
is_before key e = is_lt (byte_order e.0 key)

less_through : (a b key : List ℕ) → is_gt (byte_order a b) ≡ false → is_lt (byte_order b key) ≡ true → is_lt (byte_order a key) ≡ true
less_through a b key h k = by_cases (is_lt (byte_order a key)) refl
  where
    by_cases : (t : Bool) → is_lt (byte_order a key) ≡ t → is_lt (byte_order a key) ≡ true
    by_cases true e = e
    by_cases false e = absurd (let back = turned_back key b (not_after_through key a b (turned key a e) h) in (cc))

pub parted : (es : List Entry) (key : List ℕ) → IsInOrder es → IsPartitionedBy (is_before key) es
parted es key up i j d l k h = less_through (get_or es i d).0 (get_or es j d).0 key (up i j d l k) h

pub placed : (es : List Entry) (key : List ℕ) (i : ℕ) → i ≤ length es → IsPartitionPoint (λ y. is_before key y ≡ true) (λ y. is_before key y ≡ false) es i
    → IsPlaceOf key es i
placed es key i l h = record {
  within = l;
  before = λ k d low. h.0 k d (omega arith) low;
  after = λ k d low high. h.1 k d low high;
}

-- an entry comes up to those that stand after it
pub up_to_entry : (es : List Entry) (at : ℕ) (e : Entry) (q : List ℕ) (n : ℕ) → IsInOrder es → e ≡ get_or es at e → (s : Stands es q n) → at ≤ s.0
    → is_gt (byte_order e.0 q) ≡ false
up_to_entry es at e q n up is s le =
    let here : get_or es at (q, n) ≡ e = get_or_default es at (q, n) e (omega (arith, s.1)) ∙ sym is in
    subst (λ (x : Entry). is_gt (byte_order x.0 q) ≡ false) here
    (subst (λ (x : Entry). is_gt (byte_order (get_or es at (q, n)).0 x.0) ≡ false) s.2 (up at s.0 (q, n) le s.1))
