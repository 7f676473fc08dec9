-- The least path with another below it, and the least of those below it.
use Rattle.std.proofs.Common.{◌≡◌, ℕ, ◌<◌, ◌≤◌, ◌+◌, Bool, true, false, cond, List, [], ◌∷◌, ◌++◌, length, get_or, refl, sym, ap, ◌∙◌, subst}
use Rattle.std.proofs.Common.{inl, inr, arith}
use Rattle.std.specs.Prelude.{Option, Some, None}
use Rattle.std.specs.Ordering.{is_lt, is_gt}
use Rattle.std.specs.List.{Contains}
use Rattle.std.proofs.lemmas.Bool.{cases_lt}
use Rattle.std.proofs.lemmas.List.{get_or_default}
use Rattle.std.proofs.lemmas.List.Elements.{Contains-get_or}
use Rattle.pie_base.specs.Path.{is_below}
use Rattle.pie_value.specs.Order.{byte_order}
use Rattle.pie_checks.specs.Refusals.{Nests, IsLeastPair, NoPair}
use Rattle.pie_checks.specs.Listings.{Entry, IsInOrder, Stands, IsListed}
use Rattle.pie_checks.specs.Searches.{IsPlaceOf, IsFirstBelow}
use Rattle.pie_checks.proofs.PathOrder.{then_not_gt, equal_same, between, longer_not_less, below_has}
use Rattle.pie_checks.proofs.PathOrder.{has_below}
use Rattle.pie_checks.proofs.Sorting.{up_to_entry}

-- no entry of which the path lies below stands before a place
at_or_past : (es : List Entry) (path below : List ℕ) (n at : ℕ) → IsPlaceOf (path ++ 47 ∷ []) es at → (s : Stands es below n) → is_below path below ≡ true
    → at ≤ s.0
at_or_past es path below n at place s h =
    elim (cases_lt s.0 at) [
      | inl early ↦
          let r = below_has path below h in
          let less : is_lt (byte_order below (path ++ 47 ∷ [])) ≡ true = ap (λ (e : Entry). is_lt (byte_order e.0 (path ++ 47 ∷ []))) (sym s.2)
          ∙ place.before s.0 (below, n) early in
          let more : is_lt (byte_order below (path ++ 47 ∷ [])) ≡ false = ap (λ (q : List ℕ). is_lt (byte_order q (path ++ 47 ∷ []))) r.1
          ∙ longer_not_less path r.0 in
          absurd (cc)
      | inr le ↦ le
    ]

first_below_by : (es : List Entry) (path : List ℕ) (at : ℕ) (e : Entry) (hit : Bool) → is_below path e.0 ≡ hit → IsInOrder es
    → IsPlaceOf (path ++ 47 ∷ []) es at → at < length es → e ≡ get_or es at e
    → IsFirstBelow es path (cond hit (Some e.0) None)
first_below_by es path at e true h up place l is = (
  (e.1, subst (Contains es) (sym is) (Contains-get_or es at e l)),
  h,
  λ below n s b. up_to_entry es at e below n up is s
      (at_or_past es path below n at place s b),
)
first_below_by es path at e false h up place l is = λ below n s b.
    let r = below_has path below b in
    let upto = up_to_entry es at e below n up is s (at_or_past es path below n at place s b) in
    let high : is_gt (byte_order e.0 (path ++ 47 ∷ r.0)) ≡ false = subst (λ (q : List ℕ). is_gt (byte_order e.0 q) ≡ false) r.1 upto in
    let low : is_lt (byte_order e.0 (path ++ 47 ∷ [])) ≡ false = subst (λ (x : Entry). is_lt (byte_order x.0 (path ++ 47 ∷ [])) ≡ false) (sym is)
    (place.after at e (omega arith) l) in
    let mid = between path e.0 r.0 low high in
    let on : is_below path e.0 ≡ true = ap (is_below path) mid.1 ∙ has_below path mid.0 in
    absurd (cc)

pub first_below : (es : List Entry) (path key : List ℕ) (at : ℕ) (e : Entry) (found : Option (List ℕ)) → key ≡ path ++ 47 ∷ [] → IsInOrder es
    → IsPlaceOf key es at → at < length es → e ≡ get_or es at e
    → found ≡ cond (is_below path e.0) (Some e.0) None → IsFirstBelow es path found
first_below es path key at e found k up place l is f =
    subst (IsFirstBelow es path) (sym f) (first_below_by es path at e (is_below path e.0) refl up (subst (λ (bs : List ℕ). IsPlaceOf bs es at) k place) l is)

pub none_below : (es : List Entry) (path key : List ℕ) (at : ℕ) → key ≡ path ++ 47 ∷ [] → IsPlaceOf key es at → length es ≤ at → IsFirstBelow es path None
none_below es path key at k place l below n s b =
    absurd (omega (arith, s.1, at_or_past es path below n at (subst (λ (bs : List ℕ). IsPlaceOf bs es at) k place) s b))

-- no path before a place has another below it
abbrev pub NoneBelow : List Entry → ℕ → Type 0
NoneBelow es i = (k : ℕ) (d : Entry) → k < i → (below : List ℕ) (n : ℕ) → Stands es below n → is_below (get_or es k d).0 below ≡ true → ⊥

pub none_more : (es : List Entry) (i : ℕ) (e : Entry) → i < length es → e ≡ get_or es i e → IsFirstBelow es e.0 None → NoneBelow es i → NoneBelow es (i + 1)
none_more es i e l is none h k d lt below n s b =
    elim (cases_lt k i) [
      | inl low ↦ h k d low below n s b
      | inr high ↦
          let at : k ≡ i = omega arith in
          let same : get_or es k d ≡ e = ap (λ (m : ℕ). get_or es m d) at ∙ get_or_default es i d e l ∙ sym is in
          none below n s (ap (λ (x : Entry). is_below x.0 below) (sym same) ∙ b)
    ]

pub no_nested : (es : List Entry) (i : ℕ) → length es ≤ i → NoneBelow es i → NoPair (Nests (IsListed es))
no_nested es i l h path below r = let at = r.0.1 in h at.0 (path, r.0.0) (omega (arith, at.1)) below r.1.0 r.1.1
    (ap (λ (x : Entry). is_below x.0 below) at.2 ∙ r.2)

pub nested_least : (es : List Entry) (i : ℕ) (e : Entry) (below : List ℕ) → IsInOrder es → i < length es → e ≡ get_or es i e
    → IsFirstBelow es e.0 (Some below) → NoneBelow es i → IsLeastPair (Nests (IsListed es)) e.0 below
nested_least es i e below up l is first none = record {
  holds = ((e.1, subst (Contains es) (sym is) (Contains-get_or es i e l)), first.0, first.1);
  least = λ r s h.
      let at = h.0.1 in
      let late : i ≤ at.0 = elim (cases_lt at.0 i) [
        | inl early ↦ absurd (none at.0 (r, h.0.0) early s h.1.0 h.1.1 (ap (λ (x : Entry). is_below x.0 s) at.2 ∙ h.2))
        | inr le ↦ le
      ] in
      then_not_gt (byte_order e.0 r) (byte_order below s) (up_to_entry es i e r h.0.0 up is at late) (λ eq.
      let same : e.0 ≡ r = equal_same e.0 r eq in
      first.2 s h.1.0 h.1.1 (ap (λ (p : List ℕ). is_below p s) same ∙ h.2));
}
