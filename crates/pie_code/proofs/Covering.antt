-- When the search is over, all heights that matter were met, and the first wrong place is known.
use Rattle.std.proofs.Common.{◌≡◌, ℕ, ◌+◌, ◌<◌, ◌≤◌, ◌⊎◌, inl, inr, min, Bool, true, false, List, length, get_or, Option, Some, None, slice_get, slice_index}
use Rattle.std.proofs.Common.{refl, sym, ◌∙◌, subst, arith}
use Rattle.std.proofs.lemmas.Bool.{cases_lt}
use Rattle.std.proofs.lemmas.Option.{slice_get_within, slice_get-get_or, same_Some, none-some}
use Rattle.pie_code.specs.declared.instr.Instr.{Instr}
use Rattle.pie_code.specs.declared.height_search.Search.{Search}
use Rattle.pie_code.specs.Ways.{Leads, Fits, Reaches}
use Rattle.pie_code.specs.Ways.Reaches.{begin, step}
use Rattle.pie_code.specs.Checked.{HeightsFit}
use Rattle.pie_code.specs.Searches.{Met, IsSearch, AreLows, IsOver, FitsAlone, IsFirstBefore}

far_on : (code : List Instr) (lows : List ℕ) (s : Search) (at to : ℕ) (i : Instr) → AreLows code lows → slice_get code at ≡ Some i → Leads at i to
    → to < length code
    → s.bad ≤ slice_index lows at → s.bad ≤ slice_index lows to
far_on code lows s at to i low is leads inside far =
    let l : at < length code = slice_get_within code at i is in
    let le = (low.low at l).led i to is leads inside in
    omega arith

-- all that a way reaches was met, or the way never comes back
covered : (code : List Instr) (lows : List ℕ) (s : Search) → IsSearch code s → AreLows code lows → IsOver code lows s → (place height : ℕ)
    → Reaches code place height → place < length code
    → Met s place height ⊎ (s.bad ≤ slice_index lows place)
covered code lows s search low over place height begin l = inl (over.started (omega arith))
covered code lows s search low over place height (step {at = at} {height = under} {to = to} {i = i} way is le leads) l =
    let inside : at < length code = slice_get_within code at i is in
    elim (covered code lows s search low over at under way inside) [
      | inr far ↦ inr (far_on code lows s at to i low is leads l far)
      | inl met ↦ elim ((over.over at under met).followed i is) [
        | inl far ↦ inr (far_on code lows s at to i low is leads l far)
        | inr all ↦ inl (all to le leads l)
      ]
    ]

pub met_all : (code : List Instr) (lows : List ℕ) (s : Search) (place height : ℕ) → IsSearch code s → AreLows code lows → IsOver code lows s → place < s.bad
    → place < length code → Reaches code place height → Met s place height
met_all code lows s place height search low over before inside way =
    elim (covered code lows s search low over place height way inside) [
      | inl met ↦ met
      | inr far ↦ let le = (low.low place inside).itself in absurd (omega arith)
    ]

-- heights are right at a place before all that were found wrong
pub fit_before : (code : List Instr) (lows : List ℕ) (s : Search) (place : ℕ) → IsSearch code s → AreLows code lows → IsOver code lows s → place < s.bad
    → FitsAlone code s place → HeightsFit code place
fit_before code lows s place search low over before alone = record {
  one = λ l m n way other.
      let a = search.indexed.one place m (met_all code lows s place m search low over before l way) in
      let b = search.indexed.one place n (met_all code lows s place n search low over before l other) in
      let same : a.0 ≡ b.0 = same_Some a.0 b.0 (same_Some (Some a.0) (Some b.0) (sym a.1 ∙ b.1)) in
      first m a.0 a.2 ∙ same ∙ sym (first n b.0 b.2);
  reached = λ i n is way. let l : place < length code = slice_get_within code place i is in
      reached i n is (met_all code lows s place n search low over before l way);
  alone = λ i is none. let l : place < length code = slice_get_within code place i is in alone i is (unmet none l);
}
  where
    first : (h n : ℕ) → (h ≡ n) ⊎ (s.bad ≤ place) → h ≡ n
    first h n (inl e) = e
    first h n (inr past) = absurd (omega arith)

    reached : (i : Instr) (n : ℕ) → slice_get code place ≡ Some i → Met s place n → Fits i n
    reached i n is met = elim ((over.over place n met).fits i is) [ inl fits ↦ fits | inr past ↦ absurd (omega arith) ]

    told : (found : Option (Option ℕ)) → slice_get s.first.items place ≡ found → ((n : ℕ) → Reaches code place n → ⊥) → place < length s.first.items
        → found ≡ Some None
    told None e none l = absurd (none-some (get_or s.first.items place None) (sym e ∙ slice_get-get_or s.first.items place None l))
    told (Some None) e none l = refl
    told (Some (Some n)) e none l = absurd (none n (search.sound place n (search.indexed.first place n e)))

    unmet : ((n : ℕ) → Reaches code place n → ⊥) → place < length code → slice_get s.first.items place ≡ Some None
    unmet none l = told (slice_get s.first.items place) refl none (omega (arith, search.sized))

-- past the end all heights are right
pub fit_past : (code : List Instr) (place : ℕ) → length code ≤ place → HeightsFit code place
fit_past code place past = record {
  one = λ l m n way other. absurd (omega arith);
  reached = λ i n is way. let l : place < length code = slice_get_within code place i is in absurd (omega arith);
  alone = λ i is none. let l : place < length code = slice_get_within code place i is in absurd (omega arith);
}

-- a place that wasn't met, and doesn't have its operands on an empty stack, is wrong
pub alone_wrong : (code : List Instr) (lows : List ℕ) (s : Search) (place : ℕ) → IsSearch code s → AreLows code lows → IsOver code lows s → place < s.bad
    → (FitsAlone code s place → ⊥) → HeightsFit code place → ⊥
alone_wrong code lows s place search low over before wrong fit = wrong (λ i is none. fit.alone i is (λ n way.
    let l : place < length code = slice_get_within code place i is in
    let one = search.indexed.one place n (met_all code lows s place n search low over before l way) in
    none-some one.0 (same_Some None (Some one.0) (sym none ∙ one.1))))

pub alone_more : (code : List Instr) (s : Search) (at : ℕ) → FitsAlone code s at → ((p : ℕ) → p < at → FitsAlone code s p) → (p : ℕ) → p < at + 1
    → FitsAlone code s p
alone_more code s at fits before p l =
    elim (cases_lt p at) [
      | inl earlier ↦ before p earlier
      | inr late ↦ subst (FitsAlone code s) (omega arith) fits
    ]

-- the first place before the limit at which heights are wrong
pub first_alone : (code : List Instr) (lows : List ℕ) (s : Search) (place : ℕ) → IsSearch code s → AreLows code lows → IsOver code lows s → place < s.bad
    → ((p : ℕ) → p < place → FitsAlone code s p) → (FitsAlone code s place → ⊥)
    → IsFirstBefore (HeightsFit code) s.limit (Some place)
first_alone code lows s place search low over before fits wrong = (
  elim search.cause [ inl e ↦ omega arith | inr w ↦ let l = w.0 in omega arith ],
  (λ p l. fit_before code lows s p search low over (omega arith) (fits p l)),
  alone_wrong code lows s place search low over before wrong,
)

all_before : (code : List Instr) (lows : List ℕ) (s : Search) (end : ℕ) → IsSearch code s → AreLows code lows → IsOver code lows s
    → min (length code) s.bad ≤ end → ((p : ℕ) → p < end → FitsAlone code s p)
    → (p : ℕ) → p < s.bad → HeightsFit code p
all_before code lows s end search low over far fits p l =
    elim (cases_lt p (length code)) [
      | inl inside ↦ fit_before code lows s p search low over l (fits p (omega arith))
      | inr past ↦ fit_past code p past
    ]

pub first_bad_is : (code : List Instr) (lows : List ℕ) (s : Search) (end : ℕ) → IsSearch code s → AreLows code lows → IsOver code lows s
    → min (length code) s.bad ≤ end → ((p : ℕ) → p < end → FitsAlone code s p)
    → s.bad < s.limit → IsFirstBefore (HeightsFit code) s.limit (Some s.bad)
first_bad_is code lows s end search low over far fits l = (
  l,
  all_before code lows s end search low over far fits,
  elim search.cause [ inl e ↦ absurd (omega arith) | inr w ↦ w.1 ],
)

pub none_bad : (code : List Instr) (lows : List ℕ) (s : Search) (end : ℕ) → IsSearch code s → AreLows code lows → IsOver code lows s
    → min (length code) s.bad ≤ end → ((p : ℕ) → p < end → FitsAlone code s p)
    → s.limit ≤ s.bad → IsFirstBefore (HeightsFit code) s.limit None
none_bad code lows s end search low over far fits le = λ p l. all_before code lows s end search low over far fits p (omega arith)

pub not_true : (b : Bool) → b ≡ false → b ≡ true → ⊥
not_true b e f = cc
