-- What the search for wrong heights keeps in hand: the pairs of a place and a height that were met, and the least
-- place that was found wrong. No public contract cites these words.
use Rattle.std.specs.Prelude.{◌≡◌, ◌≢◌, ◌⊎◌, ℕ, ◌<◌, ◌≤◌, min, true, List, length, Option, Some, None, MatchOption, slice_get, slice_index}
use Rattle.std.specs.declared.cmp.Ordering.{Ordering}
use Rattle.std.specs.Ordering.{nat_cmp, ordering_then}
use Rattle.std.specs.BTreeSet.{contains}
use Rattle.pie_code.specs.Ways.{Leads, Fits, Reaches, after}
use Rattle.pie_code.specs.Effects.{pops}
use Rattle.pie_code.specs.Checked.{HeightsFit}
use Rattle.pie_code.specs.declared.instr.Instr.{Instr}
use Rattle.pie_code.specs.declared.height_search.Search.{Search}

-- the first place before a limit at which something isn't right; none where all is right before it
abbrev pub IsFirstBefore : (ℕ → Type 0) → ℕ → Option ℕ → Type 0
IsFirstBefore Right limit found =
    MatchOption found ((at : ℕ) → at < limit → Right at) (λ m. (m < limit) × ((at : ℕ) → at < m → Right at) × (Right m → ⊥))

-- the order of the set of further pairs
abbrev pub pair_cmp : ℕ × ℕ → ℕ × ℕ → Ordering
pair_cmp a b = ordering_then (nat_cmp a.0 b.0) (nat_cmp a.1 b.1)

-- the place was met with the height
abbrev pub Met : Search → ℕ → ℕ → Type 0
Met s place height = (i : ℕ) × (slice_get s.met.items i ≡ Some (place, height))

-- the tables of first and of further heights tell of pairs that were met; each place that was met has a first height,
-- and where it has another, it is found wrong
pub record IsIndexed (s : Search) : Type 0 where
  pub first : (place height : ℕ) → slice_get s.first.items place ≡ Some (Some height) → Met s place height
  pub more : (place height : ℕ) → contains pair_cmp s.more (place, height) ≡ true → Met s place height
  pub one : (place height : ℕ) → Met s place height
      → (n : ℕ) × (slice_get s.first.items place ≡ Some (Some n)) × ((height ≡ n) ⊎ (s.bad ≤ place))

-- what was met stays so, and the least place that was found wrong only comes nearer
pub record Grows (old new : Search) : Type 0 where
  pub sized : length new.first.items ≡ length old.first.items
  pub kept : (i : ℕ) (pair : ℕ × ℕ) → slice_get old.met.items i ≡ Some pair → slice_get new.met.items i ≡ Some pair
  pub nearer : new.bad ≤ old.bad
  pub limited : new.limit ≡ old.limit

-- the place was met with two heights
abbrev pub HasTwo : Search → ℕ → Type 0
HasTwo s place = (m : ℕ) × (n : ℕ) × Met s place m × Met s place n × (m ≢ n)

-- some places in the code are met with a height; where that makes a nearer place wrong, it was met with two
pub record Meets (Led : ℕ → Type 0) (height : ℕ) (old new : Search) : Type 0 where
  pub grows : Grows old new
  pub indexed : IsIndexed new
  pub met : (to : ℕ) → Led to → to < length old.first.items → Met new to height
  pub only : (p h : ℕ) → Met new p h → Met old p h ⊎ (Led p × (h ≡ height))
  pub cause : (new.bad ≡ old.bad) ⊎ HasTwo new new.bad

-- what is met is reached, and the least place that was found wrong is the limit or wrong
pub record IsSearch (code : List Instr) (s : Search) : Type 0 where
  pub sized : length s.first.items ≡ length code
  pub indexed : IsIndexed s
  pub sound : (place height : ℕ) → Met s place height → Reaches code place height
  pub cause : (s.bad ≡ s.limit) ⊎ ((s.bad < s.limit) × (HeightsFit code s.bad → ⊥))

-- a place is found wrong where operands are missing, and nothing else changes
abbrev pub Judges : Instr → ℕ → ℕ → Search → Search → Type 0
Judges i place height old new = (Fits i height × (new ≡ old)) ⊎ ((Fits i height → ⊥) × (new ≡ record old { bad = min old.bad place }))

-- a place has a bound that is no greater than it, and no greater than the bound of a place to which it leads
pub record IsLow (code : List Instr) (lows : List ℕ) (at : ℕ) : Type 0 where
  pub itself : slice_index lows at ≤ at
  pub led : (i : Instr) (to : ℕ) → slice_get code at ≡ Some i → Leads at i to → to < length code → slice_index lows at ≤ slice_index lows to

-- each place has a bound of the places to which ways from there lead
pub record AreLows (code : List Instr) (lows : List ℕ) : Type 0 where
  pub sized : length lows ≡ length code
  pub low : (at : ℕ) → at < length code → IsLow code lows at

-- what follows on a pair was met, or no way from there comes back to the places that matter
abbrev pub IsFollowed : List Instr → List ℕ → Search → Instr → ℕ → ℕ → Type 0
IsFollowed code lows s i place height =
    (s.bad ≤ slice_index lows place) ⊎ ((to : ℕ) → pops i ≤ height → Leads place i to → to < length code → Met s to (after i height))

-- a pair is done: operands are there, or its place is found wrong, and it is followed
pub record IsDone (code : List Instr) (lows : List ℕ) (s : Search) (place height : ℕ) : Type 0 where
  pub fits : (i : Instr) → slice_get code place ≡ Some i → Fits i height ⊎ (s.bad ≤ place)
  pub followed : (i : Instr) → slice_get code place ≡ Some i → IsFollowed code lows s i place height

-- all pairs are done, that of the start among them
pub record IsOver (code : List Instr) (lows : List ℕ) (s : Search) : Type 0 where
  pub started : 0 < length code → Met s 0 0
  pub over : (place height : ℕ) → Met s place height → IsDone code lows s place height

-- a place that wasn't met has its operands on an empty stack
abbrev pub FitsAlone : List Instr → Search → ℕ → Type 0
FitsAlone code s at = (i : Instr) → slice_get code at ≡ Some i → slice_get s.first.items at ≡ Some None → Fits i 0
