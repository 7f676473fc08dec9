-- The search for heights: pairs are followed, one after another.
use Rattle.std.proofs.Common.{◌≡◌, ℕ, ◌+◌, ◌<◌, ◌≤◌, ◌⊎◌, inl, inr, min, true, false, List, [], length, get_or, Some, slice_get, slice_index, refl, sym, ap}
use Rattle.std.proofs.Common.{◌∙◌, subst, arith}
use Rattle.std.proofs.lemmas.Bool.{cases_lt}
use Rattle.std.proofs.lemmas.Option.{slice_get_within, slice_get-get_or, get_or_from_slice_get, same_Some, none-some}
use Rattle.pie_code.specs.declared.instr.Instr.{Instr}
use Rattle.pie_code.specs.declared.height_search.Search.{Search}
use Rattle.pie_code.specs.Effects.{pops}
use Rattle.pie_code.specs.Ways.{target, goes_on, Leads, Fits, Reaches, after}
use Rattle.pie_code.specs.Ways.Reaches.{begin, step}
use Rattle.pie_code.specs.Checked.{HeightsFit}
use Rattle.pie_code.specs.Searches.{Met, IsIndexed, Grows, HasTwo, Meets, IsSearch, Judges, IsFollowed, IsDone, pair_cmp}
use Rattle.std.specs.BTreeSet.{contains}
use Rattle.pie_code.proofs.Meeting.{met_on, meets_same}

pub next_met : (instr : Instr) (place : ℕ) (height : ℕ) (old new : Search) → goes_on instr ≡ true → Meets (λ to. to ≡ place + 1) height old new
    → Meets (λ to. (goes_on instr ≡ true) × (to ≡ place + 1)) height old new
next_met instr place height old new goes meets =
    meets_same (λ to. to ≡ place + 1) (λ to. (goes_on instr ≡ true) × (to ≡ place + 1)) height old new (λ to e. (goes, e)) (λ to h. h.1) meets

pub target_met : (instr : Instr) (place height : ℕ) (old new : Search) → target instr ≡ Some place → Meets (λ to. to ≡ place) height old new
    → Meets (λ to. target instr ≡ Some to) height old new
target_met instr place height old new is meets =
    meets_same (λ to. to ≡ place) (λ to. target instr ≡ Some to) height old new (λ to e. is ∙ ap Some (sym e)) (λ to h. same_Some to place (sym h ∙ is)) meets

-- what was met stands in the code
pub met_inside : (code : List Instr) (s : Search) (place height : ℕ) → IsSearch code s → Met s place height → place < length code
met_inside code s place height search met =
    let one = search.indexed.one place height met in
    let inside : place < length s.first.items = slice_get_within s.first.items place (Some one.0) one.1 in
    omega (arith, search.sized)

-- a place that was met with two heights is wrong
two_wrong : (code : List Instr) (s : Search) (place : ℕ) → length s.first.items ≡ length code → IsIndexed s → ((p h : ℕ) → Met s p h → Reaches code p h)
    → HasTwo s place → HeightsFit code place → ⊥
two_wrong code s place sized indexed sound (m, n, met, other, apart) fit =
    let one = indexed.one place m met in
    let inside : place < length s.first.items = slice_get_within s.first.items place (Some one.0) one.1 in
    apart (fit.one (omega (arith, sized)) m n (sound place m met) (sound place n other))

-- a wrong place that is nearer is a cause
cause_of : (code : List Instr) (old new : Search) → IsSearch code old → new.bad ≤ old.bad → new.limit ≡ old.limit → (HeightsFit code new.bad → ⊥)
    → (new.bad ≡ new.limit) ⊎ ((new.bad < new.limit) × (HeightsFit code new.bad → ⊥))
cause_of code old new search nearer limited wrong =
    elim (cases_lt new.bad new.limit) [
      | inl l ↦ inr (l, wrong)
      | inr past ↦ elim search.cause [ inl e ↦ inl (omega arith) | inr w ↦ let l = w.0 in inl (omega arith) ]
    ]

same_cause : (code : List Instr) (old new : Search) → IsSearch code old → new.bad ≡ old.bad → new.limit ≡ old.limit
    → (new.bad ≡ new.limit) ⊎ ((new.bad < new.limit) × (HeightsFit code new.bad → ⊥))
same_cause code old new search same limited =
    elim search.cause [
      | inl e ↦ inl (same ∙ e ∙ sym limited)
      | inr w ↦ let l = w.0 in inr (omega arith, λ fit. w.1 (subst (HeightsFit code) same fit))
    ]

-- one pair is followed
pub search_on : (code : List Instr) (old new : Search) (i : Instr) (place height : ℕ) → IsSearch code old → slice_get code place ≡ Some i → Met old place height
    → pops i ≤ height → Meets (Leads place i) (after i height) old new → IsSearch code new
search_on code old new i place height search is met le meets = record {
  sized = sized;
  indexed = meets.indexed;
  sound = sound;
  cause = elim meets.cause [
    | inl same ↦ same_cause code old new search same meets.grows.limited
    | inr two ↦ cause_of code old new search meets.grows.nearer meets.grows.limited (λ fit. two_wrong code new new.bad sized meets.indexed sound two fit)
  ];
}
  where
    sized : length new.first.items ≡ length code
    sized = meets.grows.sized ∙ search.sized

    sound : (p h : ℕ) → Met new p h → Reaches code p h
    sound p h m = elim (meets.only p h m) [
      | inl there ↦ search.sound p h there
      | inr led ↦ subst (λ (n : ℕ). Reaches code p n) (sym led.1) (step (search.sound place height met) is le led.0)
    ]

pub followed_on : (code : List Instr) (lows : List ℕ) (old new : Search) (i : Instr) (place height : ℕ) → IsSearch code old
    → Meets (Leads place i) (after i height) old new
    → IsFollowed code lows new i place height
followed_on code lows old new i place height search meets = inr (λ to le leads l. meets.met to leads (omega (arith, l, search.sized)))

-- the instruction at a place, as it is read
pub read_there : (code : List Instr) (place : ℕ) (d i : Instr) → slice_get code place ≡ Some i → get_or code place d ≡ i
read_there code place d i is = get_or_from_slice_get code place i d is

pub there_read : (code : List Instr) (place : ℕ) (d : Instr) → place < length code → slice_get code place ≡ Some (get_or code place d)
there_read code place d l = slice_get-get_or code place d l

pub grows_itself : (s : Search) → Grows s s
grows_itself s = record { sized = refl; kept = λ i pair e. e; nearer = omega arith; limited = refl }

-- a pair is judged
pub judged_grows : (i : Instr) (place height : ℕ) (old new : Search) → Judges i place height old new → Grows old new
judged_grows i place height old new (inl same) = subst (Grows old) (sym same.1)
    (record { sized = refl; kept = λ n pair e. e; nearer = omega arith; limited = refl })
judged_grows i place height old new (inr worse) = subst (Grows old) (sym worse.1)
    (record { sized = refl; kept = λ n pair e. e; nearer = omega arith; limited = refl })

pub judged_fits : (i : Instr) (place height : ℕ) (old new : Search) → Judges i place height old new → Fits i height ⊎ (new.bad ≤ place)
judged_fits i place height old new (inl same) = inl same.0
judged_fits i place height old new (inr worse) = inr (subst (λ (s : Search). s.bad ≤ place) (sym worse.1) (omega arith))

pub judged_search : (code : List Instr) (i : Instr) (place height : ℕ) (old new : Search) → slice_get code place ≡ Some i → Met old place height
    → IsSearch code old
    → Judges i place height old new → IsSearch code new
judged_search code i place height old new is met search (inl same) = subst (IsSearch code) (sym same.1) search
judged_search code i place height old new is met search (inr worse) = subst (IsSearch code) (sym worse.1) (record {
  sized = search.sized;
  indexed = record {
    first = search.indexed.first;
    more = search.indexed.more;
    one = λ p h m. let before = search.indexed.one p h m in (before.0, before.1, elim before.2 [ inl e ↦ inl e | inr past ↦ inr (omega arith) ]);
  };
  sound = search.sound;
  cause = elim (cases_lt place old.bad) [
    | inl l ↦ cause_of code old now search (omega arith) refl (λ fit. wrong (subst (HeightsFit code) (omega arith) fit))
    | inr past ↦ same_cause code old now search (omega arith) refl
  ];
})
  where
    now : Search
    now = record old { bad = min old.bad place }

    wrong : HeightsFit code place → ⊥
    wrong fit = worse.0 (fit.reached i height is (search.sound place height met))

-- a pair is done, once it is judged and followed
pub done_from : (code : List Instr) (lows : List ℕ) (place height : ℕ) (d : Instr) (old mid new : Search) → Judges (get_or code place d) place height old mid
    → Grows mid new
    → ((i : Instr) → slice_get code place ≡ Some i → IsFollowed code lows new i place height) → IsDone code lows new place height
done_from code lows place height d old mid new judges grows followed = record {
  fits = λ i is. elim (judged_fits (get_or code place d) place height old mid judges) [
    | inl fits ↦ inl (subst (λ (j : Instr). Fits j height) (read_there code place d i is) fits)
    | inr past ↦ inr (omega (arith, past, grows.nearer))
  ];
  followed = followed;
}

pub followed_later : (code : List Instr) (lows : List ℕ) (i : Instr) (place height : ℕ) (old new : Search) → Grows old new
    → IsFollowed code lows old i place height → IsFollowed code lows new i place height
followed_later code lows i place height old new grows (inl far) = inl (omega (arith, far, grows.nearer))
followed_later code lows i place height old new grows (inr all) = inr (λ to le leads l. met_on old new to (after i height) grows (all to le leads l))

pub done_later : (code : List Instr) (lows : List ℕ) (place height : ℕ) (old new : Search) → Grows old new → IsDone code lows old place height
    → IsDone code lows new place height
done_later code lows place height old new grows done = record {
  fits = λ i is. elim (done.fits i is) [ inl fits ↦ inl fits | inr past ↦ inr (omega (arith, past, grows.nearer)) ];
  followed = λ i is. followed_later code lows i place height old new grows (done.followed i is);
}

-- where operands are missing nothing follows, and behind all that matters nothing has to
pub too_low : (code : List Instr) (lows : List ℕ) (s : Search) (i : Instr) (place height : ℕ) → height < pops i → IsFollowed code lows s i place height
too_low code lows s i place height low = inr (λ to le leads l. absurd (omega arith))

pub followed_past : (code : List Instr) (lows : List ℕ) (s : Search) (i : Instr) (place height : ℕ) → s.bad ≤ slice_index lows place
    → IsFollowed code lows s i place height
followed_past code lows s i place height far = inl far

pub followed_there : (code : List Instr) (lows : List ℕ) (s : Search) (place height : ℕ) (d : Instr) → IsFollowed code lows s (get_or code place d) place height
    → (i : Instr) → slice_get code place ≡ Some i → IsFollowed code lows s i place height
followed_there code lows s place height d followed i is = subst (λ (j : Instr). IsFollowed code lows s j place height) (read_there code place d i is) followed

-- the search goes on: one more pair is done
pub done_more : (code : List Instr) (lows : List ℕ) (old new : Search) (now place height : ℕ) → Grows old new → now < length old.met.items
    → slice_get old.met.items now ≡ Some (place, height)
    → IsDone code lows new place height → ((i p h : ℕ) → i < now → slice_get old.met.items i ≡ Some (p, h) → IsDone code lows old p h)
    → (i p h : ℕ) → i < now + 1 → slice_get new.met.items i ≡ Some (p, h) → IsDone code lows new p h
done_more code lows old new now place height grows inside at done before i p h l is =
    elim (cases_lt i now) [
      | inl earlier ↦
          let there = slice_get-get_or old.met.items i (0, 0) (omega arith) in
          let pair : get_or old.met.items i (0, 0) ≡ (p, h) = same_Some (get_or old.met.items i (0, 0)) (p, h)
          (sym (grows.kept i (get_or old.met.items i (0, 0)) there) ∙ is) in
          done_later code lows p h old new grows (before i p h earlier (there ∙ ap Some pair))
      | inr late ↦
          let here : i ≡ now = omega arith in
          let pair : ◌≡◌ {A = ℕ × ℕ} (place, height) (p, h) = same_Some (place, height) (p, h)
          (sym (grows.kept now (place, height) at) ∙ subst (λ (k : ℕ). slice_get new.met.items k ≡ Some (p, h)) here is) in
          subst (λ (q : ℕ × ℕ). IsDone code lows new q.0 q.1) pair done
    ]

pub done_all : (code : List Instr) (lows : List ℕ) (s : Search) (now : ℕ) → length s.met.items ≤ now
    → ((i p h : ℕ) → i < now → slice_get s.met.items i ≡ Some (p, h) → IsDone code lows s p h)
    → (p h : ℕ) → Met s p h → IsDone code lows s p h
done_all code lows s now far done p h met = let l : met.0 < length s.met.items = slice_get_within s.met.items met.0 (p, h) met.1 in
    done met.0 p h (omega arith) met.1

-- how a search begins
pub begins : (code : List Instr) (s : Search) → length s.first.items ≡ length code → ((place n : ℕ) → slice_get s.first.items place ≡ Some (Some n) → ⊥)
    → s.met.items ≡ []
    → ((pair : ℕ × ℕ) → contains pair_cmp s.more pair ≡ false) → s.bad ≡ s.limit → IsSearch code s
begins code s sized unmet empty none bad = record {
  sized = sized;
  indexed = record {
    first = λ place height e. absurd (unmet place height e);
    more = λ place height e. let f = none (place, height) in absurd (cc);
    one = λ place height met. absurd (no_met place height met);
  };
  sound = λ place height met. absurd (no_met place height met);
  cause = inl bad;
}
  where
    no_met : (place height : ℕ) → Met s place height → ⊥
    no_met place height met = none-some (place, height) (subst (λ (ps : List (ℕ × ℕ)). slice_get ps met.0 ≡ Some (place, height)) empty met.1)

pub started : (code : List Instr) (old new : Search) → IsSearch code old → Meets (λ to. to ≡ 0) 0 old new → IsSearch code new
started code old new search meets = record {
  sized = sized;
  indexed = meets.indexed;
  sound = sound;
  cause = elim meets.cause [
    | inl same ↦ same_cause code old new search same meets.grows.limited
    | inr two ↦ cause_of code old new search meets.grows.nearer meets.grows.limited (λ fit. two_wrong code new new.bad sized meets.indexed sound two fit)
  ];
}
  where
    sized : length new.first.items ≡ length code
    sized = meets.grows.sized ∙ search.sized

    sound : (p h : ℕ) → Met new p h → Reaches code p h
    sound p h m = elim (meets.only p h m) [
      | inl there ↦ search.sound p h there
      | inr led ↦ subst (λ (n : ℕ). Reaches code p n) (sym led.1) (subst (λ (k : ℕ). Reaches code k 0) (sym led.0) begin)
    ]
