-- A place is met with a height: what the tables tell afterwards.
use Rattle.std.proofs.Common.{◌≡◌, ◌≢◌, ℕ, zero, suc, ◌<◌, ◌≤◌, ◌⊎◌, inl, inr, min, Bool, true, false, not, cond, List, [], ◌∷◌, ◌++◌, length, set, Option}
use Rattle.std.proofs.Common.{Some, None, slice_get, refl, sym, ap, ◌∙◌, subst, arith}
use Rattle.std.specs.declared.cmp.Ordering.{Ordering}
use Rattle.std.specs.declared.cmp.Ordering.TheVariants.{Less, Equal, Greater}
use Rattle.std.specs.Ordering.{nat_cmp, is_eq}
use Rattle.std.specs.BTreeSet.{contains}
use Rattle.std.proofs.lemmas.Map.Lookups.{exact_unsigned, exact_pairs}
use Rattle.std.proofs.lemmas.Bool.{cases_lt}
use Rattle.std.proofs.lemmas.Bool.Decides.{eqb_tells}
use Rattle.std.proofs.lemmas.Option.{slice_get_within, same_Some, none-some}
use Rattle.pie_code.specs.declared.height_search.Search.{Search}
use Rattle.pie_code.specs.Searches.{Met, IsIndexed, Grows, Meets, HasTwo, pair_cmp}

-- lists by their places

pub get_pushed_old : {A : Type 0} (xs ys : List A) (i : ℕ) (x : A) → slice_get xs i ≡ Some x → slice_get (xs ++ ys) i ≡ Some x
get_pushed_old [] ys i x e = absurd (none-some x e)
get_pushed_old (y ∷ xs) ys zero x e = e
get_pushed_old (y ∷ xs) ys (suc i) x e = get_pushed_old xs ys i x e

pub get_pushed : {A : Type 0} (xs : List A) (y : A) → slice_get (xs ++ y ∷ []) (length xs) ≡ Some y
get_pushed [] y = refl
get_pushed (x ∷ xs) y = get_pushed xs y

pub get_pushed_cases : {A : Type 0} (xs : List A) (y x : A) (i : ℕ) → slice_get (xs ++ y ∷ []) i ≡ Some x → (slice_get xs i ≡ Some x) ⊎ (x ≡ y)
get_pushed_cases [] y x zero e = inr (sym (same_Some y x e))
get_pushed_cases [] y x (suc i) e = absurd (none-some x e)
get_pushed_cases (z ∷ xs) y x zero e = inl e
get_pushed_cases (z ∷ xs) y x (suc i) e = get_pushed_cases xs y x i e

pub get_set : {A : Type 0} (xs : List A) (i : ℕ) (y : A) → i < length xs → slice_get (set xs i y) i ≡ Some y
get_set [] i y l = absurd (omega arith)
get_set (x ∷ xs) zero y l = refl
get_set (x ∷ xs) (suc i) y l = get_set xs i y (omega arith)

pub get_set_other : {A : Type 0} (xs : List A) (i j : ℕ) (y : A) → j ≢ i → slice_get (set xs i y) j ≡ slice_get xs j
get_set_other [] i j y n = refl
get_set_other (x ∷ xs) zero zero y n = absurd (n refl)
get_set_other (x ∷ xs) zero (suc j) y n = refl
get_set_other (x ∷ xs) (suc i) zero y n = refl
get_set_other (x ∷ xs) (suc i) (suc j) y n = get_set_other xs i j y (λ e. n (ap suc e))

pub length_set : {A : Type 0} (xs : List A) (i : ℕ) (y : A) → length (set xs i y) ≡ length xs
length_set [] i y = refl
length_set (x ∷ xs) zero y = refl
length_set (x ∷ xs) (suc i) y = ap suc (length_set xs i y)

tied : (o : Ordering) → is_eq o ≡ true → o ≡ Equal
tied Less h = cc
tied Equal h = refl
tied Greater h = cc

-- the order of pairs tells all pairs apart
same_pair : (a b : ℕ × ℕ) → is_eq (pair_cmp a b) ≡ true → a ≡ b
same_pair a b h = exact_pairs nat_cmp nat_cmp exact_unsigned exact_unsigned a b (tied (pair_cmp a b) h)

pub met_on : (old new : Search) (place height : ℕ) → Grows old new → Met old place height → Met new place height
met_on old new place height grows (i, is) = (i, grows.kept i (place, height) is)

pair_parts : (a b x y : ℕ) → ◌≡◌ {A = ℕ × ℕ} (a, b) (x, y) → (a ≡ x) × (b ≡ y)
pair_parts a b x y e = (ap (λ (p : ℕ × ℕ). p.0) e, ap (λ (p : ℕ × ℕ). p.1) e)

-- nothing changes
pub meets_nothing : (old : Search) (Led : ℕ → Type 0) (height : ℕ) → IsIndexed old → ((to : ℕ) → Led to → to < length old.first.items → Met old to height)
    → Meets Led height old old
meets_nothing old Led height indexed met = record {
  grows = record { sized = refl; kept = λ i pair e. e; nearer = omega arith; limited = refl };
  indexed = indexed;
  met = met;
  only = λ p h m. inl m;
  cause = inl refl;
}

-- a pair is put behind those that were met
pushed_met : (old new : Search) (place height : ℕ) → new.met.items ≡ old.met.items ++ (place, height) ∷ [] → Met new place height
pushed_met old new place height e = (
  length old.met.items,
  subst (λ (ps : List (ℕ × ℕ)). slice_get ps (length old.met.items) ≡ Some (place, height)) (sym e)
      (get_pushed old.met.items (place, height)),
)

pushed_kept : (old new : Search) (place height : ℕ) → new.met.items ≡ old.met.items ++ (place, height) ∷ []
    → (i : ℕ) (pair : ℕ × ℕ) → slice_get old.met.items i ≡ Some pair → slice_get new.met.items i ≡ Some pair
pushed_kept old new place height e i pair is =
    subst (λ (ps : List (ℕ × ℕ)). slice_get ps i ≡ Some pair) (sym e) (get_pushed_old old.met.items ((place, height) ∷ []) i pair is)

pushed_cases : (old new : Search) (place height p h : ℕ) → new.met.items ≡ old.met.items ++ (place, height) ∷ [] → Met new p h → Met old p h
    ⊎ ((p ≡ place) × (h ≡ height))
pushed_cases old new place height p h e (i, is) =
    elim (get_pushed_cases old.met.items (place, height) (p, h) i (subst (λ (ps : List (ℕ × ℕ)). slice_get ps i ≡ Some (p, h)) e is)) [
      | inl there ↦ inl (i, there)
      | inr same ↦ inr (pair_parts p h place height same)
    ]

-- a place is met for the first time
pub meets_first : (old new : Search) (place height : ℕ) → IsIndexed old → slice_get old.first.items place ≡ Some None
    → new.first.items ≡ set old.first.items place (Some height) → new.more ≡ old.more → new.met.items ≡ old.met.items ++ (place, height) ∷ []
    → new.bad ≡ old.bad → new.limit ≡ old.limit
    → Meets (λ to. to ≡ place) height old new
meets_first old new place height indexed unmet first more met bad limit = record {
  grows = grows;
  indexed = record { first = first_tells; more = more_tells; one = one };
  met = λ to e l. subst (λ (k : ℕ). Met new k height) (sym e) here;
  only = λ p h m. pushed_cases old new place height p h met m;
  cause = inl bad;
}
  where
    inside : place < length old.first.items
    inside = slice_get_within old.first.items place None unmet

    here : Met new place height
    here = pushed_met old new place height met

    grows : Grows old new
    grows = record {
      sized = ap length first ∙ length_set old.first.items place (Some height);
      kept = pushed_kept old new place height met;
      nearer = omega (arith, bad);
      limited = limit;
    }

    now : slice_get new.first.items place ≡ Some (Some height)
    now = subst (λ (fs : List (Option ℕ)). slice_get fs place ≡ Some (Some height)) (sym first) (get_set old.first.items place (Some height) inside)

    other : (p : ℕ) → p ≢ place → slice_get new.first.items p ≡ slice_get old.first.items p
    other p n = subst (λ (fs : List (Option ℕ)). slice_get fs p ≡ slice_get old.first.items p) (sym first)
        (get_set_other old.first.items place p (Some height) n)

    first_tells : (p h : ℕ) → slice_get new.first.items p ≡ Some (Some h) → Met new p h
    first_tells p h e = elim (eqb_tells p place) [
      | inl same ↦
          let at_place : slice_get new.first.items place ≡ Some (Some h) = subst (λ (k : ℕ). slice_get new.first.items k ≡ Some (Some h)) same.1 e in
          let height_is : height ≡ h = same_Some height h (same_Some (Some height) (Some h) (sym now ∙ at_place)) in
          subst (λ (k : ℕ). Met new k h) (sym same.1) (subst (λ (k : ℕ). Met new place k) height_is here)
      | inr apart ↦ met_on old new p h grows (indexed.first p h (sym (other p apart.1) ∙ e))
    ]

    more_tells : (p h : ℕ) → contains pair_cmp new.more (p, h) ≡ true → Met new p h
    more_tells p h e = met_on old new p h grows (indexed.more p h (subst (λ s. contains pair_cmp s (p, h) ≡ true) more e))

    one : (p h : ℕ) → Met new p h → (n : ℕ) × (slice_get new.first.items p ≡ Some (Some n)) × ((h ≡ n) ⊎ (new.bad ≤ p))
    one p h m = elim (pushed_cases old new place height p h met m) [
      | inr same ↦ (height, subst (λ (k : ℕ). slice_get new.first.items k ≡ Some (Some height)) (sym same.0) now, inl same.1)
      | inl there ↦
          let before = indexed.one p h there in
          let apart : p ≢ place = λ e. none-some before.0 (same_Some None (Some before.0)
          (sym unmet ∙ subst (λ (k : ℕ). slice_get old.first.items k ≡ Some (Some before.0)) e before.1)) in
          (before.0, other p apart ∙ before.1, elim before.2 [ inl same ↦ inl same | inr past ↦ inr (omega (arith, bad, past)) ])
    ]

-- a place is met with another height than at first
pub meets_again : (old new : Search) (place height : ℕ) → IsIndexed old
    → ((other : ℕ) × (slice_get old.first.items place ≡ Some (Some other)) × (other ≢ height))
    → new.first ≡ old.first → new.bad ≡ min old.bad place
    → ((q : ℕ × ℕ) → contains pair_cmp new.more q ≡ cond (is_eq (pair_cmp (place, height) q)) true (contains pair_cmp old.more q))
    → (new.met.items ≡ old.met.items ++ (place, height) ∷ []) ⊎ ((new.met.items ≡ old.met.items) × (contains pair_cmp old.more (place, height) ≡ true))
    → new.limit ≡ old.limit → Meets (λ to. to ≡ place) height old new
meets_again old new place height indexed otherwise first bad more met limit = record {
  grows = grows;
  indexed = record { first = first_tells; more = more_tells; one = one };
  met = λ to e l. subst (λ (k : ℕ). Met new k height) (sym e) here;
  only = cases;
  cause = elim (cases_lt place old.bad) [
    | inl l ↦ inr (subst (HasTwo new) (omega (arith, bad)) two)
    | inr past ↦ inl (omega (arith, bad))
  ];
}
  where
    inside : place < length old.first.items
    inside = slice_get_within old.first.items place (Some otherwise.0) otherwise.1

    kept : (i : ℕ) (pair : ℕ × ℕ) → slice_get old.met.items i ≡ Some pair → slice_get new.met.items i ≡ Some pair
    kept i pair is = elim met [
      | inl pushed ↦ pushed_kept old new place height pushed i pair is
      | inr same ↦ subst (λ (ps : List (ℕ × ℕ)). slice_get ps i ≡ Some pair) (sym same.0) is
    ]

    grows : Grows old new
    grows = record { sized = ap (λ f. length f.items) first; kept = kept; nearer = omega (arith, bad); limited = limit }

    here : Met new place height
    here = elim met [
      | inl pushed ↦ pushed_met old new place height pushed
      | inr same ↦ met_on old new place height grows (indexed.more place height same.1)
    ]

    two : HasTwo new place
    two = (otherwise.0, height, met_on old new place otherwise.0 grows (indexed.first place otherwise.0 otherwise.1), here, otherwise.2)

    cases : (p h : ℕ) → Met new p h → Met old p h ⊎ ((p ≡ place) × (h ≡ height))
    cases p h m = elim met [
      | inl pushed ↦ pushed_cases old new place height p h pushed m
      | inr same ↦ inl (m.0, subst (λ (ps : List (ℕ × ℕ)). slice_get ps m.0 ≡ Some (p, h)) same.0 m.1)
    ]

    first_tells : (p h : ℕ) → slice_get new.first.items p ≡ Some (Some h) → Met new p h
    first_tells p h e = met_on old new p h grows (indexed.first p h (subst (λ f. slice_get f.items p ≡ Some (Some h)) first e))

    by_test : (p h : ℕ) (b : Bool) → is_eq (pair_cmp (place, height) (p, h)) ≡ b → cond b true (contains pair_cmp old.more (p, h)) ≡ true → Met new p h
    by_test p h true e is = let same = pair_parts place height p h (same_pair (place, height) (p, h) e) in
        subst (λ (k : ℕ). Met new k h) same.0 (subst (λ (k : ℕ). Met new place k) same.1 here)
    by_test p h false e is = met_on old new p h grows (indexed.more p h is)

    more_tells : (p h : ℕ) → contains pair_cmp new.more (p, h) ≡ true → Met new p h
    more_tells p h e = by_test p h (is_eq (pair_cmp (place, height) (p, h))) refl (sym (more (p, h)) ∙ e)

    one : (p h : ℕ) → Met new p h → (n : ℕ) × (slice_get new.first.items p ≡ Some (Some n)) × ((h ≡ n) ⊎ (new.bad ≤ p))
    one p h m = elim (cases p h m) [
      | inr same ↦ (
        otherwise.0,
        subst (λ f. slice_get f.items p ≡ Some (Some otherwise.0)) (sym first)
            (subst (λ (k : ℕ). slice_get old.first.items k ≡ Some (Some otherwise.0)) (sym same.0) otherwise.1),
        inr (omega (arith, bad, same.0)),
      )
      | inl there ↦
          let before = indexed.one p h there in (
            before.0,
            subst (λ f. slice_get f.items p ≡ Some (Some before.0)) (sym first) before.1,
            elim before.2 [ inl same ↦ inl same | inr past ↦ inr (omega (arith, bad, past)) ],
          )
    ]

pub was_there : (added there : Bool) → added ≡ false → added ≡ not there → there ≡ true
was_there added true e f = refl
was_there added false e f = cc

-- some places are met, and then others with the same height
pub grows_on : (a b c : Search) → Grows a b → Grows b c → Grows a c
grows_on a b c first then = record {
  sized = then.sized ∙ first.sized;
  kept = λ i pair is. then.kept i pair (first.kept i pair is);
  nearer = omega (arith, first.nearer, then.nearer);
  limited = then.limited ∙ first.limited;
}

pub meets_both : (P Q : ℕ → Type 0) (height : ℕ) (a b c : Search) → Meets P height a b → Meets Q height b c → Meets (λ to. P to ⊎ Q to) height a c
meets_both P Q height a b c first then = record {
  grows = grows_on a b c first.grows then.grows;
  indexed = then.indexed;
  met = λ to led l. elim led [
    | inl p ↦ met_on b c to height then.grows (first.met to p l)
    | inr q ↦ then.met to q (omega (arith, l, first.grows.sized))
  ];
  only = λ p h m. elim (then.only p h m) [
    | inr new ↦ inr (inr new.0, new.1)
    | inl before ↦ elim (first.only p h before) [ inl there ↦ inl there | inr new ↦ inr (inl new.0, new.1) ]
  ];
  cause = elim then.cause [
    | inr two ↦ inr two
    | inl same ↦ elim first.cause [
      | inl e ↦ inl (same ∙ e)
      | inr two ↦ inr (subst (HasTwo c) (sym same) (two.0, two.1, met_on b c b.bad two.0 then.grows two.2, met_on b c b.bad two.1 then.grows two.3, two.4))
    ]
  ];
}

-- the same places, told otherwise
pub meets_same : (P Q : ℕ → Type 0) (height : ℕ) (a b : Search) → ((to : ℕ) → P to → Q to) → ((to : ℕ) → Q to → P to) → Meets P height a b → Meets Q height a b
meets_same P Q height a b on back meets = record {
  grows = meets.grows;
  indexed = meets.indexed;
  met = λ to q l. meets.met to (back to q) l;
  only = λ p h m. elim (meets.only p h m) [ inl there ↦ inl there | inr new ↦ inr (on p new.0, new.1) ];
  cause = meets.cause;
}
