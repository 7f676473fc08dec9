-- Where reading a list stops: what was read before, and why the next thing isn't read; and functions.
use Rattle.std.proofs.Common.{◌≡◌, ◌≢◌, ℕ, zero, suc, ◌+◌, ◌-◌, ◌^◌, ◌<◌, ◌≤◌, Bool, true, false, List, [], ◌∷◌, ◌++◌, length, get_or}
use Rattle.std.proofs.Common.{Ok, Err, refl, sym, ap, subst, ◌∙◌, append_assoc, append-nil, arith, inl, inr}
use Rattle.std.specs.Prelude.{All, Option, nat_le, ◌⊎◌}
use Rattle.std.specs.List.{AllPairs, flat_map}
use Rattle.std.proofs.lemmas.Bool.{leb-false}
use Rattle.std.proofs.lemmas.List.{length-append, get_or_append_left, get_or_push, length_push}
use Rattle.std.proofs.lemmas.List.Elements.{All-nil, All-push}
use Rattle.pie_value.specs.declared.value_fault.ValueFault.{ValueFault}
use Rattle.pie_value.specs.Canonical.{be32}
use Rattle.pie_value.specs.Reading.{Parsed as Decoded, number_of}
use Rattle.pie_value.proofs.Taking.{IsBytes}
use Rattle.pie_record.specs.declared.record_fault.RecordFault.{RecordFault}
use Rattle.pie_record.specs.declared.record_fault.RecordFault.TheVariants.{Short as NoMore, BadTag, BadPath, BadValue, OutOfMemory as NoMemory}
use Rattle.pie_record.specs.Reading.{Parsed as Part, told, number_at}
use Rattle.pie_record.proofs.Codecs.{number_codec}
use Rattle.pie_store.specs.declared.store_fault.StoreFault.{StoreFault}
use Rattle.pie_store.specs.declared.store_fault.StoreFault.TheVariants.{Row, Order, OutOfMemory}
use Rattle.pie_store.specs.Canonical.{enc_func, name_before}
use Rattle.pie_store.specs.Texts.{IsFunc}
use Rattle.pie_store.specs.inner.Reading.{Parsed, then_on, placed, part_at, ordered, some_at, list_at, func_at, name_follows, name_last, next_func}
use Rattle.pie_store.specs.ListFaults.{NoneInFront, Unreadable, Misplaced}
use Rattle.pie_store.specs.Faults.{AreTable}
use Rattle.pie_store.proofs.Pairs.{last_is, ahead_on}
use Rattle.pie_store.proofs.StoreParts.{placed_ok, Taker, func_taken, funcs_taker}
use Rattle.pie_store.proofs.StoreParts.{FuncBefore, funcs_push}
use Rattle.pie_store.proofs.ReadAgain.{func_again}

-- ---- steps

pub then_err : {A B : Type 0} (p : Parsed A) (k : A → List ℕ → Parsed B) (e : StoreFault) → then_on p k ≡ Err e
    → (p ≡ Err e) ⊎ ((a : A) × (mid : List ℕ) × (p ≡ Ok (a, mid)) × (k a mid ≡ Err e))
then_err (Ok q) k e f = inr (q.0, q.1, refl, f)
then_err (Err d) k e f = inl (cc)

-- out of memory isn't a fault of the bytes
abbrev pub Named : StoreFault → Type 0
Named e = e ≢ OutOfMemory

pub placed_err : {A : Type 0} (at : ℕ) (p : Part A) (e : StoreFault) → Named e → placed at p ≡ Err e
    → (e ≡ Row at) × ((d : RecordFault) × (p ≡ Err d))
placed_err at (Ok q) e n f = absurd (cc)
placed_err at (Err NoMore) e n f = (cc, (NoMore, refl))
placed_err at (Err BadTag) e n f = (cc, (BadTag, refl))
placed_err at (Err BadPath) e n f = (cc, (BadPath, refl))
placed_err at (Err BadValue) e n f = (cc, (BadValue, refl))
placed_err at (Err NoMemory) e n f = absurd (n (cc))

-- what can't be read has nothing in front that would be read again
pub none_in_front : {A : Type 0} (one : List ℕ → Part A) (bytes : A → List ℕ) (Fits : A → Type 0)
    → ((x : A) (after : List ℕ) → Fits x → one (bytes x ++ after) ≡ Ok (x, after)) → (bs : List ℕ) (d : RecordFault) → one bs ≡ Err d
    → NoneInFront bytes Fits bs
none_in_front one bytes Fits again bs d e x after fits same =
    let g = sym e ∙ ap one same ∙ again x after fits in absurd (cc (g))

pub told_err : {A : Type 0} (p : Decoded A) (d : RecordFault) → told p ≡ Err d → (v : ValueFault) × (p ≡ Err v)
told_err (Ok q) d e = absurd (cc)
told_err (Err v) d e = (v, refl)

pub number_short : (bs : List ℕ) (v : ValueFault) → number_of bs ≡ Err v → length bs < 4
unfolding number_of
number_short bs v e = by (nat_le 4 (length bs)) refl e
  where
    by : (b : Bool) → nat_le 4 (length bs) ≡ b → number_of bs ≡ Err v → length bs < 4
    by true y f = absurd (cc (y, f))
    by false y f = omega (arith, leb-false 4 (length bs) y)

-- ---- a list

-- what was read of a list, and what isn't
pub record Stops {A : Type 0} (one : List A → List ℕ → Parsed A) (bytes : A → List ℕ) (P : List A → Type 0) (bs : List ℕ) (e : StoreFault) : Type 0 where
  pub count : ℕ
  pub number : count < 2 ^ 32
  pub before : List A
  pub rest : List ℕ
  pub more : length before < count
  pub parts : bs ≡ be32 count ++ (flat_map bytes before ++ rest)
  pub kept : P before
  pub fits : IsBytes rest
  pub fails : one before rest ≡ Err e

pub record SomeStop {A : Type 0} (one : List A → List ℕ → Parsed A) (bytes : A → List ℕ) (P : List A → Type 0) (n : ℕ) (xs : List A) (bs : List ℕ)
    (e : StoreFault) : Type 0 where
  pub more : List A
  pub rest : List ℕ
  pub fewer : length more < n
  pub parts : bs ≡ flat_map bytes more ++ rest
  pub kept : P (xs ++ more)
  pub fits : IsBytes rest
  pub fails : one (xs ++ more) rest ≡ Err e

-- what holds of things that were read, and of one more
abbrev pub Keeps : {A : Type 0} → (List A → List ℕ → Parsed A) → (A → Type 0) → (List A → Type 0) → Type 0
Keeps {A} one Fits P = (xs : List A) (bs : List ℕ) (x : A) (rest : List ℕ) → P xs → Fits x → one xs bs ≡ Ok (x, rest) → P (xs ++ x ∷ [])

pub some_stop : {A : Type 0} (one : List A → List ℕ → Parsed A) (bytes : A → List ℕ) (Fits : A → Type 0) (P : List A → Type 0) → Taker one bytes Fits
    → Keeps one Fits P → (n : ℕ) (xs : List A) (bs : List ℕ) (e : StoreFault) → IsBytes bs → P xs → some_at one n xs bs ≡ Err e
    → SomeStop one bytes P n xs bs e
some_stop one bytes Fits P taker keeps zero xs bs e fits p f = absurd (cc)
some_stop {A} one bytes Fits P taker keeps (suc n) xs bs e fits p f =
    by (then_err (one xs bs) (λ x after. some_at one n (xs ++ x ∷ []) after) e f)
    (λ x mid g q. some_stop one bytes Fits P taker keeps n (xs ++ x ∷ []) mid e (taker xs bs x mid fits g).0.rest_fits
    (keeps xs bs x mid p (taker xs bs x mid fits g).1 g) q)
  where
    by : (one xs bs ≡ Err e) ⊎ ((x : A) × (mid : List ℕ) × (one xs bs ≡ Ok (x, mid)) × (some_at one n (xs ++ x ∷ []) mid ≡ Err e))
        → ((x : A) (mid : List ℕ) → one xs bs ≡ Ok (x, mid) → some_at one n (xs ++ x ∷ []) mid ≡ Err e → SomeStop one bytes P n (xs ++ x ∷ []) mid e)
        → SomeStop one bytes P (suc n) xs bs e
    by (inl g) again = record {
      more = [];
      rest = bs;
      fewer = omega arith;
      parts = refl;
      kept = subst P (sym (append-nil xs)) p;
      fits = fits;
      fails = ap (λ (l : List A). one l bs) (append-nil xs) ∙ g;
    }
    by (inr h) again =
        let q = again h.0 h.1 h.2 h.3 in
        let t = taker xs bs h.0 h.1 fits h.2 in
        let same : (xs ++ h.0 ∷ []) ++ q.more ≡ xs ++ h.0 ∷ q.more = append_assoc xs (h.0 ∷ []) q.more in
        record {
          more = h.0 ∷ q.more;
          rest = q.rest;
          fewer = omega (arith, q.fewer);
          parts =
              t.0.parts ∙ ap (λ (l : List ℕ). bytes h.0 ++ l) q.parts ∙ sym (append_assoc (bytes h.0) (flat_map bytes q.more) q.rest);
          kept = subst P same q.kept;
          fits = q.fits;
          fails = ap (λ (l : List A). one l q.rest) (sym same) ∙ q.fails;
        }

pub list_stop : {A : Type 0} (end : ℕ) (one : List A → List ℕ → Parsed A) (bytes : A → List ℕ) (Fits : A → Type 0) (P : List A → Type 0)
    → Taker one bytes Fits → Keeps one Fits P → (bs : List ℕ) (e : StoreFault) → IsBytes bs → P [] → Named e → list_at end one bs ≡ Err e
    → ((length bs < 4) × (e ≡ Row (end - length bs))) ⊎ Stops one bytes P bs e
list_stop {A} end one bytes Fits P taker keeps bs e fits p n f = by (then_err (part_at end number_at bs) (λ m rest. some_at one m [] rest) e f)
  where
    by : (part_at end number_at bs ≡ Err e) ⊎ ((m : ℕ) × (mid : List ℕ) × (part_at end number_at bs ≡ Ok (m, mid)) × (some_at one m [] mid ≡ Err e))
        → ((length bs < 4) × (e ≡ Row (end - length bs))) ⊎ Stops one bytes P bs e
    by (inl g) =
        let h = placed_err (end - length bs) (number_at bs) e n g in
        let v = told_err (number_of bs) h.1.0 h.1.1 in
        inl (number_short bs v.0 v.1, h.0)
    by (inr h) =
        let t = number_codec.taken bs h.0 h.1 fits (placed_ok (end - length bs) (number_at bs) h.0 h.1 h.2) in
        let q = some_stop one bytes Fits P taker keeps h.0 [] h.1 e t.0.rest_fits p h.3 in
        inr (record {
          count = h.0;
          number = t.1;
          before = q.more;
          rest = q.rest;
          more = q.fewer;
          parts = t.0.parts ∙ ap (λ (l : List ℕ). be32 h.0 ++ l) q.parts;
          kept = q.kept;
          fits = q.fits;
          fails = q.fails;
        })

pub length_be32 : (n : ℕ) → length (be32 n) ≡ 4
unfolding be32
length_be32 n = refl

-- the offset of what isn't read
pub stop_place : {A : Type 0} (bytes : A → List ℕ) (end n : ℕ) (before : List A) (bs rest : List ℕ) → length bs ≤ end
    → bs ≡ be32 n ++ (flat_map bytes before ++ rest) → end - length rest ≡ (end - length bs) + (4 + length (flat_map bytes before))
stop_place bytes end n before bs rest le e =
    omega (arith, le, ap length e, length-append (be32 n) (flat_map bytes before ++ rest), length-append (flat_map bytes before) rest, length_be32 n)

-- what a list has that isn't read
abbrev pub ListFault : {A : Type 0} → (A → List ℕ) → (A → Type 0) → (List A → Type 0) → ℕ → List ℕ → StoreFault → Type 0
ListFault bytes Fits Good at bs e =
    ((k : ℕ) × (e ≡ Row (at + k)) × Unreadable bytes Fits Good bs k) ⊎ ((k : ℕ) × (e ≡ Order (at + k)) × Misplaced bytes Fits Good bs k)

pub short_fault : {A : Type 0} (bytes : A → List ℕ) (Fits : A → Type 0) (Good : List A → Type 0) (at : ℕ) (bs : List ℕ) (e : StoreFault)
    → (length bs < 4) × (e ≡ Row at) → ListFault bytes Fits Good at bs e
short_fault bytes Fits Good at bs e h =
    let zero_more : at ≡ at + 0 = omega arith in
    inl (0, h.1 ∙ ap (λ (k : ℕ). Row k) zero_more, inl (h.0, refl))

-- ---- functions

pub FuncsKept : List (List ℕ × List ℕ) → Type 0
FuncsKept fs = All IsFunc fs × AllPairs FuncBefore fs

pub funcs_keep : (end : ℕ) → Keeps (next_func end) IsFunc FuncsKept
unfolding FuncsKept
funcs_keep end fs bs f rest p fit e = (All-push IsFunc fs f p.0 fit, funcs_push end fs bs f rest p.1 e)

pub good_table : (fs : List (List ℕ × List ℕ)) → FuncsKept fs → AreTable fs
unfolding FuncsKept
good_table fs p = (
  p.0,
  λ i j d lt within.
      let f = get_or fs i d in
      let g = get_or fs j d in
      ahead_on (length f.0) (length g.0) _ (p.1 i j d lt within),
)

pub func_fails : (end : ℕ) (fs : List (List ℕ × List ℕ)) (bs : List ℕ) (e : StoreFault) → Named e → next_func end fs bs ≡ Err e
    → ((e ≡ Row (end - length bs)) × NoneInFront enc_func IsFunc bs)
    ⊎ ((e ≡ Order (end - length bs)) × ((f : List ℕ × List ℕ) × (after : List ℕ) × (part_at end func_at bs ≡ Ok (f, after)) × (name_last fs f.0 ≡ false)))
unfolding next_func
func_fails end fs bs e n x = by (then_err (part_at end func_at bs) (λ f rest. ordered (end - length bs) (name_last fs f.0) f rest) e x)
  where
    Answer : Type 0
    Answer = ((e ≡ Row (end - length bs)) × NoneInFront enc_func IsFunc bs)
        ⊎ ((e ≡ Order (end - length bs)) × ((f : List ℕ × List ℕ) × (after : List ℕ) × (part_at end func_at bs ≡ Ok (f, after)) × (name_last fs f.0 ≡ false)))

    late : (b : Bool) (f : List ℕ × List ℕ) (mid : List ℕ) → part_at end func_at bs ≡ Ok (f, mid) → name_last fs f.0 ≡ b
        → ordered (end - length bs) b f mid ≡ Err e → Answer
    late true f mid r l y = absurd (cc)
    late false f mid r l y = inr (cc, (f, mid, r, l))

    by : (part_at end func_at bs ≡ Err e) ⊎ ((f : List ℕ × List ℕ) × (mid : List ℕ) × (part_at end func_at bs ≡ Ok (f, mid))
        × (ordered (end - length bs) (name_last fs f.0) f mid ≡ Err e)) → Answer
    by (inl g) =
        let h = placed_err (end - length bs) (func_at bs) e n g in inl (h.0, none_in_front func_at enc_func IsFunc func_again bs h.1.0 h.1.1)
    by (inr h) = late (name_last fs h.0.0) h.0 h.1 h.2 refl h.3

pub not_last : (fs : List (List ℕ × List ℕ)) (f : List ℕ × List ℕ) → name_last fs f.0 ≡ false → ¬ (AreTable (fs ++ f ∷ []))
not_last [] f e t = absurd (cc)
not_last (g ∷ gs) f e t =
    let fs = g ∷ gs in
    let k = length gs in
    let long = length_push fs f in
    let low = get_or_append_left fs (f ∷ []) f k (omega arith) in
    let high = get_or_push fs f f (suc k) refl in
    let pair : name_before (get_or fs k f).0 f.0 ≡ true =
    subst (λ (x : List ℕ × List ℕ). name_before (get_or fs k f).0 x.0 ≡ true) high
    (subst (λ (x : List ℕ × List ℕ). name_before x.0 (get_or (fs ++ f ∷ []) (suc k) f).0 ≡ true) low (t.1 k (suc k) f (omega arith) (omega (arith, long)))) in
    let last : name_last fs f.0 ≡ name_before (get_or fs k f).0 f.0 =
    ap (λ (o : Option (List ℕ × List ℕ)). name_follows o f.0) (last_is fs k f refl) in
    absurd (cc (pair, last, e))

pub funcs_fault : (end : ℕ) (bs : List ℕ) (e : StoreFault) → IsBytes bs → length bs ≤ end → Named e → list_at end (next_func end) bs ≡ Err e
    → ListFault enc_func IsFunc AreTable (end - length bs) bs e
unfolding FuncsKept
funcs_fault end bs e fits le n f =
    by (list_stop end (next_func end) enc_func IsFunc FuncsKept (funcs_taker end) (funcs_keep end) bs e fits
    (All-nil IsFunc, λ i j d lt within. absurd (omega (arith, within))) n f)
  where
    by : ((length bs < 4) × (e ≡ Row (end - length bs))) ⊎ Stops (next_func end) enc_func FuncsKept bs e
        → ListFault enc_func IsFunc AreTable (end - length bs) bs e
    by (inl h) = short_fault enc_func IsFunc AreTable (end - length bs) bs e h
    by (inr s) =
        let k = 4 + length (flat_map enc_func s.before) in
        let place = stop_place enc_func end s.count s.before bs s.rest le s.parts in
        elim (func_fails end s.before s.rest e n s.fails) [
          | inl h ↦ inl (
            k,
            h.0 ∙ ap (λ (m : ℕ). Row m) place,
            inr (
              s.before,
              s.rest,
              record { count = s.count; number = s.number; more = s.more; parts = s.parts; good = good_table s.before s.kept },
              h.1,
              refl,
            ),
          )
          | inr h ↦
              let t = func_taken s.rest h.1.0 h.1.1 s.fits (placed_ok (end - length s.rest) (func_at s.rest) h.1.0 h.1.1 h.1.2) in
              inr (
                k,
                h.0 ∙ ap (λ (m : ℕ). Order m) place,
                (
                  s.before,
                  h.1.0,
                  h.1.1,
                  record {
                    count = s.count;
                    number = s.number;
                    more = s.more;
                    parts = s.parts ∙ ap (λ (l : List ℕ). be32 s.count ++ (flat_map enc_func s.before ++ l)) t.0.parts;
                    good = good_table s.before s.kept;
                  },
                  t.1,
                  not_last s.before h.1.0 h.1.3,
                  refl,
                ),
              )
        ]
