-- Bytes that have a fault in a list are refused with it: any list, and functions.
use Rattle.std.proofs.Common.{◌≡◌, ℕ, zero, suc, ◌+◌, ◌-◌, ◌^◌, ◌<◌, ◌≤◌, Bool, true, false, cond, List, [], ◌∷◌, ◌++◌, length, get_or, take, drop}
use Rattle.std.proofs.Common.{Result, Ok, Err, refl, sym, ap, subst, ◌∙◌, arith, inl, inr}
use Rattle.std.specs.Prelude.{Option, nat_le, ◌⊎◌}
use Rattle.std.specs.List.{AllPairs, flat_map}
use Rattle.std.specs.Int.{w32, from_be_bytes}
use Rattle.std.proofs.lemmas.Bool.{leb-true}
use Rattle.std.proofs.lemmas.List.{get_or-append-add}
use Rattle.std.proofs.lemmas.List.Elements.{All-push}
use Rattle.pie_value.specs.declared.value_fault.ValueFault.TheVariants.{Short as TooShort}
use Rattle.pie_value.specs.Canonical.{be32}
use Rattle.pie_value.specs.Reading.{then_on as then_value, number_of}
use Rattle.pie_value.proofs.Taking.{IsBytes, Takes}
use Rattle.pie_record.specs.declared.record_fault.RecordFault.{RecordFault}
use Rattle.pie_record.specs.declared.record_fault.RecordFault.TheVariants.{Short as NoMore, BadTag, BadPath, BadValue, OutOfMemory as NoMemory}
use Rattle.pie_record.specs.Reading.{Parsed as Part, told, number_at}
use Rattle.pie_record.proofs.Codecs.{number_codec}
use Rattle.pie_store.specs.declared.store_fault.StoreFault.{StoreFault}
use Rattle.pie_store.specs.declared.store_fault.StoreFault.TheVariants.{Row, Order, OutOfMemory}
use Rattle.pie_store.specs.Canonical.{enc_func, AreFuncs}
use Rattle.pie_store.specs.Texts.{IsFunc}
use Rattle.pie_store.specs.inner.Reading.{Parsed, then_on, row_fault, placed, part_at, ordered, some_at, list_at, func_at, name_follows, name_last, next_func}
use Rattle.pie_store.specs.ListFaults.{Begins, NoneInFront, Unreadable, Misplaced}
use Rattle.pie_store.specs.Faults.{AreTable}
use Rattle.pie_store.proofs.Turns.{same_value, same_rest}
use Rattle.pie_store.proofs.Pairs.{pairs_push, last_is, ahead_is, ahead_on, ahead_trans}
use Rattle.pie_store.proofs.StoreParts.{then_ok, func_taken, FuncBefore}
use Rattle.pie_store.proofs.ReadAgain.{part_again, some_again, func_again, funcs_read}
use Rattle.pie_store.proofs.Stopping.{stop_place}

-- ---- a part that isn't read

-- it ends in a fault, or out of memory
abbrev pub Comes : {A : Type 0} → Result A StoreFault → StoreFault → Type 0
Comes {A} r e = (r ≡ Err e) ⊎ (r ≡ Err OutOfMemory)

pub comes_by : {A : Type 0} (r q : Result A StoreFault) (e : StoreFault) → r ≡ q → Comes q e → Comes r e
comes_by r q e s (inl h) = inl (s ∙ h)
comes_by r q e s (inr h) = inr (s ∙ h)

pub comes_at : {A : Type 0} (r : Result A StoreFault) (e d : StoreFault) → e ≡ d → Comes r e → Comes r d
comes_at {A} r e d s h = subst (λ (x : StoreFault). Comes r x) s h

pub then_comes : {A B : Type 0} (p : Parsed A) (k : A → List ℕ → Parsed B) (e : StoreFault) → Comes p e → Comes (then_on p k) e
then_comes {A} p k e (inl h) = inl (ap (λ (q : Parsed A). then_on q k) h)
then_comes {A} p k e (inr h) = inr (ap (λ (q : Parsed A). then_on q k) h)

pub row_comes : {A : Type 0} (at : ℕ) (d : RecordFault) → Comes {A = A} (Err (row_fault at d)) (Row at)
row_comes at NoMore = inl refl
row_comes at BadTag = inl refl
row_comes at BadPath = inl refl
row_comes at BadValue = inl refl
row_comes at NoMemory = inr refl

pub part_err : {A : Type 0} (one : List ℕ → Part A) (bytes : A → List ℕ) (Fits : A → Type 0)
    → ((bs : List ℕ) (a : A) (rest : List ℕ) → IsBytes bs → one bs ≡ Ok (a, rest) → Takes bs (bytes a) rest × Fits a)
    → (end : ℕ) (bs : List ℕ) → IsBytes bs → NoneInFront bytes Fits bs → Comes (part_at end one bs) (Row (end - length bs))
part_err {A} one bytes Fits taken end bs fits none = by (one bs) refl
  where
    by : (p : Part A) → one bs ≡ p → Comes (part_at end one bs) (Row (end - length bs))
    by (Ok q) e = let t = taken bs q.0 q.1 fits e in absurd (none q.0 q.1 t.1 t.0.parts)
    by (Err d) e = comes_by _ _ _ (ap (λ (p : Part A). placed (end - length bs) p) e) (row_comes {A = A × List ℕ} (end - length bs) d)

pub number_err : (end : ℕ) (bs : List ℕ) → length bs < 4 → part_at end number_at bs ≡ Err (Row (end - length bs))
unfolding number_of
number_err end bs few = by (nat_le 4 (length bs)) refl
  where
    by : (b : Bool) → nat_le 4 (length bs) ≡ b → part_at end number_at bs ≡ Err (Row (end - length bs))
    by true y = absurd (omega (arith, few, leb-true 4 (length bs) y))
    by false y =
        ap (λ (b : Bool). placed (end - length bs) (told (then_value (cond b (Ok (take 4 bs, drop 4 bs)) (Err TooShort))
        (λ ds rest. Ok (from_be_bytes w32 ds, rest))))) y

pub back_bytes : (xs ys : List ℕ) → IsBytes (xs ++ ys) → IsBytes ys
back_bytes xs ys h i = subst (λ (b : ℕ). b < 256) (get_or-append-add xs ys i 0) (h (length xs + i))

-- ---- a list

-- so many things, and then more
pub some_more : {A : Type 0} (one : List A → List ℕ → Parsed A) (n m k : ℕ) (xs ys : List A) (bs rest : List ℕ) → k ≡ n + m
    → some_at one n xs bs ≡ Ok (ys, rest) → some_at one k xs bs ≡ some_at one m ys rest
some_more {A} one zero m k xs ys bs rest e f =
    let same : k ≡ m = omega (arith, e) in
    ap (λ (j : ℕ). some_at one j xs bs) same ∙ ap (λ (l : List A). some_at one m l bs) (same_value xs ys bs rest f)
    ∙ ap (λ (t : List ℕ). some_at one m ys t) (same_rest xs ys bs rest f)
some_more one (suc n) m zero xs ys bs rest e f = absurd (omega (arith, e))
some_more {A} one (suc n) m (suc k) xs ys bs rest e f =
    let q = then_ok (one xs bs) (λ x after. some_at one n (xs ++ x ∷ []) after) ys rest f in
    ap (λ (p : Parsed A). then_on p (λ x after. some_at one k (xs ++ x ∷ []) after)) q.2
    ∙ some_more one n m k (xs ++ q.0 ∷ []) ys q.1 rest (omega (arith, e)) q.3

pub list_err : {A B : Type 0} (end : ℕ) (one : List A → List ℕ → Parsed A) (bytes : B → List ℕ) (Good : List B → Type 0) (bs : List ℕ) (before : List B)
    (rest : List ℕ) (ys : List A) (e : StoreFault) → Begins bytes Good bs before rest
    → some_at one (length before) [] (flat_map bytes before ++ rest) ≡ Ok (ys, rest) → Comes (one ys rest) e → Comes (list_at end one bs) e
list_err {A} end one bytes Good bs before rest ys e b read fails =
    let more = b.more in
    let m = b.count - length before - 1 in
    let left : b.count ≡ length before + suc m = omega (arith, more) in
    comes_by (list_at end one bs) (some_at one (suc m) ys rest) e
    (ap (λ (t : List ℕ). list_at end one t) b.parts
    ∙ ap (λ (p : Parsed ℕ). then_on p (λ n after. some_at one n [] after)) (part_again number_codec end b.count (flat_map bytes before ++ rest) b.number)
    ∙ some_more one (length before) (suc m) b.count [] ys (flat_map bytes before ++ rest) rest left read)
    (then_comes (one ys rest) (λ x after. some_at one m (ys ++ x ∷ []) after) e fails)

pub list_short : {A : Type 0} (end : ℕ) (one : List A → List ℕ → Parsed A) (bs : List ℕ) → length bs < 4 → list_at end one bs ≡ Err (Row (end - length bs))
list_short {A} end one bs few = ap (λ (p : Parsed ℕ). then_on p (λ n after. some_at one n [] after)) (number_err end bs few)

-- the bytes behind what was read
pub begins_bytes : {B : Type 0} (bytes : B → List ℕ) (Good : List B → Type 0) (bs : List ℕ) (before : List B) (rest : List ℕ)
    → Begins bytes Good bs before rest → IsBytes bs → IsBytes rest
begins_bytes bytes Good bs before rest b fits =
    back_bytes (flat_map bytes before) rest (back_bytes (be32 b.count) (flat_map bytes before ++ rest) (subst IsBytes b.parts fits))

pub place_is : {B : Type 0} (bytes : B → List ℕ) (Good : List B → Type 0) (end : ℕ) (bs : List ℕ) (before : List B) (rest : List ℕ) (k : ℕ)
    → Begins bytes Good bs before rest → length bs ≤ end → k ≡ 4 + length (flat_map bytes before) → end - length rest ≡ (end - length bs) + k
place_is bytes Good end bs before rest k b le e =
    stop_place bytes end b.count before bs rest le b.parts ∙ ap (λ (n : ℕ). (end - length bs) + n) (sym e)

-- ---- functions

pub table_funcs : (fs : List (List ℕ × List ℕ)) → AreTable fs → length fs < 2 ^ 32 → AreFuncs fs
table_funcs fs t few = record { few = few; short = λ i d lt. (t.0 i d lt).0; ascending = t.1 }

pub table_push : (fs : List (List ℕ × List ℕ)) (f : List ℕ × List ℕ) → AreTable fs → IsFunc f → name_last fs f.0 ≡ true → AreTable (fs ++ f ∷ [])
table_push fs f t fit last =
    let before : AllPairs FuncBefore fs = λ i j d lt in_list.
    let a = get_or fs i d in
    let b = get_or fs j d in
    ahead_is (length a.0) (length b.0) _ (t.1 i j d lt in_list) in
    let all = pairs_push FuncBefore fs f (ahead_trans (λ (g : List ℕ × List ℕ). length g.0) (λ (g : List ℕ × List ℕ). g.0)) before
    (λ k d long.
    let g = get_or fs k d in
    ahead_is (length g.0) (length f.0) _ (sym (ap (λ (x : Option (List ℕ × List ℕ)). name_follows x f.0) (last_is fs k d long)) ∙ last)) in (
      All-push IsFunc fs f t.0 fit,
      λ i j d lt in_list.
          let a = get_or (fs ++ f ∷ []) i d in
          let b = get_or (fs ++ f ∷ []) j d in
          ahead_on (length a.0) (length b.0) _ (all i j d lt in_list),
    )

pub funcs_begun : (end : ℕ) (before : List (List ℕ × List ℕ)) (rest : List ℕ) → AreTable before → length before < 2 ^ 32
    → some_at (next_func end) (length before) [] (flat_map enc_func before ++ rest) ≡ Ok (before, rest)
funcs_begun end before rest t few =
    some_again (next_func end) enc_func before (funcs_read end before (table_funcs before t few) t.0) before [] rest refl

pub short_comes : {A : Type 0} (end : ℕ) (one : List A → List ℕ → Parsed A) (bs : List ℕ) (k : ℕ) → (length bs < 4) × (k ≡ 0)
    → Comes (list_at end one bs) (Row ((end - length bs) + k))
short_comes end one bs k h =
    let same : end - length bs ≡ (end - length bs) + k = omega (arith, h.1) in
    inl (list_short end one bs h.0 ∙ ap (λ (m : ℕ). Err (Row m)) same)

pub funcs_unread : (end : ℕ) (bs : List ℕ) (k : ℕ) → IsBytes bs → length bs ≤ end → Unreadable enc_func IsFunc AreTable bs k
    → Comes (list_at end (next_func end) bs) (Row ((end - length bs) + k))
unfolding next_func
funcs_unread end bs k fits le (inl h) = short_comes end (next_func end) bs k h
funcs_unread end bs k fits le (inr h) =
    let before = h.0 in
    let rest = h.1 in
    let b = h.2 in
    let more = b.more in
    let number = b.number in
    let fails : Comes (next_func end before rest) (Row (end - length rest)) =
    then_comes (part_at end func_at rest) (λ f after. ordered (end - length rest) (name_last before f.0) f after) (Row (end - length rest))
    (part_err func_at enc_func IsFunc func_taken end rest (begins_bytes enc_func AreTable bs before rest b fits) h.3) in
    comes_at _ _ _ (ap (λ (m : ℕ). Row m) (place_is enc_func AreTable end bs before rest k b le h.4))
    (list_err end (next_func end) enc_func AreTable bs before rest before (Row (end - length rest)) b
    (funcs_begun end before rest b.good (omega (arith, more, number))) fails)

pub funcs_misplaced : (end : ℕ) (bs : List ℕ) (k : ℕ) → length bs ≤ end → Misplaced enc_func IsFunc AreTable bs k
    → Comes (list_at end (next_func end) bs) (Order ((end - length bs) + k))
unfolding next_func
funcs_misplaced end bs k le h =
    let before = h.0 in
    let x = h.1 in
    let after = h.2 in
    let b = h.3 in
    let more = b.more in
    let number = b.number in
    let rest = enc_func x ++ after in
    let at = end - length rest in
    let fails : next_func end before rest ≡ Err (Order at) =
    ap (λ (p : Part (List ℕ × List ℕ)). then_on (placed at p) (λ f left. ordered at (name_last before f.0) f left)) (func_again x after h.4)
    ∙ ap (λ (c : Bool). ordered at c x after) (not_last (name_last before x.0) refl b.good h.4 h.5) in
    comes_at _ _ _ (ap (λ (m : ℕ). Order m) (place_is enc_func AreTable end bs before rest k b le h.6))
    (list_err end (next_func end) enc_func AreTable bs before rest before (Order at) b (funcs_begun end before rest b.good (omega (arith, more, number)))
    (inl fails))
  where
    not_last : (c : Bool) → name_last h.0 h.1.0 ≡ c → AreTable h.0 → IsFunc h.1 → ¬ (AreTable (h.0 ++ h.1 ∷ [])) → name_last h.0 h.1.0 ≡ false
    not_last true e t fit n = absurd (n (table_push h.0 h.1 t fit e))
    not_last false e t fit n = e
