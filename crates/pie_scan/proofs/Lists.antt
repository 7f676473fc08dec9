-- Lists behind their number: what is read is what was written, and what was written is read again.
use Rattle.std.proofs.Common.{◌≡◌, ℕ, zero, suc, ◌-◌, ◌<◌, Bool, true, false, List, [], ◌∷◌, ◌++◌, length, get_or, take}
use Rattle.std.proofs.Common.{Ok, Err, refl, sym, ap, subst, ◌∙◌, append_assoc, append-nil, arith}
use Rattle.std.specs.Prelude.{All}
use Rattle.std.specs.List.{flat_map}
use Rattle.std.proofs.lemmas.List.{length-append}
use Rattle.std.proofs.Math.Seq.{take-append_seam, get_or-append_seam}
use Rattle.std.proofs.lemmas.List.Elements.{All-nil, All-cons}
use Rattle.pie_value.proofs.Taking.{IsBytes, Takes, Takes-then}
use Rattle.pie_record.specs.Reading.{Parsed as Part}
use Rattle.pie_record.proofs.Steps.{Codec}
use Rattle.pie_scan.specs.Reading.{Parsed, then_on, placed, part_at, is_last, ordered, next_at, some_at, list_at}
use Rattle.pie_scan.proofs.Turns.{pair, same_value, same_rest}
use Rattle.pie_scan.proofs.Pairs.{Rising, rising_push, rising_at}

-- ---- steps

pub then_ok : {A B : Type 0} (p : Parsed A) (k : A → List ℕ → Parsed B) (b : B) (rest : List ℕ) → then_on p k ≡ Ok (b, rest)
    → (a : A) × (mid : List ℕ) × (p ≡ Ok (a, mid)) × (k a mid ≡ Ok (b, rest))
then_ok (Ok q) k b rest e = (q.0, q.1, refl, e)
then_ok (Err d) k b rest e = absurd (cc)

pub placed_ok : {A : Type 0} (at : ℕ) (p : Part A) (a : A) (rest : List ℕ) → placed at p ≡ Ok (a, rest) → p ≡ Ok (a, rest)
placed_ok {A} at (Ok q) a rest e = λ i. Ok (same_value q.0 a q.1 rest e i, same_rest q.0 a q.1 rest e i)
placed_ok at (Err d) a rest e = absurd (cc)

ordered_ok : {A : Type 0} (at : ℕ) (good : Bool) (x : A) (mid : List ℕ) (a : A) (rest : List ℕ) → ordered at good x mid ≡ Ok (a, rest)
    → (x ≡ a) × (mid ≡ rest) × (good ≡ true)
ordered_ok at true x mid a rest e = (same_value x a mid rest e, same_rest x a mid rest e, refl)
ordered_ok at false x mid a rest e = absurd (cc)

pub part_again : {A : Type 0} {one : List ℕ → Part A} {bytes : A → List ℕ} {Fits : A → Type 0} → Codec one bytes Fits
    → (end : ℕ) (a : A) (tail : List ℕ) → Fits a → part_at end one (bytes a ++ tail) ≡ Ok (a, tail)
part_again {A} {one} {bytes} {Fits} c end a tail fits = ap (λ (p : Part A). placed (end - length (bytes a ++ tail)) p) (c.again a tail fits)

-- ---- things one after another

module _ {A : Type 0} (key : A → List ℕ) {one : List ℕ → Part A} {bytes : A → List ℕ} {Fits : A → Type 0} (c : Codec one bytes Fits) (end : ℕ) where
  pub next_taken : (xs : List A) (bs : List ℕ) (x : A) (rest : List ℕ) → IsBytes bs → next_at end key one xs bs ≡ Ok (x, rest)
      → Takes bs (bytes x) rest × Fits x × (is_last key xs x ≡ true)
  unfolding next_at
  next_taken xs bs x rest fits e =
      let h = then_ok (part_at end one bs) (λ y left. ordered (end - length bs) (is_last key xs y) y left) x rest e in
      let o = ordered_ok (end - length bs) (is_last key xs h.0) h.0 h.1 x rest h.3 in
      let p = c.taken bs h.0 h.1 fits (placed_ok (end - length bs) (one bs) h.0 h.1 h.2) in
      subst (λ (y : A). Takes bs (bytes y) rest × Fits y × (is_last key xs y ≡ true)) o.0 (subst (Takes bs (bytes h.0)) o.1 p.0, p.1, o.2)

  pub record ReadsMore (n : ℕ) (bs : List ℕ) (xs ys : List A) (rest : List ℕ) : Type 0 where
    pub more : List A
    pub is : ys ≡ xs ++ more
    pub count : length more ≡ n
    pub takes : Takes bs (flat_map bytes more) rest
    pub fit : All Fits more
    pub rising : Rising key ys

  pub some_taken : (n : ℕ) (xs : List A) (bs : List ℕ) (ys : List A) (rest : List ℕ) → IsBytes bs → Rising key xs
      → some_at (next_at end key one) n xs bs ≡ Ok (ys, rest) → ReadsMore n bs xs ys rest
  some_taken zero xs bs ys rest fits up e = record {
    more = [];
    is = sym (same_value xs ys bs rest e) ∙ sym (append-nil xs);
    count = refl;
    takes = record { parts = same_rest xs ys bs rest e; rest_fits = subst IsBytes (same_rest xs ys bs rest e) fits };
    fit = All-nil Fits;
    rising = subst (Rising key) (same_value xs ys bs rest e) up;
  }
  some_taken (suc n) xs bs ys rest fits up e =
      let h = then_ok (next_at end key one xs bs) (λ x after. some_at (next_at end key one) n (xs ++ x ∷ []) after) ys rest e in
      let p = next_taken xs bs h.0 h.1 fits h.2 in
      let q = some_taken n (xs ++ h.0 ∷ []) h.1 ys rest p.0.rest_fits (rising_push key xs h.0 up p.2) h.3 in
      record {
        more = h.0 ∷ q.more;
        is = q.is ∙ append_assoc xs (h.0 ∷ []) q.more;
        count = omega (arith, q.count);
        takes = Takes-then bs (bytes h.0) h.1 (flat_map bytes q.more) rest p.0 q.takes;
        fit = All-cons Fits h.0 q.more p.1 q.fit;
        rising = q.rising;
      }

  -- things of a list in order are read one after another
  pub some_again : (all : List A) → All Fits all → Rising key all → (more xs : List A) (rest : List ℕ) → xs ++ more ≡ all
      → some_at (next_at end key one) (length more) xs (flat_map bytes more ++ rest) ≡ Ok (all, rest)
  unfolding next_at
  some_again all fit up [] xs rest e = ap (λ (ys : List A). pair ys rest) (sym (append-nil xs) ∙ e)
  some_again all fit up (x ∷ more) xs rest e =
      let tail = flat_map bytes more ++ rest in
      let n = length xs in
      let front : take n all ≡ xs = ap (take n) (sym e) ∙ take-append_seam xs (x ∷ more) in
      let at : get_or all n x ≡ x = ap (λ (l : List A). get_or l n x) (sym e) ∙ get_or-append_seam xs x more x in
      let within : n < length all = omega (arith, ap length e, length-append xs (x ∷ more)) in
      let last : is_last key xs x ≡ true =
      subst (λ (l : List A). is_last key l x ≡ true) front (subst (λ (y : A). is_last key (take n all) y ≡ true) at (rising_at key all n x up within)) in
      let fits : Fits x = subst Fits at (fit n x within) in
      let place = end - length (bytes x ++ tail) in
      let first : next_at end key one xs (bytes x ++ tail) ≡ pair x tail =
      ap (λ (p : Part A). then_on (placed place p) (λ y left. ordered place (is_last key xs y) y left)) (c.again x tail fits)
      ∙ ap (λ (b : Bool). ordered place b x tail) last in
      ap (λ (bs : List ℕ). then_on (next_at end key one xs bs) (λ y after. some_at (next_at end key one) (length more) (xs ++ y ∷ []) after))
      (append_assoc (bytes x) (flat_map bytes more) rest)
      ∙ ap (λ (p : Parsed A). then_on p (λ y after. some_at (next_at end key one) (length more) (xs ++ y ∷ []) after)) first
      ∙ some_again all fit up more (xs ++ x ∷ []) rest (append_assoc xs (x ∷ []) more ∙ e)

  -- ---- behind their number
  module _ {count : List ℕ → Part ℕ} {number : ℕ → List ℕ} {Few : ℕ → Type 0} (k : Codec count number Few) where
    pub record ReadsList (bs : List ℕ) (xs : List A) (rest : List ℕ) : Type 0 where
      pub takes : Takes bs (number (length xs) ++ flat_map bytes xs) rest
      pub fit : All Fits xs
      pub few : Few (length xs)
      pub rising : Rising key xs

    pub list_taken : (bs : List ℕ) (xs : List A) (rest : List ℕ) → IsBytes bs → list_at end count key one bs ≡ Ok (xs, rest) → ReadsList bs xs rest
    list_taken bs xs rest fits e =
        let h = then_ok (part_at end count bs) (λ n after. some_at (next_at end key one) n [] after) xs rest e in
        let p = k.taken bs h.0 h.1 fits (placed_ok (end - length bs) (count bs) h.0 h.1 h.2) in
        let q = some_taken h.0 [] h.1 xs rest p.0.rest_fits (λ i j d lt inside. absurd (omega (arith, inside))) h.3 in
        let made : ReadsList bs q.more rest = record {
          takes = Takes-then bs (number (length q.more)) h.1 (flat_map bytes q.more) rest (subst (λ (n : ℕ). Takes bs (number n) h.1) (sym q.count) p.0) q.takes;
          fit = q.fit;
          few = subst Few (sym q.count) p.1;
          rising = subst (Rising key) q.is q.rising;
        } in
        subst (λ (ys : List A). ReadsList bs ys rest) (sym q.is) made

    pub list_again : (all : List A) (rest : List ℕ) → All Fits all → Rising key all → Few (length all)
        → list_at end count key one ((number (length all) ++ flat_map bytes all) ++ rest) ≡ Ok (all, rest)
    list_again all rest fit up few =
        ap (λ (bs : List ℕ). then_on (part_at end count bs) (λ n after. some_at (next_at end key one) n [] after))
        (append_assoc (number (length all)) (flat_map bytes all) rest)
        ∙ ap (λ (p : Parsed ℕ). then_on p (λ n after. some_at (next_at end key one) n [] after)) (part_again k end (length all) (flat_map bytes all ++ rest) few)
        ∙ some_again all fit up all [] rest refl
