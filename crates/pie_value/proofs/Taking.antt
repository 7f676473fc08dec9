-- A part that is read is the part that was written, and what was written is read again.
use Rattle.std.proofs.Common.{◌≡◌, ℕ, ◌+◌, ◌^◌, ◌<◌, ◌≤◌, Bool, true, false, cond, List, [], ◌∷◌, ◌++◌, length, get_or, take}
use Rattle.std.proofs.Common.{drop, Option, Some, None, Ok, Err, refl, sym, ap, subst, ◌∙◌, append_assoc, arith, inl, inr, ℤ}
use Rattle.std.proofs.Common.{FitsSigned}
use Rattle.std.specs.Prelude.{nat_le, ◌==◌, ◌⊎◌}
use Rattle.std.specs.Int.{w32, w64, from_be_bytes, to_be_bytes, cast_unsigned, cast_signed}
use Rattle.std.proofs.lemmas.Bool.{cases_lt, leb-true, le-leb, eqb-true}
use Rattle.std.proofs.lemmas.List.{take-append-drop, length-append, length-take, get_or-drop, get_or-take, get_or_past}
use Rattle.std.proofs.Math.Seq.{take-append_seam, drop-append_seam}
use Rattle.std.proofs.lemmas.Nat.{be_bytes_4, be_bytes_8, from_be_bytes-to_be_bytes_4, from_be_bytes-to_be_bytes_8}
use Rattle.std.proofs.lemmas.Int.{to_z-of_z, of_z-to_z}
use Rattle.std.proofs.Math.Facts.{sfits_to_z, Fits-of_lt, Fits-of_z, Fits-lt-pow}
use Rattle.pie_value.specs.declared.value_fault.ValueFault.{ValueFault}
use Rattle.pie_value.specs.declared.value_fault.ValueFault.TheVariants.{Short, BadText}
use Rattle.pie_value.specs.declared.reader.Tag.{Tag}
use Rattle.pie_value.specs.declared.reader.Tag.TheVariants.{Unit as TagUnit, Bool as TagBool, Int as TagInt, Text as TagText}
use Rattle.pie_value.specs.declared.reader.Tag.TheVariants.{Path as TagPath, List as TagList, Tuple as TagTuple, Null as TagNull}
use Rattle.pie_value.specs.declared.reader.Tag.TheVariants.{Bytes as TagBytes}
use Rattle.pie_value.specs.Canonical.{be32, counted}
use Rattle.pie_value.specs.Reading.{Parsed, then_on, byte_of, bytes_of, number_of, int_of, counted_of, tested_of, known, tag_at}
use Rattle.pie_value.specs.Reading.{flag_at, tag_of, flag_of}

abbrev pub IsBytes : List ℕ → Type 0
IsBytes bytes = (i : ℕ) → get_or bytes i 0 < 256

IsBytes-drop : (n : ℕ) (bytes : List ℕ) → IsBytes bytes → IsBytes (drop n bytes)
IsBytes-drop n bytes h i = rw get_or-drop (h (n + i))

IsBytes-take : (n : ℕ) (bytes : List ℕ) → IsBytes bytes → IsBytes (take n bytes)
IsBytes-take n bytes h i =
    elim (cases_lt i n) [
      | inl lt ↦ rw (get_or-take n bytes i 0 lt) (h i)
      | inr le ↦ rw (get_or_past (take n bytes) i 0 (omega (arith, length-take n bytes))) (omega arith)
    ]

-- the first of two steps did not fail
pub then_ok : {A B : Type 0} (p : Parsed A) (k : A → List ℕ → Parsed B) (b : B) (rest : List ℕ) → then_on p k ≡ Ok (b, rest)
    → (a : A) × (mid : List ℕ) × (p ≡ Ok (a, mid)) × (k a mid ≡ Ok (b, rest))
then_ok (Ok q) k b rest e = (q.0, q.1, refl, e)
then_ok (Err d) k b rest e = absurd (cc)

abbrev pair : {A : Type 0} → A → List ℕ → Parsed A
pair a rest = Ok (a, rest)

found : {A : Type 0} → A × List ℕ → Parsed A
found p = Ok p

same_pair : {A : Type 0} (p q : A × List ℕ) → found p ≡ found q → p ≡ q
unfolding found
same_pair p q e = cc

pub same_value : {A : Type 0} (a b : A) (x y : List ℕ) → pair a x ≡ pair b y → a ≡ b
unfolding found
same_value {A = A} a b x y e = ap (λ (p : A × List ℕ). p.0) (same_pair (a, x) (b, y) e)

pub same_rest : {A : Type 0} (a b : A) (x y : List ℕ) → pair a x ≡ pair b y → x ≡ y
unfolding found
same_rest {A = A} a b x y e = ap (λ (p : A × List ℕ). p.1) (same_pair (a, x) (b, y) e)

-- what a reader took from the front
pub record Takes (bytes text rest : List ℕ) : Type 0 where
  pub parts : bytes ≡ text ++ rest
  pub rest_fits : IsBytes rest

pub Takes-then : (a x b y c : List ℕ) → Takes a x b → Takes b y c → Takes a (x ++ y) c
Takes-then a x b y c p q =
    record { parts = p.parts ∙ ap (λ (t : List ℕ). x ++ t) q.parts ∙ sym (append_assoc x y c); rest_fits = q.rest_fits }

-- ---- single bytes

pub byte_takes : (bs : List ℕ) (b : ℕ) (rest : List ℕ) → IsBytes bs → byte_of bs ≡ Ok (b, rest) → Takes bs (b ∷ []) rest
byte_takes [] b rest fits e = absurd (cc)
byte_takes (x ∷ xs) b rest fits e =
    let h = same_value x b xs rest e in
    let k = same_rest x b xs rest e in
    record { parts = cc; rest_fits = subst IsBytes k (IsBytes-drop 1 (x ∷ xs) fits) }

known_ok : {A : Type 0} (o : Option A) (rest : List ℕ) (a : A) (after : List ℕ) → known o rest ≡ Ok (a, after) → (o ≡ Some a) × (rest ≡ after)
known_ok None rest a after e = absurd (cc)
known_ok (Some x) rest a after e = (ap Some (same_value x a rest after e), same_rest x a rest after e)

-- the byte of a kind of value
abbrev pub tag_byte : Tag → ℕ
tag_byte TagUnit = 0
tag_byte TagBool = 1
tag_byte TagInt = 2
tag_byte TagText = 3
tag_byte TagPath = 4
tag_byte TagList = 5
tag_byte TagTuple = 6
tag_byte TagNull = 7
tag_byte TagBytes = 8

choice : {A : Type 0} (b : Bool) (x : A) (o : Option A) (y : A) → cond b (Some x) o ≡ Some y → ((b ≡ true) × (x ≡ y)) ⊎ (o ≡ Some y)
choice true x o y e = inl (refl, cc)
choice false x o y e = inr e

tag_step : (b n : ℕ) (t u : Tag) (o : Option Tag) → tag_byte t ≡ n → (o ≡ Some u → b ≡ tag_byte u)
    → cond (b == n) (Some t) o ≡ Some u → b ≡ tag_byte u
tag_step b n t u o h k e =
    elim (choice (b == n) t o u e) [ inl p ↦ eqb-true b n p.0 ∙ sym h ∙ ap tag_byte p.1 | inr q ↦ k q ]

tag_is : (b : ℕ) (u : Tag) → tag_at b ≡ Some u → b ≡ tag_byte u
tag_is b u =
    tag_step b 0 TagUnit u _ refl (tag_step b 1 TagBool u _ refl (tag_step b 2 TagInt u _ refl
    (tag_step b 3 TagText u _ refl (tag_step b 4 TagPath u _ refl (tag_step b 5 TagList u _ refl
    (tag_step b 6 TagTuple u _ refl (tag_step b 7 TagNull u _ refl (tag_step b 8 TagBytes u _ refl
    (λ e. absurd (cc))))))))))

pub tag_takes : (bs : List ℕ) (tag : Tag) (rest : List ℕ) → IsBytes bs → tag_of bs ≡ Ok (tag, rest) → Takes bs (tag_byte tag ∷ []) rest
tag_takes bs tag rest fits e =
    let h = then_ok (byte_of bs) (λ b after. known (tag_at b) after) tag rest e in
    let k = known_ok (tag_at h.0) h.1 tag rest h.3 in
    let p = byte_takes bs h.0 h.1 fits h.2 in
    let b : h.0 ≡ tag_byte tag = tag_is h.0 tag k.0 in
    record { parts = p.parts ∙ ap (λ (x : ℕ). x ∷ h.1) b ∙ ap (λ (x : List ℕ). tag_byte tag ∷ x) k.1; rest_fits = subst IsBytes k.1 p.rest_fits }

flag_is : (n : ℕ) (b : Bool) → flag_at n ≡ Some b → n ≡ cond b 1 0
flag_is n b e =
    elim (choice (n == 0) false _ b e) [
      | inl p ↦ eqb-true n 0 p.0 ∙ ap (λ (x : Bool). cond x 1 0) p.1
      | inr q ↦ elim (choice (n == 1) true None b q) [
        | inl p ↦ eqb-true n 1 p.0 ∙ ap (λ (x : Bool). cond x 1 0) p.1
        | inr r ↦ absurd (cc)
      ]
    ]

pub flag_takes : (bs : List ℕ) (b : Bool) (rest : List ℕ) → IsBytes bs → flag_of bs ≡ Ok (b, rest) → Takes bs (cond b 1 0 ∷ []) rest
flag_takes bs b rest fits e =
    let h = then_ok (byte_of bs) (λ n after. known (flag_at n) after) b rest e in
    let k = known_ok (flag_at h.0) h.1 b rest h.3 in
    let p = byte_takes bs h.0 h.1 fits h.2 in
    let n : h.0 ≡ cond b 1 0 = flag_is h.0 b k.0 in
    record { parts = p.parts ∙ ap (λ (x : ℕ). x ∷ h.1) n ∙ ap (λ (x : List ℕ). cond b 1 0 ∷ x) k.1; rest_fits = subst IsBytes k.1 p.rest_fits }

-- ---- so many bytes

guard_ok : {A : Type 0} (b : Bool) (a : A) (x : List ℕ) (d : ValueFault) (c : A) (y : List ℕ) → cond b (pair a x) (Err d) ≡ Ok (c, y)
    → (b ≡ true) × (a ≡ c) × (x ≡ y)
guard_ok true a x d c y e = (refl, same_value a c x y e, same_rest a c x y e)
guard_ok false a x d c y e = absurd (cc)

pub bytes_takes : (n : ℕ) (bs text rest : List ℕ) → IsBytes bs → bytes_of n bs ≡ Ok (text, rest)
    → Takes bs text rest × (length text ≡ n) × IsBytes text
bytes_takes n bs text rest fits e =
    let g = guard_ok (nat_le n (length bs)) (take n bs) (drop n bs) Short text rest e in
    let long : n ≤ length bs = leb-true n (length bs) g.0 in
    let len : length (take n bs) ≡ n = omega (arith, length-take n bs) in (
      record {
        parts = sym (take-append-drop n bs) ∙ ap (λ (x : List ℕ). x ++ drop n bs) g.1 ∙ ap (λ (x : List ℕ). text ++ x) g.2;
        rest_fits = subst IsBytes g.2 (IsBytes-drop n bs fits);
      },
      ap length (sym g.1) ∙ len,
      subst IsBytes g.1 (IsBytes-take n bs fits),
    )

pub bytes_again : (text rest : List ℕ) → bytes_of (length text) (text ++ rest) ≡ Ok (text, rest)
bytes_again text rest =
    rw (le-leb (length text) (length (text ++ rest)) (omega (arith, length-append text rest)), take-append_seam text rest, drop-append_seam text rest)

number_below : (ds : List ℕ) → IsBytes ds → from_be_bytes w32 ds < 2 ^ 32
number_below ds fits = omega (arith, fits 0, fits 1, fits 2, fits 3)

int_below : (ds : List ℕ) → IsBytes ds → from_be_bytes w64 ds < 2 ^ 64
int_below ds fits = omega (arith, fits 0, fits 1, fits 2, fits 3, fits 4, fits 5, fits 6, fits 7)

pub number_takes : (bs : List ℕ) (n : ℕ) (rest : List ℕ) → IsBytes bs → number_of bs ≡ Ok (n, rest) → Takes bs (be32 n) rest × (n < 2 ^ 32)
unfolding number_of be32
number_takes bs n rest fits e =
    let h = then_ok (bytes_of 4 bs) (λ ds after. pair (from_be_bytes w32 ds) after) n rest e in
    let p = bytes_takes 4 bs h.0 h.1 fits h.2 in
    let v : from_be_bytes w32 h.0 ≡ n = same_value _ _ h.1 rest h.3 in
    let r : h.1 ≡ rest = same_rest (from_be_bytes w32 h.0) n _ _ h.3 in
    let b : to_be_bytes w32 n ≡ h.0 = be_bytes_4 h.0 n p.1 p.2 (sym v) in (
      record {
        parts = p.0.parts ∙ ap (λ (x : List ℕ). x ++ h.1) (sym b) ∙ ap (λ (x : List ℕ). to_be_bytes w32 n ++ x) r;
        rest_fits = subst IsBytes r p.0.rest_fits;
      },
      subst (λ (x : ℕ). x < 2 ^ 32) v (number_below h.0 p.2),
    )

pub number_again : (n : ℕ) (rest : List ℕ) → n < 2 ^ 32 → number_of (be32 n ++ rest) ≡ Ok (n, rest)
unfolding number_of be32
number_again n rest lt =
    ap (λ (p : Parsed (List ℕ)). then_on p (λ ds after. pair (from_be_bytes w32 ds) after)) (bytes_again (to_be_bytes w32 n) rest)
    ∙ ap (λ (x : ℕ). pair x rest) (from_be_bytes-to_be_bytes_4 n lt)

abbrev pub int_bytes : ℤ → List ℕ
int_bytes n = to_be_bytes w64 (cast_unsigned w64 n)

pub int_takes : (bs : List ℕ) (n : ℤ) (rest : List ℕ) → IsBytes bs → int_of bs ≡ Ok (n, rest) → Takes bs (int_bytes n) rest × FitsSigned w64 n
unfolding int_of
int_takes bs n rest fits e =
    let h = then_ok (bytes_of 8 bs) (λ ds after. pair (cast_signed w64 (from_be_bytes w64 ds)) after) n rest e in
    let p = bytes_takes 8 bs h.0 h.1 fits h.2 in
    let v : cast_signed w64 (from_be_bytes w64 h.0) ≡ n = same_value _ _ h.1 rest h.3 in
    let r : h.1 ≡ rest = same_rest (cast_signed w64 (from_be_bytes w64 h.0)) n _ _ h.3 in
    let u : cast_unsigned w64 n ≡ from_be_bytes w64 h.0 = ap (cast_unsigned w64) (sym v) ∙ of_z-to_z w64 _ (int_below h.0 p.2) in
    let b : int_bytes n ≡ h.0 = be_bytes_8 h.0 _ p.1 p.2 u in (
      record {
        parts = p.0.parts ∙ ap (λ (x : List ℕ). x ++ h.1) (sym b) ∙ ap (λ (x : List ℕ). int_bytes n ++ x) r;
        rest_fits = subst IsBytes r p.0.rest_fits;
      },
      subst (FitsSigned w64) v (sfits_to_z (Fits-of_lt (int_below h.0 p.2))),
    )

pub int_again : (n : ℤ) (rest : List ℕ) → FitsSigned w64 n → int_of (int_bytes n ++ rest) ≡ Ok (n, rest)
unfolding int_of
int_again n rest fits =
    ap (λ (p : Parsed (List ℕ)). then_on p (λ ds after. pair (cast_signed w64 (from_be_bytes w64 ds)) after)) (bytes_again (int_bytes n) rest)
    ∙ ap (λ (x : ℕ). pair (cast_signed w64 x) rest) (from_be_bytes-to_be_bytes_8 (cast_unsigned w64 n) (Fits-lt-pow (Fits-of_z fits)))
    ∙ ap (λ (x : ℤ). pair x rest) (to_z-of_z w64 n fits)

-- ---- bytes behind their length

pub counted_takes : (bs text rest : List ℕ) → IsBytes bs → counted_of bs ≡ Ok (text, rest) → Takes bs (counted text) rest × (length text < 2 ^ 32)
counted_takes bs text rest fits e =
    let h = then_ok (number_of bs) bytes_of text rest e in
    let p = number_takes bs h.0 h.1 fits h.2 in
    let q = bytes_takes h.0 h.1 text rest p.0.rest_fits h.3 in (
      Takes-then bs (be32 (length text)) h.1 text rest (subst (λ (x : ℕ). Takes bs (be32 x) h.1) (sym q.1) p.0) q.0,
      subst (λ (x : ℕ). x < 2 ^ 32) (sym q.1) p.1,
    )

pub counted_again : (text rest : List ℕ) → length text < 2 ^ 32 → counted_of (counted text ++ rest) ≡ Ok (text, rest)
counted_again text rest lt =
    rw append_assoc (ap (λ (p : Parsed ℕ). then_on p bytes_of) (number_again (length text) (text ++ rest) lt) ∙ bytes_again text rest)

pub tested_takes : (test : List ℕ → Bool) (bs text rest : List ℕ) → IsBytes bs → tested_of test bs ≡ Ok (text, rest)
    → Takes bs (counted text) rest × (length text < 2 ^ 32) × (test text ≡ true)
tested_takes test bs text rest fits e =
    let h = then_ok (counted_of bs) (λ t after. cond (test t) (Ok (t, after)) (Err BadText)) text rest e in
    let g = guard_ok (test h.0) h.0 h.1 BadText text rest h.3 in
    let p = counted_takes bs text rest fits (h.2 ∙ ap (λ (x : List ℕ). pair x h.1) g.1 ∙ ap (λ (x : List ℕ). pair text x) g.2) in
    (p.0, p.1, subst (λ (x : List ℕ). test x ≡ true) g.1 g.0)

pub tested_again : (test : List ℕ → Bool) (text rest : List ℕ) → length text < 2 ^ 32 → test text ≡ true
    → tested_of test (counted text ++ rest) ≡ Ok (text, rest)
tested_again test text rest lt h =
    ap (λ (p : Parsed (List ℕ)). then_on p (λ t after. cond (test t) (pair t after) (Err BadText))) (counted_again text rest lt)
    ∙ ap (λ (b : Bool). cond b (pair text rest) (Err BadText)) h
