-- What was written is read again.
use Rattle.std.proofs.Common.{◌≡◌, ℕ, suc, ◌+◌, ◌-◌, ◌^◌, ◌<◌, ◌≤◌, Bool, true, false, cond, List, [], ◌∷◌, ◌++◌, Ok, refl, sym}
use Rattle.std.proofs.Common.{ap, ◌∙◌, append_assoc, arith, IsTrue, ℤ}
use Rattle.std.specs.Str.{IsUtf8, is_utf8}
use Rattle.std.proofs.lemmas.Str.{is_utf8-from_IsUtf8}
use Rattle.std.proofs.lemmas.Bool.{and_from}
use Rattle.pie_base.specs.Path.{is_path}
use Rattle.pie_value.specs.declared.reader.Tag.TheVariants.{Unit as TagUnit, Bool as TagBool, Int as TagInt, Text as TagText}
use Rattle.pie_value.specs.declared.reader.Tag.TheVariants.{Path as TagPath, List as TagList, Tuple as TagTuple, Null as TagNull}
use Rattle.pie_value.specs.declared.reader.Tag.TheVariants.{Bytes as TagBytes}
use Rattle.pie_value.specs.Tree.{Tree, Trees, TUnit, TBool, TInt, TText, TPath, TList, TTuple, TNull, TBytes, Nil, Cons, items_of}
use Rattle.pie_value.specs.Tree.{list_of, count_of}
use Rattle.pie_value.specs.Size.{depth_of, deepest_of}
use Rattle.pie_value.specs.Canonical.{be32, counted, enc, encs, enc_items, HasShortParts, HaveShortParts, HasTrueLeaves, HaveTrueLeaves}
use Rattle.pie_value.specs.Reading.{Parsed, then_on, flag_of, is_path_text, values_of, items_prefix, value_within}
use Rattle.pie_value.proofs.Taking.{number_again, int_bytes, int_again, counted_again, tested_again}
use Rattle.pie_value.proofs.Turns.{value_goes}

pub items_of_list : (ts : Trees) → items_of (list_of ts) ≡ ts
items_of_list Nil = refl
items_of_list (Cons t ts) = ap (λ (us : Trees). Cons t us) (items_of_list ts)

append_nil : (ts : List Tree) → ts ++ [] ≡ ts
append_nil [] = refl
append_nil (t ∷ ts) = ap (λ (us : List Tree). t ∷ us) (append_nil ts)

abbrev found : {A : Type 0} → A × List ℕ → Parsed A
found p = Ok p

-- the byte of a truth value
abbrev cond_byte : Bool → ℕ
cond_byte b = cond b 1 0

count_suc : (ts : Trees) → count_of ts + 1 ≡ suc (count_of ts)
count_suc ts = omega arith

flag_again : (b : Bool) (rest : List ℕ) → flag_of (cond_byte b ∷ rest) ≡ Ok (b, rest)
flag_again true rest = refl
flag_again false rest = refl

path_again : (bs : List ℕ) → IsUtf8 bs → IsTrue (is_path bs) → is_path_text bs ≡ true
path_again bs u p = and_from (is_utf8 bs) (is_path bs) (is_utf8-from_IsUtf8 bs u) p

not_zero : (d n : ℕ) → n + 1 ≤ d → d ≡ 0 → ⊥
not_zero d n h e = omega arith

one_deep : (d : ℕ) → 1 ≤ d → d ≡ 0 → ⊥
one_deep d h e = omega arith

-- items are read behind their number
pub front_by : (value : List ℕ → Parsed Tree) (ts : Trees) (rest : List ℕ) → count_of ts < 2 ^ 32
    → values_of value (count_of ts) [] (encs ts ++ rest) ≡ Ok (list_of ts, rest) → items_prefix value (enc_items ts ++ rest) ≡ Ok (list_of ts, rest)
front_by value ts rest few e =
    ap (λ (x : List ℕ). items_prefix value x) (append_assoc (be32 (count_of ts)) (encs ts) rest)
    ∙ ap (λ (p : Parsed ℕ). then_on p (λ n after. values_of value n [] after)) (number_again (count_of ts) (encs ts ++ rest) few)
    ∙ e

mutual
  pub value_again : (d : ℕ) (t : Tree) (rest : List ℕ) → depth_of t ≤ d → HasShortParts t → HasTrueLeaves t
      → value_within d (enc t ++ rest) ≡ Ok (t, rest)
  value_again d TUnit rest deep short leaves = value_goes d (0 ∷ rest) TagUnit rest (one_deep d deep) refl
  value_again d (TBool b) rest deep short leaves =
      value_goes d (1 ∷ cond_byte b ∷ rest) TagBool (cond_byte b ∷ rest) (one_deep d deep) refl
      ∙ ap (λ (p : Parsed Bool). then_on p (λ x after. found (TBool x, after))) (flag_again b rest)
  value_again d (TInt n) rest deep short leaves =
      value_goes d (2 ∷ (int_bytes n ++ rest)) TagInt (int_bytes n ++ rest) (one_deep d deep) refl
      ∙ ap (λ (p : Parsed ℤ). then_on p (λ x after. found (TInt x, after))) (int_again n rest leaves)
  value_again d (TText bs) rest deep short leaves =
      value_goes d (3 ∷ (counted bs ++ rest)) TagText (counted bs ++ rest) (one_deep d deep) refl
      ∙ ap (λ (p : Parsed (List ℕ)). then_on p (λ x after. found (TText x, after))) (tested_again is_utf8 bs rest short (is_utf8-from_IsUtf8 bs leaves))
  value_again d (TPath bs) rest deep short leaves =
      value_goes d (4 ∷ (counted bs ++ rest)) TagPath (counted bs ++ rest) (one_deep d deep) refl
      ∙ ap (λ (p : Parsed (List ℕ)). then_on p (λ x after. found (TPath x, after))) (tested_again is_path_text bs rest short (path_again bs leaves.0 leaves.1))
  value_again d (TList ts) rest deep short leaves =
      value_goes d (5 ∷ (enc_items ts ++ rest)) TagList (enc_items ts ++ rest) (not_zero d (deepest_of ts) deep) refl
      ∙ ap (λ (p : Parsed (List Tree)). then_on p (λ x after. found (TList (items_of x), after)))
      (front_by (value_within (d - 1)) ts rest short.0 (items_again (d - 1) ts [] rest (omega arith) short.1 leaves))
      ∙ ap (λ (us : Trees). found (TList us, rest)) (items_of_list ts)
  value_again d (TTuple ts) rest deep short leaves =
      value_goes d (6 ∷ (enc_items ts ++ rest)) TagTuple (enc_items ts ++ rest) (not_zero d (deepest_of ts) deep) refl
      ∙ ap (λ (p : Parsed (List Tree)). then_on p (λ x after. found (TTuple (items_of x), after)))
      (front_by (value_within (d - 1)) ts rest short.0 (items_again (d - 1) ts [] rest (omega arith) short.1 leaves))
      ∙ ap (λ (us : Trees). found (TTuple us, rest)) (items_of_list ts)
  value_again d TNull rest deep short leaves = value_goes d (7 ∷ rest) TagNull rest (one_deep d deep) refl
  value_again d (TBytes bs) rest deep short leaves =
      value_goes d (8 ∷ (counted bs ++ rest)) TagBytes (counted bs ++ rest) (one_deep d deep) refl
      ∙ ap (λ (p : Parsed (List ℕ)). then_on p (λ x after. found (TBytes x, after))) (counted_again bs rest short)

  pub items_again : (d : ℕ) (ts : Trees) (us : List Tree) (rest : List ℕ) → deepest_of ts ≤ d → HaveShortParts ts → HaveTrueLeaves ts
      → values_of (value_within d) (count_of ts) us (encs ts ++ rest) ≡ Ok (us ++ list_of ts, rest)
  items_again d Nil us rest deep short leaves = ap (λ (x : List Tree). found (x, rest)) (sym (append_nil us))
  items_again d (Cons t ts) us rest deep short leaves =
      ap (λ (k : ℕ). values_of (value_within d) k us ((enc t ++ encs ts) ++ rest)) (count_suc ts)
      ∙ ap (λ (x : List ℕ). values_of (value_within d) (suc (count_of ts)) us x) (append_assoc (enc t) (encs ts) rest)
      ∙ ap (λ (p : Parsed Tree). then_on p (λ x after. values_of (value_within d) (count_of ts) (us ++ x ∷ []) after))
      (value_again d t (encs ts ++ rest) (omega arith) short.0 leaves.0)
      ∙ items_again d ts (us ++ t ∷ []) rest (omega arith) short.1 leaves.1
      ∙ ap (λ (x : List Tree). found (x, rest)) (append_assoc us (t ∷ []) (list_of ts))

pub prefix_again : (d : ℕ) (ts : Trees) (rest : List ℕ) → deepest_of ts ≤ d → count_of ts < 2 ^ 32 → HaveShortParts ts → HaveTrueLeaves ts
    → items_prefix (value_within d) (enc_items ts ++ rest) ≡ Ok (list_of ts, rest)
prefix_again d ts rest deep few short leaves = front_by (value_within d) ts rest few (items_again d ts [] rest deep short leaves)
