-- What is read is a canonical text, and each canonical text is read.
use Rattle.std.proofs.Common.{◌≡◌, ℕ, zero, suc, ◌+◌, ◌^◌, ◌<◌, ◌≤◌, Bool, true, false, ◌&&◌, List, [], ◌∷◌, ◌++◌, length, Ok}
use Rattle.std.proofs.Common.{Err, refl, sym, ap, subst, ◌∙◌, append_assoc, arith}
use Rattle.std.specs.Str.{is_utf8}
use Rattle.std.proofs.lemmas.Str.{IsUtf8-from_is_utf8}
use Rattle.pie_base.specs.Path.{is_path}
use Rattle.pie_value.specs.declared.value_fault.ValueFault.TheVariants.{TooDeep}
use Rattle.pie_value.specs.declared.reader.Tag.{Tag}
use Rattle.pie_value.specs.declared.reader.Tag.TheVariants.{Unit as TagUnit, Bool as TagBool, Int as TagInt, Text as TagText}
use Rattle.pie_value.specs.declared.reader.Tag.TheVariants.{Path as TagPath, List as TagList, Tuple as TagTuple, Null as TagNull}
use Rattle.pie_value.specs.declared.reader.Tag.TheVariants.{Bytes as TagBytes}
use Rattle.pie_value.specs.Tree.{Tree, Trees, TUnit, TBool, TInt, TText, TPath, TList, TTuple, TNull, TBytes, items_of, count_of}
use Rattle.pie_value.specs.Size.{depth_of, deepest_of}
use Rattle.pie_value.specs.Canonical.{be32, enc, encs, enc_items, HasShortParts, HaveShortParts, HasTrueLeaves, HaveTrueLeaves}
use Rattle.pie_value.specs.Reading.{Parsed, tag_of, flag_of, int_of, number_of, counted_of, tested_of, is_path_text, values_of}
use Rattle.pie_value.specs.Reading.{items_prefix, tagged, value_within}
use Rattle.pie_value.proofs.Elements.{count_of_items}
use Rattle.pie_value.proofs.Taking.{IsBytes, then_ok, same_value, same_rest, Takes, Takes-then, tag_byte, tag_takes, flag_takes}
use Rattle.pie_value.proofs.Taking.{number_takes, int_takes, counted_takes, tested_takes}

-- ---- what is read is a canonical text

-- a value that was read in front of other bytes
pub record ReadsOne (d : ℕ) (bs : List ℕ) (t : Tree) (rest : List ℕ) : Type 0 where
  pub takes : Takes bs (enc t) rest
  pub deep : depth_of t ≤ d
  pub short : HasShortParts t
  pub leaves : HasTrueLeaves t

-- items that were read in front of other bytes
pub record ReadsItems (d : ℕ) (bs : List ℕ) (ts : Trees) (rest : List ℕ) : Type 0 where
  pub takes : Takes bs (encs ts) rest
  pub deep : deepest_of ts ≤ d
  pub short : HaveShortParts ts
  pub leaves : HaveTrueLeaves ts

-- a reader of values that nest at most so deep
abbrev IsReader : ℕ → (List ℕ → Parsed Tree) → Type 0
IsReader d value = (bs : List ℕ) (t : Tree) (rest : List ℕ) → IsBytes bs → value bs ≡ Ok (t, rest) → ReadsOne d bs t rest

-- so many more values
record ReadsMore (d n : ℕ) (bs : List ℕ) (ts us : List Tree) (rest : List ℕ) : Type 0 where
  more : List Tree
  is : us ≡ ts ++ more
  count : length more ≡ n
  items : ReadsItems d bs (items_of more) rest

append_nil : (ts : List Tree) → ts ≡ ts ++ []
append_nil [] = refl
append_nil (t ∷ ts) = ap (λ (us : List Tree). t ∷ us) (append_nil ts)

values_read : (d : ℕ) (value : List ℕ → Parsed Tree) → IsReader d value → (n : ℕ) (ts : List Tree) (bs : List ℕ) (us : List Tree) (rest : List ℕ)
    → IsBytes bs → values_of value n ts bs ≡ Ok (us, rest) → ReadsMore d n bs ts us rest
values_read d value reads zero ts bs us rest fits e = record {
  more = [];
  is = sym (same_value ts us bs rest e) ∙ append_nil ts;
  count = refl;
  items = record {
    takes = record { parts = same_rest ts us bs rest e; rest_fits = subst IsBytes (same_rest ts us bs rest e) fits };
    deep = omega arith;
    short = tt;
    leaves = tt;
  };
}
values_read d value reads (suc n) ts bs us rest fits e =
    let h = then_ok (value bs) (λ t after. values_of value n (ts ++ t ∷ []) after) us rest e in
    let p = reads bs h.0 h.1 fits h.2 in
    let q = values_read d value reads n (ts ++ h.0 ∷ []) h.1 us rest p.takes.rest_fits h.3 in
    record {
      more = h.0 ∷ q.more;
      is = q.is ∙ append_assoc ts (h.0 ∷ []) q.more;
      count = omega (arith, q.count);
      items = record {
        takes = Takes-then bs (enc h.0) h.1 (encs (items_of q.more)) rest p.takes q.items.takes;
        deep = omega (arith, p.deep, q.items.deep);
        short = (p.short, q.items.short);
        leaves = (p.leaves, q.items.leaves);
      };
    }

-- items behind their number
pub record ReadsPrefix (d : ℕ) (bs : List ℕ) (ts : List Tree) (rest : List ℕ) : Type 0 where
  pub takes : Takes bs (enc_items (items_of ts)) rest
  pub few : count_of (items_of ts) < 2 ^ 32
  pub deep : deepest_of (items_of ts) ≤ d
  pub short : HaveShortParts (items_of ts)
  pub leaves : HaveTrueLeaves (items_of ts)

pub front_read : (d : ℕ) (value : List ℕ → Parsed Tree) → IsReader d value → (bs : List ℕ) (ts : List Tree) (rest : List ℕ)
    → IsBytes bs → items_prefix value bs ≡ Ok (ts, rest) → ReadsPrefix d bs ts rest
front_read d value reads bs ts rest fits e =
    let h = then_ok (number_of bs) (λ n after. values_of value n [] after) ts rest e in
    let p = number_takes bs h.0 h.1 fits h.2 in
    let q = values_read d value reads h.0 [] h.1 ts rest p.0.rest_fits h.3 in
    let n : h.0 ≡ count_of (items_of q.more) = sym q.count ∙ sym (count_of_items q.more) in
    let made : ReadsPrefix d bs q.more rest = record {
      takes = Takes-then bs (be32 (count_of (items_of q.more))) h.1 (encs (items_of q.more)) rest
          (subst (λ (k : ℕ). Takes bs (be32 k) h.1) n p.0) q.items.takes;
      few = subst (λ (k : ℕ). k < 2 ^ 32) n p.1;
      deep = q.items.deep;
      short = q.items.short;
      leaves = q.items.leaves;
    } in
    subst (λ (us : List Tree). ReadsPrefix d bs us rest) (sym q.is) made

both_true : (a b : Bool) → (a && b) ≡ true → (a ≡ true) × (b ≡ true)
both_true true true e = (refl, refl)
both_true true false e = absurd (cc)
both_true false b e = absurd (cc)

-- the tag before what follows it
with_tag : (tag : Tag) (bs mid text rest : List ℕ) → Takes bs (tag_byte tag ∷ []) mid → Takes mid text rest → Takes bs (tag_byte tag ∷ text) rest
with_tag tag bs mid text rest p q = Takes-then bs (tag_byte tag ∷ []) mid text rest p q

nothing_more : (tag : Tag) (bs mid rest : List ℕ) → Takes bs (tag_byte tag ∷ []) mid → mid ≡ rest → Takes bs (tag_byte tag ∷ []) rest
nothing_more tag bs mid rest p e = subst (Takes bs (tag_byte tag ∷ [])) e p

-- a value of another name for its tree
abbrev renamed : (d : ℕ) (bs : List ℕ) (t u : Tree) (rest : List ℕ) → t ≡ u → ReadsOne d bs t rest → ReadsOne d bs u rest
renamed d bs t u rest e r = subst (λ (x : Tree). ReadsOne d bs x rest) e r

tagged_read : (d : ℕ) (value : List ℕ → Parsed Tree) → IsReader d value → (tag : Tag) (bs mid : List ℕ) (t : Tree) (rest : List ℕ)
    → Takes bs (tag_byte tag ∷ []) mid → tagged value tag mid ≡ Ok (t, rest) → ReadsOne (d + 1) bs t rest
tagged_read d value reads TagUnit bs mid t rest p e =
    renamed (d + 1) bs TUnit t rest (same_value TUnit t mid rest e)
    (record { takes = nothing_more TagUnit bs mid rest p (same_rest TUnit t mid rest e); deep = omega arith; short = tt; leaves = tt })
tagged_read d value reads TagNull bs mid t rest p e =
    renamed (d + 1) bs TNull t rest (same_value TNull t mid rest e)
    (record { takes = nothing_more TagNull bs mid rest p (same_rest TNull t mid rest e); deep = omega arith; short = tt; leaves = tt })
tagged_read d value reads TagBool bs mid t rest p e =
    let h = then_ok (flag_of mid) (λ b after. Ok (TBool b, after)) t rest e in
    let q = flag_takes mid h.0 h.1 p.rest_fits h.2 in
    renamed (d + 1) bs (TBool h.0) t rest (same_value (TBool h.0) t h.1 rest h.3)
    (record {
      takes = subst (Takes bs (enc (TBool h.0))) (same_rest (TBool h.0) t h.1 rest h.3)
          (with_tag TagBool bs mid _ h.1 p q);
      deep = omega arith;
      short = tt;
      leaves = tt;
    })
tagged_read d value reads TagInt bs mid t rest p e =
    let h = then_ok (int_of mid) (λ n after. Ok (TInt n, after)) t rest e in
    let q = int_takes mid h.0 h.1 p.rest_fits h.2 in
    renamed (d + 1) bs (TInt h.0) t rest (same_value (TInt h.0) t h.1 rest h.3)
    (record {
      takes = subst (Takes bs (enc (TInt h.0))) (same_rest (TInt h.0) t h.1 rest h.3)
          (with_tag TagInt bs mid _ h.1 p q.0);
      deep = omega arith;
      short = tt;
      leaves = q.1;
    })
tagged_read d value reads TagText bs mid t rest p e =
    let h = then_ok (tested_of is_utf8 mid) (λ s after. Ok (TText s, after)) t rest e in
    let q = tested_takes is_utf8 mid h.0 h.1 p.rest_fits h.2 in
    renamed (d + 1) bs (TText h.0) t rest (same_value (TText h.0) t h.1 rest h.3)
    (record {
      takes = subst (Takes bs (enc (TText h.0))) (same_rest (TText h.0) t h.1 rest h.3)
          (with_tag TagText bs mid _ h.1 p q.0);
      deep = omega arith;
      short = q.1;
      leaves = IsUtf8-from_is_utf8 h.0 q.2;
    })
tagged_read d value reads TagPath bs mid t rest p e =
    let h = then_ok (tested_of is_path_text mid) (λ s after. Ok (TPath s, after)) t rest e in
    let q = tested_takes is_path_text mid h.0 h.1 p.rest_fits h.2 in
    let both = both_true (is_utf8 h.0) (is_path h.0) q.2 in
    renamed (d + 1) bs (TPath h.0) t rest (same_value (TPath h.0) t h.1 rest h.3)
    (record {
      takes = subst (Takes bs (enc (TPath h.0))) (same_rest (TPath h.0) t h.1 rest h.3)
          (with_tag TagPath bs mid _ h.1 p q.0);
      deep = omega arith;
      short = q.1;
      leaves = (IsUtf8-from_is_utf8 h.0 both.0, both.1);
    })
tagged_read d value reads TagList bs mid t rest p e =
    let h = then_ok (items_prefix value mid) (λ ts after. Ok (TList (items_of ts), after)) t rest e in
    let q = front_read d value reads mid h.0 h.1 p.rest_fits h.2 in
    renamed (d + 1) bs (TList (items_of h.0)) t rest (same_value (TList (items_of h.0)) t h.1 rest h.3)
    (record {
      takes = subst (Takes bs (enc (TList (items_of h.0)))) (same_rest (TList (items_of h.0)) t h.1 rest h.3)
          (with_tag TagList bs mid _ h.1 p q.takes);
      deep = omega (arith, q.deep);
      short = (q.few, q.short);
      leaves = q.leaves;
    })
tagged_read d value reads TagTuple bs mid t rest p e =
    let h = then_ok (items_prefix value mid) (λ ts after. Ok (TTuple (items_of ts), after)) t rest e in
    let q = front_read d value reads mid h.0 h.1 p.rest_fits h.2 in
    renamed (d + 1) bs (TTuple (items_of h.0)) t rest (same_value (TTuple (items_of h.0)) t h.1 rest h.3)
    (record {
      takes = subst (Takes bs (enc (TTuple (items_of h.0)))) (same_rest (TTuple (items_of h.0)) t h.1 rest h.3)
          (with_tag TagTuple bs mid _ h.1 p q.takes);
      deep = omega (arith, q.deep);
      short = (q.few, q.short);
      leaves = q.leaves;
    })
tagged_read d value reads TagBytes bs mid t rest p e =
    let h = then_ok (counted_of mid) (λ s after. Ok (TBytes s, after)) t rest e in
    let q = counted_takes mid h.0 h.1 p.rest_fits h.2 in
    renamed (d + 1) bs (TBytes h.0) t rest (same_value (TBytes h.0) t h.1 rest h.3)
    (record {
      takes = subst (Takes bs (enc (TBytes h.0))) (same_rest (TBytes h.0) t h.1 rest h.3)
          (with_tag TagBytes bs mid _ h.1 p q.0);
      deep = omega arith;
      short = q.1;
      leaves = tt;
    })

pub value_read : (d : ℕ) → IsReader d (value_within d)
value_read zero bs t rest fits e =
    let h = then_ok (tag_of bs) (λ tag after. Err TooDeep) t rest e in absurd (cc (h.3))
value_read (suc d) bs t rest fits e =
    let h = then_ok (tag_of bs) (tagged (value_within d)) t rest e in
    let p = tag_takes bs h.0 h.1 fits h.2 in
    let r = tagged_read d (value_within d) (value_read d) h.0 bs h.1 t rest p h.3 in
    record { takes = r.takes; deep = omega (arith, r.deep); short = r.short; leaves = r.leaves }
