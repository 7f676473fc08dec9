-- Finding functions by their names.
use Rattle.std.proofs.Common.{◌≡◌, ℕ, zero, suc, ◌+◌, ◌<◌, ◌≤◌, Bool, true, false, cond, List, [], ◌∷◌, ◌++◌, length, get_or, ap, sym, ◌∙◌, refl, arith}
use Rattle.std.specs.Prelude.{Option, Some, None, slice_get, option_map, bytes_eq}
use Rattle.std.specs.Prelude.{String}
use Rattle.std.specs.BTreeMap.{BTreeMap, get_by_text}
use Rattle.std.proofs.lemmas.List.{length-map, map-append}
use Rattle.std.proofs.lemmas.Slice.Eq.{bytes_eq-Decides}
use Rattle.pie_value.specs.Types.{parts_of}
use Rattle.pie_value.specs.TypeTrees.{ty_tree, ty_trees}
use Rattle.pie_value.specs.declared.ty.Ty.{Ty}
use Rattle.pie_types.specs.declared.headings.Heading.{Heading as DHeading}
use Rattle.pie_types.specs.Headings.{Heading, place_from, function_in}
use Rattle.pie_types.specs.inner.Shown.{heading_tree, heading_trees}
use Rattle.pie_types.specs.Operators.{part_at}
use Rattle.pie_types.specs.inner.Noted.{kept}

none_by : (b : Bool) (k n : ℕ) (q : List ℕ) (h : Heading) (hs : List Heading) → (place_from n q hs ≡ None → function_in q hs ≡ None)
    → cond b (Some k) (place_from n q hs) ≡ None → cond b (Some h) (function_in q hs) ≡ None
none_by true k n q h hs more p = cc
none_by false k n q h hs more p = more p

-- a name without a place has no function
pub no_place : (k : ℕ) (q : List ℕ) (hs : List Heading) → place_from k q hs ≡ None → function_in q hs ≡ None
no_place k q [] p = refl
no_place k q (h ∷ hs) p = none_by (bytes_eq q h.name) k (k + 1) q h hs (no_place (k + 1) q hs) p

shift_by : (b : Bool) (k : ℕ) (later : Option ℕ) (next : Option ℕ) → next ≡ option_map (λ (n : ℕ). n + 1) later
    → cond b (Some (k + 1)) next ≡ option_map (λ (n : ℕ). n + 1) (cond b (Some k) later)
shift_by true k later next h = refl
shift_by false k later next h = h

-- places are counted on
pub place_shift : (k : ℕ) (q : List ℕ) (hs : List Heading) → place_from (k + 1) q hs ≡ option_map (λ (n : ℕ). n + 1) (place_from k q hs)
place_shift k q [] = refl
place_shift k q (h ∷ hs) = shift_by (bytes_eq q h.name) k (place_from (k + 1) q hs) (place_from (k + 1 + 1) q hs) (place_shift (k + 1) q hs)

some_inj : {A : Type 0} (x y : A) → Some x ≡ Some y → x ≡ y
some_inj x y p = cc

later_place : (h : Heading) (hs : List Heading) (k : ℕ) (m : Option ℕ) (f : Option Heading) → ((n : ℕ) → m ≡ Some n → slice_get hs n ≡ f)
    → option_map (λ (n : ℕ). n + 1) m ≡ Some k → slice_get (h ∷ hs) k ≡ f
later_place h hs k None f at r = cc
later_place h hs k (Some n) f at r =
    ap (slice_get (h ∷ hs)) (sym (some_inj (n + 1) k r)) ∙ ap (slice_get (h ∷ hs)) (let d : n + 1 ≡ suc n = omega arith in d) ∙ at n refl

place_by : (b : Bool) (h : Heading) (hs : List Heading) (k : ℕ) (next : Option ℕ) (f : Option Heading) → (next ≡ Some k → slice_get (h ∷ hs) k ≡ f)
    → cond b (Some 0) next ≡ Some k → slice_get (h ∷ hs) k ≡ cond b (Some h) f
place_by true h hs k next f more r = ap (slice_get (h ∷ hs)) (sym (some_inj 0 k r))
place_by false h hs k next f more r = more r

-- the function of a name stands at its place
pub at_place : (q : List ℕ) (hs : List Heading) (k : ℕ) → place_from 0 q hs ≡ Some k → slice_get hs k ≡ function_in q hs
at_place q [] k p = cc
at_place q (h ∷ hs) k p = place_by (bytes_eq q h.name) h hs k (place_from 1 q hs) (function_in q hs)
    (λ r. later_place h hs k (place_from 0 q hs) (function_in q hs) (at_place q hs) (sym (place_shift 0 q hs) ∙ r)) p

append_by : (b : Bool) (k : ℕ) (next all other : Option ℕ) → all ≡ kept next other → cond b (Some k) all ≡ kept (cond b (Some k) next) other
append_by true k next all other h = refl
append_by false k next all other h = h

-- a name has the place that it had, or the last one
pub place_append : (k : ℕ) (q : List ℕ) (hs : List Heading) (h : Heading)
    → place_from k q (hs ++ h ∷ []) ≡ kept (place_from k q hs) (cond (bytes_eq q h.name) (Some (k + length hs)) None)
place_append k q [] h = ap (λ (n : ℕ). cond (bytes_eq q h.name) (Some n) None) (let d : k ≡ k + 0 = omega arith in d)
place_append k q (g ∷ hs) h = append_by (bytes_eq q g.name) k (place_from (k + 1) q hs) (place_from (k + 1) q (hs ++ h ∷ []))
    (cond (bytes_eq q h.name) (Some (k + length (g ∷ hs))) None)
    (place_append (k + 1) q hs h ∙ ap (λ (n : ℕ). kept (place_from (k + 1) q hs) (cond (bytes_eq q h.name) (Some n) None))
    (let d : (k + 1) + length hs ≡ k + length (g ∷ hs) = omega arith in d))

row_at : (hs : List DHeading) (n : ℕ) (d : DHeading) → n < length hs → slice_get (heading_trees hs) n ≡ Some (heading_tree (get_or hs n d))
row_at [] n d l = absurd (omega arith)
row_at (h ∷ hs) zero d l = refl
row_at (h ∷ hs) (suc n) d l = row_at hs n d (omega arith)

no_row : (hs : List DHeading) (n : ℕ) → length hs ≤ n → slice_get (heading_trees hs) n ≡ None
no_row [] n l = refl
no_row (h ∷ hs) zero l = absurd (omega arith)
no_row (h ∷ hs) (suc n) l = no_row hs n (omega arith)

-- the row at the place of a name is its function
pub at_row : (q : List ℕ) (hs : List DHeading) (n : ℕ) (h : DHeading) → n < length hs → h ≡ get_or hs n h → place_from 0 q (heading_trees hs) ≡ Some n
    → Some (heading_tree h) ≡ function_in q (heading_trees hs)
at_row q hs n h l e p = ap (λ (g : DHeading). Some (heading_tree g)) e ∙ sym (row_at hs n h l) ∙ at_place q (heading_trees hs) n p

-- no place is past the rows
pub past_rows : (q : List ℕ) (hs : List DHeading) (n : ℕ) → length hs ≤ n → place_from 0 q (heading_trees hs) ≡ Some n → None ≡ function_in q (heading_trees hs)
past_rows q hs n l p = sym (no_row hs n l) ∙ at_place q (heading_trees hs) n p

part_here : (ts : List Ty) (n : ℕ) (d : Ty) → n < length ts → part_at n (parts_of (ty_trees ts)) ≡ Some (ty_tree (get_or ts n d))
part_here [] n d l = absurd (omega arith)
part_here (t ∷ ts) zero d l = refl
part_here (t ∷ ts) (suc n) d l = part_here ts n d (omega arith)

-- the type at a number
pub part_is : (ts : List Ty) (n : ℕ) (t : Ty) → n < length ts → t ≡ get_or ts n t → part_at n (parts_of (ty_trees ts)) ≡ Some (ty_tree t)
part_is ts n t l e = part_here ts n t l ∙ ap (λ (u : Ty). Some (ty_tree u)) (sym e)

-- no type is past the last one
pub part_past : (ts : List Ty) (n : ℕ) → length ts ≤ n → part_at n (parts_of (ty_trees ts)) ≡ None
part_past [] n l = refl
part_past (t ∷ ts) zero l = absurd (omega arith)
part_past (t ∷ ts) (suc n) l = part_past ts n (omega arith)

-- the numbers of names are their places still, after one more
pub one_more_place : {Z : Type 0} (old new : BTreeMap (String Z) ℕ) (hs : List DHeading) (h : DHeading) (n : ℕ) (bs : List ℕ) → bs ≡ h.name → n ≡ length hs
    → ((q : List ℕ) → get_by_text old q ≡ place_from 0 q (heading_trees hs))
    → ((q : List ℕ) → get_by_text new q ≡ kept (get_by_text old q) (cond (bytes_eq q bs) (Some n) None))
    → (q : List ℕ) → get_by_text new q ≡ place_from 0 q (heading_trees (hs ++ h ∷ []))
one_more_place old new hs h n bs b e was now q =
    let m : n ≡ 0 + length (heading_trees hs) = e ∙ sym (length-map hs heading_tree)
    ∙ (let d : length (heading_trees hs) ≡ 0 + length (heading_trees hs) = omega arith in d) in
    now q ∙ ap (λ (cs : List ℕ). kept (get_by_text old q) (cond (bytes_eq q cs) (Some n) None)) b
    ∙ ap (λ (o : Option ℕ). kept o (cond (bytes_eq q h.name) (Some n) None)) (was q)
    ∙ ap (λ (m : ℕ). kept (place_from 0 q (heading_trees hs)) (cond (bytes_eq q h.name) (Some m) None)) m
    ∙ sym (place_append 0 q (heading_trees hs) (heading_tree h)) ∙ ap (place_from 0 q) (sym (map-append heading_tree hs (h ∷ [])))

by_test : (b c : Bool) (n : ℕ) (o : Option ℕ) → b ≡ c → (b ≡ true → o ≡ None) → cond b (Some n) o ≡ kept o (cond c (Some n) None)
by_test true true n o e h = ap (λ o. kept o (Some n)) (sym (h refl))
by_test false false n None e h = refl
by_test false false n (Some m) e h = refl
by_test true false n o e h = cc
by_test false true n o e h = cc

agree : (b c : Bool) → (b ≡ true → c ≡ true) → (c ≡ true → b ≡ true) → b ≡ c
agree true c h k = sym (h refl)
agree false true h k = k refl
agree false false h k = refl

same_either : (a b : List ℕ) → bytes_eq a b ≡ bytes_eq b a
same_either a b = agree (bytes_eq a b) (bytes_eq b a)
    (λ h. (bytes_eq-Decides b a).1 (sym ((bytes_eq-Decides a b).0 h)))
    (λ h. (bytes_eq-Decides a b).1 (sym ((bytes_eq-Decides b a).0 h)))

-- a number was noted at a name that had none
pub noted_so : {Z : Type 0} (old new : BTreeMap (String Z) ℕ) (bs : List ℕ) (n : ℕ) → get_by_text old bs ≡ None
    → ((q : List ℕ) → get_by_text new q ≡ cond (bytes_eq bs q) (Some n) (get_by_text old q))
    → (q : List ℕ) → get_by_text new q ≡ kept (get_by_text old q) (cond (bytes_eq q bs) (Some n) None)
noted_so old new bs n gone up q =
    up q ∙ by_test (bytes_eq bs q) (bytes_eq q bs) n (get_by_text old q) (same_either bs q)
    (λ h. ap (get_by_text old) (sym ((bytes_eq-Decides bs q).0 h)) ∙ gone)

kept_if : (c : Bool) (n : ℕ) (o : Option ℕ) → (c ≡ true → (m : ℕ) × (o ≡ Some m)) → o ≡ kept o (cond c (Some n) None)
kept_if c n (Some m) h = refl
kept_if false n None h = refl
kept_if true n None h = let p = h refl in let q = p.1 in cc

-- a name that has a number keeps it
pub kept_so : {Z : Type 0} (old : BTreeMap (String Z) ℕ) (bs : List ℕ) (n m : ℕ) → get_by_text old bs ≡ Some m
    → (q : List ℕ) → get_by_text old q ≡ kept (get_by_text old q) (cond (bytes_eq q bs) (Some n) None)
kept_so old bs n m there q = kept_if (bytes_eq q bs) n (get_by_text old q) (λ h. (m, ap (get_by_text old) ((bytes_eq-Decides q bs).0 h) ∙ there))
