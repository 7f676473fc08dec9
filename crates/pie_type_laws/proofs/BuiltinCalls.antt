-- Each built-in function, on arguments that fit.
use Rattle.std.proofs.Common.{◌≡◌, ℕ, true, cond, List, ◌++◌, map, refl, sym, subst}
use Rattle.std.specs.Prelude.{ℤ, pos, Option, Some, None, codes, slice_get, reverse, is_some}
use Rattle.std.specs.Int.{int_gap}
use Rattle.std.specs.Str.{is_utf8}
use Rattle.std.specs.List.{after_last}
use Rattle.std.specs.Ordering.{nat_cmp, int_cmp}
use Rattle.std.specs.Cmp.Lexicographic.{slice_cmp}
use Rattle.pie_base.specs.Path.{is_slash, parent_of}
use Rattle.pie_value.specs.declared.builtin.Builtin.{Builtin}
use Rattle.pie_value.specs.declared.builtin.Builtin.TheVariants as builtins
use Rattle.pie_value.specs.Tree.{Tree as Val, Trees as Vals, TBool, TInt, TText, TPath, TList, TNull, TBytes, Nil, Cons, items_of, list_of}
use Rattle.pie_value.specs.Types.{TyTree, BoolTy, IntTy, TextTy, PathTy, ListTy, NullableTy, BytesTy, parts_of}
use Rattle.pie_value.specs.HasType.{has_type, all_items}
use Rattle.pie_value.specs.BuiltinForms.{Answered, made, given, at_place, cut_out}
use Rattle.pie_value.specs.BuiltinTexts.{starts_with, ends_with, first_place, with_between, replaced, lines_of, trimmed, is_between_characters, int_spelt}
use Rattle.pie_value.specs.BuiltinItems.{all_as, as_int, as_text, as_path, as_bytes, as_list, sorted_by, ints_from, all_joined}
use Rattle.pie_value.specs.Builtins.{path_or_fault, text_answer, length_answer, split_answer, item_or_fault, sort_answer, some_answer}
use Rattle.pie_value.specs.Builtins.{get_answer, is_null, answer_of}
use Rattle.pie_signature.specs.declared.wanted.Wanted.TheVariants as wants
use Rattle.pie_signature.specs.Wanted.{fits}
use Rattle.pie_signature.specs.Signatures.{wanted_of, answer_type_of}
use Rattle.pie_types.specs.Calls.{first}
use Rattle.pie_type_laws.specs.Fitting.{IsOf}
use Rattle.pie_type_laws.proofs.Acts.{Good}
use Rattle.pie_type_laws.proofs.Inhabitants.{AllOf, EachOf, both, of_int, of_text, of_path, of_list}
use Rattle.pie_type_laws.proofs.Operators.{either_good, made_good}
use Rattle.pie_type_laws.proofs.Items.{mapped_all, reversed_all, at_good, ints_all, all_as_some, all_as_none, joined_lists}
use Rattle.pie_type_laws.proofs.Wishes.{Meet, one_good, two_good, three_good, want_path, want_bytes, want_list, want_texts, want_lists}
use Rattle.pie_type_laws.proofs.BuiltinTypes.{path_good, mapped_or_null, texts_good, split_good, text_good, of_path_good, int_good, two_texts_good, place_good}
use Rattle.pie_type_laws.proofs.BuiltinTypes.{cut_good, printed_good, measured_good, some_good, get_good}

text_is : (v : Val) → IsOf TextTy v → (s : List ℕ) × (as_text v ≡ Some s) × Unit {0}
text_is v h = of_text (λ v. (s : List ℕ) × (as_text v ≡ Some s) × Unit {0}) (λ s. (s, refl, tt)) v h

int_is : (v : Val) → IsOf IntTy v → (n : ℤ) × (as_int v ≡ Some n) × Unit {0}
int_is v h = of_int (λ v. (n : ℤ) × (as_int v ≡ Some n) × Unit {0}) (λ n. (n, refl, tt)) v h

path_is : (v : Val) → IsOf PathTy v → (s : List ℕ) × (as_path v ≡ Some s) × Unit {0}
path_is v h = of_path (λ v. (s : List ℕ) × (as_path v ≡ Some s) × Unit {0}) (λ s. (s, refl, tt)) v h

list_is : (t : TyTree) (v : Val) → IsOf (ListTy t) v → (vs : Vals) × (as_list v ≡ Some vs) × AllOf t vs
list_is t v h = of_list t (λ v. (vs : Vals) × (as_list v ≡ Some vs) × AllOf t vs) (λ vs p. (vs, refl, p)) v h

-- texts with one between them
joined_good : (vs : Vals) → AllOf TextTy vs → (answer : List (List ℕ) → Answered) → ((texts : List (List ℕ)) → Good TextTy (answer texts))
    → Good TextTy (given (all_as as_text vs) answer)
joined_good vs h answer good =
    let a = all_as_some (λ _. Unit {0}) TextTy as_text text_is vs h in
    subst (λ (o : Option (List (List ℕ))). Good TextTy (given o answer)) (sym a.1) (good a.0)

join_text_good : (t u : TyTree) (v y : Val) → fits wants.Texts t ≡ true → fits wants.Text u ≡ true → IsOf t v → IsOf u y
    → Good TextTy (given (as_list v) (λ ts. given (all_as as_text ts) (λ texts. given (as_text y) (λ s. made (TText (with_between s texts))))))
join_text_good t u v y a b p q =
    want_texts (λ v. Good TextTy (given (as_list v) (λ ts. given (all_as as_text ts) (λ texts. given (as_text y) (λ s. made (TText (with_between s texts)))))))
    (λ vs h. joined_good vs h (λ texts. given (as_text y) (λ s. made (TText (with_between s texts))))
    (λ texts. text_good (λ _. TextTy) (λ s. made (TText (with_between s texts))) (λ _ s. made_good TextTy (TText (with_between s texts)) refl) u y b q)) t v a p

flat_good : (u : TyTree) (vs : Vals) → AllOf (ListTy u) vs → Good (ListTy u) (given (all_as as_list vs) (λ lists. made (TList (all_joined lists))))
flat_good u vs h =
    let a = all_as_some (AllOf u) (ListTy u) as_list (list_is u) vs h in
    subst (λ (o : Option (List Vals)). Good (ListTy u) (given o (λ lists. made (TList (all_joined lists))))) (sym a.1)
    (made_good (ListTy u) (TList (all_joined a.0)) (joined_lists u a.0 a.2))

ints_sorted : (vs : Vals) → AllOf IntTy vs → Good (ListTy IntTy) (sort_answer vs (all_as as_int vs) (all_as as_text vs) (all_as as_path vs))
ints_sorted vs h =
    let a = all_as_some (λ _. Unit {0}) IntTy as_int int_is vs h in
    subst (λ (o : Option (List ℤ)). Good (ListTy IntTy) (sort_answer vs o (all_as as_text vs) (all_as as_path vs))) (sym a.1)
    (made_good (ListTy IntTy) (TList (items_of (map TInt (sorted_by int_cmp a.0)))) (mapped_all IntTy TInt (λ n. refl) (sorted_by int_cmp a.0)))

no_int_text : (v : Val) → IsOf TextTy v → as_int v ≡ None
no_int_text v h = of_text (λ v. as_int v ≡ None) (λ s. refl) v h

no_int_path : (v : Val) → IsOf PathTy v → as_int v ≡ None
no_int_path v h = of_path (λ v. as_int v ≡ None) (λ s. refl) v h

no_text_path : (v : Val) → IsOf PathTy v → as_text v ≡ None
no_text_path v h = of_path (λ v. as_text v ≡ None) (λ s. refl) v h

texts_sorted : (vs : Vals) → AllOf TextTy vs → Good (ListTy TextTy) (sort_answer vs (all_as as_int vs) (all_as as_text vs) (all_as as_path vs))
texts_sorted Nil h = made_good (ListTy TextTy) (TList Nil) refl
texts_sorted (Cons v vs) h =
    let a = all_as_some (λ _. Unit {0}) TextTy as_text text_is (Cons v vs) h in
    let n = all_as_none as_int v vs (no_int_text v (both (has_type TextTy v) (all_items (has_type TextTy) vs) h).0) in
    let paths = all_as as_path (Cons v vs) in
    subst (λ (o : Option (List ℤ)). Good (ListTy TextTy) (sort_answer (Cons v vs) o (all_as as_text (Cons v vs)) paths)) (sym n)
    (subst (λ (o : Option (List (List ℕ))). Good (ListTy TextTy) (sort_answer (Cons v vs) None o paths)) (sym a.1)
    (made_good (ListTy TextTy) (TList (items_of (map TText (sorted_by (slice_cmp nat_cmp) a.0))))
    (mapped_all TextTy TText (λ n. refl) (sorted_by (slice_cmp nat_cmp) a.0))))

paths_sorted : (vs : Vals) → AllOf PathTy vs → Good (ListTy PathTy) (sort_answer vs (all_as as_int vs) (all_as as_text vs) (all_as as_path vs))
paths_sorted Nil h = made_good (ListTy PathTy) (TList Nil) refl
paths_sorted (Cons v vs) h =
    let one = (both (has_type PathTy v) (all_items (has_type PathTy) vs) h).0 in
    let a = all_as_some (λ _. Unit {0}) PathTy as_path path_is (Cons v vs) h in
    let n = all_as_none as_int v vs (no_int_path v one) in
    let m = all_as_none as_text v vs (no_text_path v one) in
    subst (λ (o : Option (List ℤ)). Good (ListTy PathTy) (sort_answer (Cons v vs) o (all_as as_text (Cons v vs)) (all_as as_path (Cons v vs)))) (sym n)
    (subst (λ (o : Option (List (List ℕ))). Good (ListTy PathTy) (sort_answer (Cons v vs) None o (all_as as_path (Cons v vs)))) (sym m)
    (subst (λ (o : Option (List (List ℕ))). Good (ListTy PathTy) (sort_answer (Cons v vs) None None o)) (sym a.1)
    (made_good (ListTy PathTy) (TList (items_of (map TPath (sorted_by (slice_cmp nat_cmp) a.0))))
    (mapped_all PathTy TPath (λ n. refl) (sorted_by (slice_cmp nat_cmp) a.0)))))

-- what `sort` answers to a list
abbrev sorts : Val → Answered
sorts v = given (as_list v) (λ ts. sort_answer ts (all_as as_int ts) (all_as as_text ts) (all_as as_path ts))

items_sorted : (u : TyTree) (v : Val) → fits wants.Sortable (ListTy u) ≡ true → IsOf (ListTy u) v → Good (ListTy u) (sorts v)
items_sorted IntTy v a p = of_list IntTy (λ v. Good (ListTy IntTy) (sorts v)) ints_sorted v p
items_sorted TextTy v a p = of_list TextTy (λ v. Good (ListTy TextTy) (sorts v)) texts_sorted v p
items_sorted PathTy v a p = of_list PathTy (λ v. Good (ListTy PathTy) (sorts v)) paths_sorted v p
items_sorted u v a p = let f : ⊥ = cc in absurd f

sort_good : (t : TyTree) (v : Val) → fits wants.Sortable t ≡ true → IsOf t v → Good t (sorts v)
sort_good (ListTy u) v a p = items_sorted u v a p
sort_good t v a p = let f : ⊥ = cc in absurd f

replace_good : (t u w : TyTree) (v y z : Val) → fits wants.Text t ≡ true → fits wants.Text u ≡ true → fits wants.Text w ≡ true → IsOf t v → IsOf u y → IsOf w z
    → Good TextTy (given (as_text v) (λ s. given (as_text y) (λ p. given (as_text z) (λ r. made (TText (replaced s p r))))))
replace_good t u w v y z a b c p q r =
    text_good (λ _. TextTy) (λ s. given (as_text y) (λ p. given (as_text z) (λ r. made (TText (replaced s p r)))))
    (λ _ s. two_texts_good TextTy (λ p r. made (TText (replaced s p r))) (λ p r. made_good TextTy (TText (replaced s p r)) refl) u w y z b c q r) t v a p

-- a cut by two integers
cuts_good : (r : TyTree) (answer : ℤ → ℤ → Answered) → ((i j : ℤ) → Good r (answer i j)) → (u w : TyTree) (y z : Val)
    → fits wants.Int u ≡ true → fits wants.Int w ≡ true → IsOf u y → IsOf w z → Good r (given (as_int y) (λ i. given (as_int z) (λ j. answer i j)))
cuts_good r answer h u w y z a b p q =
    int_good r (λ i. given (as_int z) (λ j. answer i j)) (λ i. int_good r (λ j. answer i j) (h i) w z b q) u y a p

slice_good : (t u w : TyTree) (v y z : Val) → fits wants.Text t ≡ true → fits wants.Int u ≡ true → fits wants.Int w ≡ true → IsOf t v → IsOf u y → IsOf w z
    → Good TextTy (given (as_text v) (λ s. given (as_int y) (λ i. given (as_int z) (λ j. cut_out TText (is_between_characters s) s i j))))
slice_good t u w v y z a b c p q r =
    text_good (λ _. TextTy) (λ s. given (as_int y) (λ i. given (as_int z) (λ j. cut_out TText (is_between_characters s) s i j)))
    (λ _ s. cuts_good TextTy (λ i j. cut_out TText (is_between_characters s) s i j)
    (cut_good TextTy TText (λ x. refl) (is_between_characters s) s) u w y z b c q r)
    t v a p

slice_bytes_good : (t u w : TyTree) (v y z : Val) → fits wants.Bytes t ≡ true → fits wants.Int u ≡ true → fits wants.Int w ≡ true
    → IsOf t v → IsOf u y → IsOf w z
    → Good BytesTy (given (as_bytes v) (λ s. given (as_int y) (λ i. given (as_int z) (λ j. cut_out TBytes (λ k. true) s i j))))
slice_bytes_good t u w v y z a b c p q r =
    want_bytes (λ v. Good BytesTy (given (as_bytes v) (λ s. given (as_int y) (λ i. given (as_int z) (λ j. cut_out TBytes (λ k. true) s i j)))))
    (λ s. cuts_good BytesTy (λ i j. cut_out TBytes (λ k. true) s i j) (cut_good BytesTy TBytes (λ x. refl) (λ k. true) s) u w y z b c q r) t v a p

at_answer_good : (t u : TyTree) (v y : Val) → fits wants.List t ≡ true → fits wants.Int u ≡ true → IsOf t v → IsOf u y
    → Good (answer_type_of builtins.At t) (given (as_list v) (λ ts. given (as_int y) (λ n. at_place n (λ i. item_or_fault (slice_get (list_of ts) i)))))
at_answer_good t u v y a b p q =
    want_list (λ t v. Good (answer_type_of builtins.At t)
    (given (as_list v) (λ ts. given (as_int y) (λ n. at_place n (λ i. item_or_fault (slice_get (list_of ts) i))))))
    (λ w vs h. int_good w (λ n. at_place n (λ i. item_or_fault (slice_get (list_of vs) i)))
    (place_good w (λ i. item_or_fault (slice_get (list_of vs) i)) (at_good w vs h)) u y b q) t v a p

range_good : (t u : TyTree) (v y : Val) → fits wants.Int t ≡ true → fits wants.Int u ≡ true → IsOf t v → IsOf u y
    → Good (ListTy IntTy) (given (as_int v) (λ i. given (as_int y) (λ j. made (TList (ints_from i (int_gap i j))))))
range_good t u v y a b p q =
    cuts_good (ListTy IntTy) (λ i j. made (TList (ints_from i (int_gap i j))))
    (λ i j. made_good (ListTy IntTy) (TList (ints_from i (int_gap i j))) (ints_all (int_gap i j) i)) t u v y a b p q

reverse_good : (t : TyTree) (v : Val) → fits wants.List t ≡ true → IsOf t v → Good t (given (as_list v) (λ ts. made (TList (items_of (reverse (list_of ts))))))
reverse_good t v a p = want_list (λ t v. Good t (given (as_list v) (λ ts. made (TList (items_of (reverse (list_of ts)))))))
    (λ u vs h. made_good (ListTy u) (TList (items_of (reverse (list_of vs)))) (reversed_all u vs h)) t v a p

flatten_good : (t : TyTree) (v : Val) → fits wants.Lists t ≡ true → IsOf t v
    → Good (answer_type_of builtins.Flatten t) (given (as_list v) (λ ts. given (all_as as_list ts) (λ lists. made (TList (all_joined lists)))))
flatten_good t v a p =
    want_lists (λ t v. Good (answer_type_of builtins.Flatten t)
    (given (as_list v) (λ ts. given (all_as as_list ts) (λ lists. made (TList (all_joined lists))))))
    flat_good t v a p

from_bytes_good : (t : TyTree) (v : Val) → fits wants.Bytes t ≡ true → IsOf t v
    → Good (NullableTy TextTy) (given (as_bytes v) (λ s. cond (is_utf8 s) (made (TText s)) (made TNull)))
from_bytes_good t v a p = want_bytes (λ v. Good (NullableTy TextTy) (given (as_bytes v) (λ s. cond (is_utf8 s) (made (TText s)) (made TNull))))
    (λ s. either_good (NullableTy TextTy) (is_utf8 s) (made (TText s)) (made TNull) (made_good (NullableTy TextTy) (TText s) refl)
    (made_good (NullableTy TextTy) TNull refl)) t v a p

join_good : (t u : TyTree) (v y : Val) → fits wants.Path t ≡ true → fits wants.Text u ≡ true → IsOf t v → IsOf u y
    → Good PathTy (given (as_path v) (λ p. given (as_text y) (λ s. path_or_fault (p ++ (codes "/" ++ s)))))
join_good t u v y a b p q =
    want_path (λ v. Good PathTy (given (as_path v) (λ p. given (as_text y) (λ s. path_or_fault (p ++ (codes "/" ++ s))))))
    (λ x. text_good (λ _. PathTy) (λ s. path_or_fault (x ++ (codes "/" ++ s))) (λ _ s. path_good (x ++ (codes "/" ++ s))) u y b q) t v a p

-- what a built-in function answers to arguments that fit
pub builtin_good : (b : Builtin) (ts : List TyTree) (vs : List Val) → Meet (wanted_of b) ts → EachOf (parts_of ts) (items_of vs)
    → Good (answer_type_of b (first ts)) (answer_of b vs)
builtin_good builtins.Path = one_good wants.Text (answer_type_of builtins.Path) _ (text_good (λ _. PathTy) path_or_fault (λ _ s. path_good s))
builtin_good builtins.Join = two_good wants.Path wants.Text (answer_type_of builtins.Join) _ join_good
builtin_good builtins.Name = one_good wants.Path (answer_type_of builtins.Name) _
    (of_path_good (λ _. TextTy) (λ p. made (TText (after_last is_slash p))) (λ _ p. made_good TextTy (TText (after_last is_slash p)) refl))
builtin_good builtins.Parent = one_good wants.Path (answer_type_of builtins.Parent) _
    (of_path_good (λ _. NullableTy PathTy) _ (λ _ p. mapped_or_null PathTy TPath (λ s. refl) (parent_of p)))
builtin_good builtins.ToText = one_good wants.Printable (answer_type_of builtins.ToText) text_answer printed_good
builtin_good builtins.ParseInt = one_good wants.Text (answer_type_of builtins.ParseInt) _
    (text_good (λ _. NullableTy IntTy) _ (λ _ s. mapped_or_null IntTy TInt (λ n. refl) (int_spelt s)))
builtin_good builtins.Len = one_good wants.Measurable (answer_type_of builtins.Len) length_answer measured_good
builtin_good builtins.Trim = one_good wants.Text (answer_type_of builtins.Trim) _
    (text_good (λ _. TextTy) (λ s. made (TText (trimmed s))) (λ _ s. made_good TextTy (TText (trimmed s)) refl))
builtin_good builtins.Find = two_good wants.Text wants.Text (answer_type_of builtins.Find) _
    (two_texts_good (NullableTy IntTy) _ (λ s p. mapped_or_null IntTy (λ n. TInt (pos n)) (λ n. refl) (first_place s p)))
builtin_good builtins.Contains = two_good wants.Text wants.Text (answer_type_of builtins.Contains) _
    (two_texts_good BoolTy (λ s p. made (TBool (is_some (first_place s p)))) (λ s p. made_good BoolTy (TBool (is_some (first_place s p))) refl))
builtin_good builtins.Starts = two_good wants.Text wants.Text (answer_type_of builtins.Starts) _
    (two_texts_good BoolTy (λ s p. made (TBool (starts_with s p))) (λ s p. made_good BoolTy (TBool (starts_with s p)) refl))
builtin_good builtins.Ends = two_good wants.Text wants.Text (answer_type_of builtins.Ends) _
    (two_texts_good BoolTy (λ s p. made (TBool (ends_with s p))) (λ s p. made_good BoolTy (TBool (ends_with s p)) refl))
builtin_good builtins.Replace = three_good wants.Text wants.Text wants.Text (answer_type_of builtins.Replace) _ replace_good
builtin_good builtins.Split = two_good wants.Text wants.Text (answer_type_of builtins.Split) _ (two_texts_good (ListTy TextTy) split_answer split_good)
builtin_good builtins.Lines = one_good wants.Text (answer_type_of builtins.Lines) _ (text_good (λ _. ListTy TextTy) _ (λ _ s. texts_good (lines_of s)))
builtin_good builtins.JoinText = two_good wants.Texts wants.Text (answer_type_of builtins.JoinText) _ join_text_good
builtin_good builtins.Slice = three_good wants.Text wants.Int wants.Int (answer_type_of builtins.Slice) _ slice_good
builtin_good builtins.Sha256 = one_good wants.Text (answer_type_of builtins.Sha256) _ (text_good (λ _. TextTy) _ (λ _ s. made_good TextTy (TText _) refl))
builtin_good builtins.At = two_good wants.List wants.Int (answer_type_of builtins.At) _ at_answer_good
builtin_good builtins.Range = two_good wants.Int wants.Int (answer_type_of builtins.Range) _ range_good
builtin_good builtins.Reverse = one_good wants.List (answer_type_of builtins.Reverse) _ reverse_good
builtin_good builtins.Sort = one_good wants.Sortable (answer_type_of builtins.Sort) _ sort_good
builtin_good builtins.Flatten = one_good wants.Lists (answer_type_of builtins.Flatten) _ flatten_good
builtin_good builtins.Some = one_good wants.Present (answer_type_of builtins.Some) some_answer some_good
builtin_good builtins.Get = one_good wants.Nullable (answer_type_of builtins.Get) get_answer get_good
builtin_good builtins.IsNull = one_good wants.Nullable (answer_type_of builtins.IsNull) _ (λ t v a p. made_good BoolTy (TBool (is_null v)) refl)
builtin_good builtins.ToBytes = one_good wants.Text (answer_type_of builtins.ToBytes) _
    (text_good (λ _. BytesTy) (λ s. made (TBytes s)) (λ _ s. made_good BytesTy (TBytes s) refl))
builtin_good builtins.FromBytes = one_good wants.Bytes (answer_type_of builtins.FromBytes) _ from_bytes_good
builtin_good builtins.SliceBytes = three_good wants.Bytes wants.Int wants.Int (answer_type_of builtins.SliceBytes) _ slice_bytes_good
