-- What each built-in function answers: a value or a fault. Another number of arguments, or arguments of other kinds,
-- are the fault Unknown; a new value that passes the limits is the fault Big.
use Rattle.std.specs.Prelude.{ℕ, Bool, true, false, cond, List, [], ◌∷◌, ◌++◌, length, map, reverse, codes, slice_get, Option, Some, None}
use Rattle.std.specs.Prelude.{option_map, is_some, Ok, Err, ℤ, pos}
use Rattle.std.specs.Int.{int_gap}
use Rattle.std.specs.List.{after_last}
use Rattle.std.specs.Str.{is_utf8}
use Rattle.std.specs.Fmt.{signed_decimal}
use Rattle.std.specs.Ordering.{nat_cmp, int_cmp}
use Rattle.std.specs.Cmp.Lexicographic.{slice_cmp}
use Rattle.hex.specs.Hex.{encode_lower}
use Rattle.sha2.specs.Sha256.{sha256}
use Rattle.pie_base.specs.declared.fault.FaultKind.TheVariants.{BadPath, Null as NullFault, Range as RangeFault, Unknown}
use Rattle.pie_base.specs.Path.{is_path, is_slash, parent_of}
use Rattle.pie_value.specs.declared.builtin.Builtin.{Builtin}
use Rattle.pie_value.specs.declared.builtin.Builtin.TheVariants.{Path, Join, Name, Parent, ToText, ParseInt, Len, Trim, Find, Contains}
use Rattle.pie_value.specs.declared.builtin.Builtin.TheVariants.{Starts, Ends, Replace, Split, Lines, JoinText, Slice, Sha256, At, Range}
use Rattle.pie_value.specs.declared.builtin.Builtin.TheVariants.{Reverse, Sort, Flatten, Some as SomeOf, Get, IsNull, ToBytes, FromBytes}
use Rattle.pie_value.specs.declared.builtin.Builtin.TheVariants.{SliceBytes}
use Rattle.pie_value.specs.Tree.{Tree, Trees, TBool, TInt, TText, TPath, TList, TNull, TBytes, items_of, list_of, count_of}
use Rattle.pie_value.specs.BuiltinForms.{Answered, made, made_number, made_or_null, given, of_one, of_two, of_three, of_text, of_two_texts}
use Rattle.pie_value.specs.BuiltinForms.{of_path, of_list, at_place, cut_out}
use Rattle.pie_value.specs.BuiltinTexts.{starts_with, ends_with, first_place, pieces, with_between, replaced, lines_of, trimmed}
use Rattle.pie_value.specs.BuiltinTexts.{is_between_characters, int_spelt}
use Rattle.pie_value.specs.BuiltinItems.{all_as, as_int, as_text, as_path, as_bytes, as_list, sorted_by, ints_from, all_joined, text_list}

-- a text that has to be a path
abbrev pub path_or_fault : List ℕ → Answered
path_or_fault s = cond (is_path s) (made (TPath s)) (Err BadPath)

-- what a value is as a text
abbrev pub text_answer : Tree → Answered
text_answer (TInt n) = made (TText (signed_decimal n))
text_answer (TBool b) = made (TText (cond b (codes "true") (codes "false")))
text_answer (TPath s) = made (TText s)
text_answer t = Err Unknown

-- how long a value is
abbrev pub length_answer : Tree → Answered
length_answer (TText s) = made_number (length s)
length_answer (TBytes s) = made_number (length s)
length_answer (TList ts) = made_number (count_of ts)
length_answer t = Err Unknown

-- pieces between occurrences, of which an empty text has none
abbrev pub split_answer : List ℕ → List ℕ → Answered
split_answer s [] = Err RangeFault
split_answer s (b ∷ p) = made (text_list (pieces s (b ∷ p)))

-- an item of a list, or a fault past its end
abbrev pub item_or_fault : Option Tree → Answered
item_or_fault None = Err RangeFault
item_or_fault (Some t) = Ok t

-- a list in ascending order, where all items are of one kind that has an order
abbrev pub sort_answer : Trees → Option (List ℤ) → Option (List (List ℕ)) → Option (List (List ℕ)) → Answered
sort_answer ts (Some ns) texts paths = made (TList (items_of (map TInt (sorted_by int_cmp ns))))
sort_answer ts None (Some texts) paths = made (TList (items_of (map TText (sorted_by (slice_cmp nat_cmp) texts))))
sort_answer ts None None (Some paths) = made (TList (items_of (map TPath (sorted_by (slice_cmp nat_cmp) paths))))
sort_answer ts None None None = Err Unknown

-- a value that isn't null
abbrev pub some_answer : Tree → Answered
some_answer TNull = Err Unknown
some_answer t = Ok t

-- a value where it isn't null
abbrev pub get_answer : Tree → Answered
get_answer TNull = Err NullFault
get_answer t = Ok t

-- whether a value is null
abbrev pub is_null : Tree → Bool
is_null TNull = true
is_null t = false

-- what each built-in function answers
abbrev pub answer_of : Builtin → List Tree → Answered
answer_of Path = of_text path_or_fault
answer_of Join = of_two (λ t u. given (as_path t) (λ p. given (as_text u) (λ s. path_or_fault (p ++ (codes "/" ++ s)))))
answer_of Name = of_path (λ p. made (TText (after_last is_slash p)))
answer_of Parent = of_path (λ p. made_or_null (option_map TPath (parent_of p)))
answer_of ToText = of_one text_answer
answer_of ParseInt = of_text (λ s. made_or_null (option_map TInt (int_spelt s)))
answer_of Len = of_one length_answer
answer_of Trim = of_text (λ s. made (TText (trimmed s)))
answer_of Find = of_two_texts (λ s p. made_or_null (option_map (λ n. TInt (pos n)) (first_place s p)))
answer_of Contains = of_two_texts (λ s p. made (TBool (is_some (first_place s p))))
answer_of Starts = of_two_texts (λ s p. made (TBool (starts_with s p)))
answer_of Ends = of_two_texts (λ s p. made (TBool (ends_with s p)))
answer_of Replace =
    of_three (λ t u v. given (as_text t) (λ s. given (as_text u) (λ p. given (as_text v) (λ r. made (TText (replaced s p r))))))
answer_of Split = of_two_texts split_answer
answer_of Lines = of_text (λ s. made (text_list (lines_of s)))
answer_of JoinText =
    of_two (λ t u. given (as_list t) (λ ts. given (all_as as_text ts) (λ texts. given (as_text u) (λ s. made (TText (with_between s texts))))))
answer_of Slice =
    of_three (λ t u v. given (as_text t) (λ s. given (as_int u) (λ i. given (as_int v) (λ j. cut_out TText (is_between_characters s) s i j))))
answer_of Sha256 = of_text (λ s. made (TText (encode_lower (sha256 s))))
answer_of At = of_two (λ t u. given (as_list t) (λ ts. given (as_int u) (λ n. at_place n (λ i. item_or_fault (slice_get (list_of ts) i)))))
answer_of Range = of_two (λ t u. given (as_int t) (λ i. given (as_int u) (λ j. made (TList (ints_from i (int_gap i j))))))
answer_of Reverse = of_list (λ ts. made (TList (items_of (reverse (list_of ts)))))
answer_of Sort = of_list (λ ts. sort_answer ts (all_as as_int ts) (all_as as_text ts) (all_as as_path ts))
answer_of Flatten = of_list (λ ts. given (all_as as_list ts) (λ lists. made (TList (all_joined lists))))
answer_of SomeOf = of_one some_answer
answer_of Get = of_one get_answer
answer_of IsNull = of_one (λ t. made (TBool (is_null t)))
answer_of ToBytes = of_text (λ s. made (TBytes s))
answer_of FromBytes = of_one (λ t. given (as_bytes t) (λ s. cond (is_utf8 s) (made (TText s)) (made TNull)))
answer_of SliceBytes =
    of_three (λ t u v. given (as_bytes t) (λ s. given (as_int u) (λ i. given (as_int v) (λ j. cut_out TBytes (λ k. true) s i j))))
