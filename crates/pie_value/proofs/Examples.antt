-- Worked cases of the built-in functions and of the canonical bytes.
use Rattle.std.proofs.Common.{◌≡◌, ℕ, true, List, [], ◌∷◌, Ok, Err, pos, negsuc, refl}
use Rattle.std.specs.Prelude.{codes}
use Rattle.pie_base.specs.declared.fault.FaultKind.TheVariants.{BadPath, Null as NullFault, Range as RangeFault, Unknown}
use Rattle.pie_value.specs.declared.builtin.Builtin.TheVariants.{Join, Name, Parent, ParseInt, Len, Trim, Find, Replace, Split}
use Rattle.pie_value.specs.declared.builtin.Builtin.TheVariants.{Lines, Slice, At, Range, Sort, Get}
use Rattle.pie_value.specs.Tree.{Tree, TBool, TInt, TText, TPath, TList, TTuple, TNull, Nil, Cons}
use Rattle.pie_value.specs.Canonical.{be32, enc}
use Rattle.pie_value.specs.Shown.{shown}
use Rattle.pie_value.specs.BuiltinItems.{text_list}
use Rattle.pie_value.specs.BuiltinForms.{Answered}
use Rattle.pie_value.specs.Builtins.{answer_of}

abbrev answers : Tree → Answered
answers t = Ok t

-- a text as a value
abbrev text : List ℕ → Tree
text s = TText s

overlapping_occurrences_are_passed_over : answer_of Replace (text (codes "aaa") ∷ text (codes "aa") ∷ text (codes "b") ∷ [])
    ≡ answers (text (codes "ba"))
overlapping_occurrences_are_passed_over = refl

an_empty_separator_replaces_nothing : answer_of Replace (text (codes "ab") ∷ text [] ∷ text (codes "x") ∷ []) ≡ answers (text (codes "ab"))
an_empty_separator_replaces_nothing = refl

a_piece_may_be_empty : answer_of Split (text (codes "a,,b") ∷ text (codes ",") ∷ []) ≡ answers (text_list (codes "a" ∷ [] ∷ codes "b" ∷ []))
a_piece_may_be_empty = refl

the_empty_text_is_one_piece : answer_of Split (text [] ∷ text (codes ",") ∷ []) ≡ answers (text_list ([] ∷ []))
the_empty_text_is_one_piece = refl

an_empty_separator_splits_nothing : answer_of Split (text (codes "a") ∷ text [] ∷ []) ≡ Err RangeFault
an_empty_separator_splits_nothing = refl

a_last_empty_line_falls : answer_of Lines (text (codes "a\n\n") ∷ []) ≡ answers (text_list (codes "a" ∷ [] ∷ []))
a_last_empty_line_falls = refl

the_empty_text_has_no_lines : answer_of Lines (text [] ∷ []) ≡ answers (text_list [])
the_empty_text_has_no_lines = refl

a_character_is_not_cut : answer_of Slice (text (195 ∷ 169 ∷ []) ∷ TInt (pos 0) ∷ TInt (pos 1) ∷ []) ≡ Err RangeFault
a_character_is_not_cut = refl

a_slice_may_end_at_the_end : answer_of Slice (text (codes "abc") ∷ TInt (pos 1) ∷ TInt (pos 3) ∷ []) ≡ answers (text (codes "bc"))
a_slice_may_end_at_the_end = refl

minus_zero_is_zero : answer_of ParseInt (text (codes "-0") ∷ []) ≡ answers (TInt (pos 0))
minus_zero_is_zero = refl

the_least_integer_is_read : answer_of ParseInt (text (codes "-9223372036854775808") ∷ []) ≡ answers (TInt (negsuc 9223372036854775807))
the_least_integer_is_read = refl

past_the_greatest_integer_is_null : answer_of ParseInt (text (codes "9223372036854775808") ∷ []) ≡ answers TNull
past_the_greatest_integer_is_null = refl

leading_zeros_are_read : answer_of ParseInt (text (codes "000000000000000000000000000000007") ∷ []) ≡ answers (TInt (pos 7))
leading_zeros_are_read = refl

a_plus_sign_is_null : answer_of ParseInt (text (codes "+1") ∷ []) ≡ answers TNull
a_plus_sign_is_null = refl

a_sign_alone_is_null : answer_of ParseInt (text (codes "-") ∷ []) ≡ answers TNull
a_sign_alone_is_null = refl

the_empty_text_occurs_first : answer_of Find (text (codes "ab") ∷ text [] ∷ []) ≡ answers (TInt (pos 0))
the_empty_text_occurs_first = refl

the_first_occurrence_is_found : answer_of Find (text (codes "abab") ∷ text (codes "ba") ∷ []) ≡ answers (TInt (pos 1))
the_first_occurrence_is_found = refl

an_absent_text_is_null : answer_of Find (text (codes "ab") ∷ text (codes "c") ∷ []) ≡ answers TNull
an_absent_text_is_null = refl

a_name_is_the_last_segment : answer_of Name (TPath (codes "src/a") ∷ []) ≡ answers (text (codes "a"))
a_name_is_the_last_segment = refl

one_segment_has_no_parent : answer_of Parent (TPath (codes "src") ∷ []) ≡ answers TNull
one_segment_has_no_parent = refl

a_joined_path_is_a_path : answer_of Join (TPath (codes "out") ∷ text (codes "a") ∷ []) ≡ answers (TPath (codes "out/a"))
a_joined_path_is_a_path = refl

an_empty_segment_is_no_path : answer_of Join (TPath (codes "out") ∷ text [] ∷ []) ≡ Err BadPath
an_empty_segment_is_no_path = refl

both_ends_are_trimmed : answer_of Trim (text (codes " \t a b\n ") ∷ []) ≡ answers (text (codes "a b"))
both_ends_are_trimmed = refl

integers_are_sorted : answer_of Sort (TList (Cons (TInt (pos 2)) (Cons (TInt (negsuc 0)) (Cons (TInt (pos 1)) Nil))) ∷ [])
    ≡ answers (TList (Cons (TInt (negsuc 0)) (Cons (TInt (pos 1)) (Cons (TInt (pos 2)) Nil))))
integers_are_sorted = refl

kinds_are_not_sorted_together : answer_of Sort (TList (Cons (TInt (pos 2)) (Cons TNull Nil)) ∷ []) ≡ Err Unknown
kinds_are_not_sorted_together = refl

a_range_stops_before_its_end : answer_of Range (TInt (negsuc 0) ∷ TInt (pos 2) ∷ [])
    ≡ answers (TList (Cons (TInt (negsuc 0)) (Cons (TInt (pos 0)) (Cons (TInt (pos 1)) Nil))))
a_range_stops_before_its_end = refl

past_the_end_is_out_of_range : answer_of At (TList Nil ∷ TInt (pos 0) ∷ []) ≡ Err RangeFault
past_the_end_is_out_of_range = refl

an_argument_too_many_is_unknown : answer_of Len (TNull ∷ TNull ∷ []) ≡ Err Unknown
an_argument_too_many_is_unknown = refl

null_has_no_value : answer_of Get (TNull ∷ []) ≡ Err NullFault
null_has_no_value = refl

items_stand_behind_their_number : enc (TList (Cons (TBool true) (Cons TNull Nil))) ≡ 5 ∷ 0 ∷ 0 ∷ 0 ∷ 2 ∷ 1 ∷ 1 ∷ 7 ∷ []
unfolding be32
items_stand_behind_their_number = refl

a_text_shows_its_quotes : shown (TTuple (Cons TNull (Cons (TText (97 ∷ 34 ∷ 98 ∷ [])) Nil))) ≡ codes "(null, \"a\\\"b\")"
a_text_shows_its_quotes = refl
