-- What built-in functions answer, in words of its own beside the definition.
use Rattle.std.specs.Prelude.{◌≡◌, ◌⊎◌, ⊤, ℕ, ◌+◌, ◌<◌, ◌≤ℤ◌, false, List, [], ◌∷◌, ◌++◌, length, slice_index_or, codes}
use Rattle.std.specs.List.{Contains}
use Rattle.std.specs.List.Sorted.{IsPermutation}
use Rattle.std.specs.Ordering.{nat_cmp, is_gt}
use Rattle.std.specs.Cmp.Lexicographic.{slice_cmp}
use Rattle.pie_value.specs.declared.builtin.Builtin.{Builtin}
use Rattle.pie_value.specs.declared.builtin.Builtin.TheVariants.{Lines, Replace, Sort, Split}
use Rattle.pie_value.specs.Tree.{Tree, Trees, TInt, TList, TNull, TPath, TText, items_of, list_of}
use Rattle.pie_value.specs.BuiltinItems.{text_list}
use Rattle.pie_value.specs.BuiltinTexts.{with_between}

-- a text has another somewhere in it
abbrev pub Holds : List ℕ → List ℕ → Type 0
Holds text part = (front : List ℕ) × (back : List ℕ) × (text ≡ front ++ (part ++ back))

-- none of some texts has another in it
abbrev pub NoneHolds : List (List ℕ) → List ℕ → Type 0
NoneHolds texts part = (text : List ℕ) → Contains texts text → Holds text part → ⊥

-- texts without a separator in them, which with the separator between them are the whole
pub record AreSplit (whole separator : List ℕ) (texts : List (List ℕ)) : Type 0 where
  pub joined : with_between separator texts ≡ whole
  pub free : NoneHolds texts separator

-- the same, where a last separator may be left out
pub record AreLines (whole separator : List ℕ) (texts : List (List ℕ)) : Type 0 where
  pub joined : (with_between separator texts ≡ whole) ⊎ (with_between separator texts ++ separator ≡ whole)
  pub free : NoneHolds texts separator

-- the parts between occurrences of a text, with another between them; without such a text the whole itself
abbrev pub IsReplaced : List ℕ → List ℕ → List ℕ → Tree → Type 0
IsReplaced whole [] by value = value ≡ TText whole
IsReplaced whole (b ∷ part) by value = (texts : List (List ℕ)) × AreSplit whole (b ∷ part) texts × (value ≡ TText (with_between by texts))

-- of two integers, texts or paths the first isn't the greater one; texts and paths are compared by their bytes
abbrev pub IsAtMost : Tree → Tree → Type 0
IsAtMost (TInt a) (TInt b) = a ≤ℤ b
IsAtMost (TText s) (TText t) = is_gt (slice_cmp nat_cmp s t) ≡ false
IsAtMost (TPath s) (TPath t) = is_gt (slice_cmp nat_cmp s t) ≡ false
IsAtMost t u = ⊥

-- the same items in ascending order
pub record AreSorted (items sorted : List Tree) : Type 0 where
  pub same : IsPermutation items sorted
  pub ascending : (i : ℕ) → i + 1 < length sorted → IsAtMost (slice_index_or sorted i TNull) (slice_index_or sorted (i + 1) TNull)

-- the value is a list of the same items in ascending order
abbrev pub IsSortedList : Trees → Tree → Type 0
IsSortedList items value = (sorted : List Tree) × (value ≡ TList (items_of sorted)) × AreSorted (list_of items) sorted

-- the value is a list of texts with a property
abbrev pub IsTexts : (List (List ℕ) → Type 0) → Tree → Type 0
IsTexts property value = (texts : List (List ℕ)) × (value ≡ text_list texts) × property texts

-- what holds of a value that a built-in function gives for arguments
abbrev pub LawOf : Builtin → List Tree → Tree → Type 0
LawOf Split (TText whole ∷ TText separator ∷ []) value = IsTexts (AreSplit whole separator) value
LawOf Lines (TText whole ∷ []) value = IsTexts (AreLines whole (codes "\n")) value
LawOf Replace (TText whole ∷ TText part ∷ TText by ∷ []) value = IsReplaced whole part by value
LawOf Sort (TList items ∷ []) value = IsSortedList items value
LawOf which args value = ⊤
