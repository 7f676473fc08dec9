-- What operators and other forms ask of their parts, and what they answer.
use Rattle.std.specs.Prelude.{ℕ, zero, suc, Bool, true, false, ◌&&◌, cond, List, [], ◌∷◌, Option, Some, None, Ok, ℤ, pos, negsuc}
use Rattle.pie_value.specs.Types.{TyTree, TyTrees, UnitTy, BoolTy, IntTy, TextTy, PathTy, ListTy, TupleTy, NullableTy, BytesTy, NoTy, MoreTy}
use Rattle.pie_parser.specs.declared.tree.Index.{Index}
use Rattle.pie_parser.specs.declared.tree.Literal.{Literal}
use Rattle.pie_parser.specs.declared.tree.Literal.TheVariants as literals
use Rattle.pie_parser.specs.declared.tree.Operator.{Operator}
use Rattle.pie_parser.specs.declared.tree.Operator.TheVariants as operators
use Rattle.pie_parser.specs.declared.tree.Comparison.{Comparison}
use Rattle.pie_parser.specs.declared.tree.Comparison.TheVariants as comparisons
use Rattle.pie_parser.specs.declared.tree.Prefix.{Prefix}
use Rattle.pie_parser.specs.declared.tree.Prefix.TheVariants as prefixes
use Rattle.pie_parser.specs.declared.tree.EffectKind.{EffectKind}
use Rattle.pie_parser.specs.declared.tree.EffectKind.TheVariants as effects
use Rattle.pie_parser.specs.Plain.{Steps, NoStep, AStep}
use Rattle.pie_types.specs.Faults.{TypingResult, refuse, then_on, UnknownName, Mismatch, Arity}

abbrev mutual
  -- two types are one
  pub same_type : TyTree → TyTree → Bool
  same_type UnitTy UnitTy = true
  same_type BoolTy BoolTy = true
  same_type IntTy IntTy = true
  same_type TextTy TextTy = true
  same_type PathTy PathTy = true
  same_type (ListTy t) (ListTy u) = same_type t u
  same_type (TupleTy ts) (TupleTy us) = same_types ts us
  same_type (NullableTy t) (NullableTy u) = same_type t u
  same_type BytesTy BytesTy = true
  same_type t u = false

  -- whether two lists of types are the same
  pub same_types : TyTrees → TyTrees → Bool
  same_types NoTy NoTy = true
  same_types (MoreTy t ts) (MoreTy u us) = same_type t u && same_types ts us
  same_types ts us = false

-- a type of what takes these bytes where it fits, or else another one is named as expected
abbrev pub where_fits : Bool → TyTree → ℕ → ℕ → TyTree → TypingResult TyTree
where_fits true w i j t = Ok t
where_fits false w i j t = refuse (Mismatch w t) i j

-- the second type where the first is expected
abbrev pub matched : TyTree → ℕ → ℕ → TyTree → TypingResult TyTree
matched w i j t = where_fits (same_type w t) w i j t

-- a type that passes a test, or else this one is named as expected
abbrev pub passing : (TyTree → Bool) → TyTree → ℕ → ℕ → TyTree → TypingResult TyTree
passing test w i j t = where_fits (test t) w i j t

-- the type of a literal
abbrev pub literal_type : Literal → TyTree
literal_type (literals.Int n) = IntTy
literal_type (literals.Text t) = TextTy
literal_type (literals.Bool b) = BoolTy
literal_type literals.Unit = UnitTy

-- the type of a name, by what is in scope
abbrev pub name_type : ℕ → ℕ → Option TyTree → TypingResult TyTree
name_type i j None = refuse UnknownName i j
name_type i j (Some t) = Ok t

-- types of values that `+` joins
abbrev pub is_addable : TyTree → Bool
is_addable IntTy = true
is_addable TextTy = true
is_addable BytesTy = true
is_addable (ListTy t) = true
is_addable t = false

-- an operator is `+`
abbrev pub is_plus : Operator → Bool
is_plus operators.Plus = true
is_plus o = false

-- all operators of a chain are `+`
abbrev pub all_plus : Steps → Bool
all_plus NoStep = true
all_plus (AStep o t ss) = is_plus o && all_plus ss

-- the type of the operands of an operator, but in a chain of `+` alone
abbrev pub operand_type : Operator → TyTree
operand_type operators.Or = BoolTy
operand_type operators.And = BoolTy
operand_type o = IntTy

-- the type of the operands of a chain, by its first operator, but in one of `+` alone
abbrev pub operands_type : Steps → TyTree
operands_type NoStep = IntTy
operands_type (AStep o t ss) = operand_type o

-- the type of a chain's first operand, which is that of the others and of the chain
abbrev pub first_operand : Steps → ℕ → ℕ → TyTree → TypingResult TyTree
first_operand ss i j t = cond (all_plus ss) (passing is_addable IntTy i j t) (matched (operands_type ss) i j t)

-- a comparison of any values
abbrev pub is_equality : Comparison → Bool
is_equality comparisons.Equal = true
is_equality comparisons.NotEqual = true
is_equality c = false

-- types of values that are compared by size
abbrev pub is_ordered : TyTree → Bool
is_ordered IntTy = true
is_ordered TextTy = true
is_ordered PathTy = true
is_ordered t = false

-- the type of what stands before a comparison
abbrev pub left_operand : Comparison → ℕ → ℕ → TyTree → TypingResult TyTree
left_operand c i j t = cond (is_equality c) (Ok t) (passing is_ordered IntTy i j t)

-- the type of what a prefix operator takes and answers
abbrev pub prefix_type : Prefix → TyTree
prefix_type prefixes.Not = BoolTy
prefix_type prefixes.Minus = IntTy

-- the item of a tuple, counted from 0
abbrev pub part_at : ℕ → TyTrees → Option TyTree
part_at n NoTy = None
part_at zero (MoreTy t ts) = Some t
part_at (suc n) (MoreTy t ts) = part_at n ts

-- the item of a tuple by a number that may be less than 0
abbrev pub numbered : ℤ → TyTrees → Option TyTree
numbered (pos n) ts = part_at n ts
numbered (negsuc n) ts = None

-- the type of an item that was looked for by this number
abbrev pub found_item : Index → Option TyTree → TypingResult TyTree
found_item n None = refuse Arity n.at n.end
found_item n (Some t) = Ok t

-- a pair is expected in the place of what is no tuple
abbrev pub no_tuple : ℕ → ℕ → TyTree → TypingResult TyTree
no_tuple i j t = refuse (Mismatch (TupleTy (MoreTy t (MoreTy t NoTy))) t) i j

-- the type of an item of what takes these bytes
abbrev pub item_of : ℕ → ℕ → TyTree → Index → TypingResult TyTree
item_of i j (TupleTy ts) n = found_item n (numbered n.number ts)
item_of i j t n = no_tuple i j t

-- items of items; a number that finds no tuple is refused itself
abbrev pub later_items : TyTree → List Index → TypingResult TyTree
later_items t [] = Ok t
later_items t (n ∷ ns) = then_on (item_of n.at n.end t n) (λ u. later_items u ns)

-- items of what takes these bytes, which is refused where it is no tuple itself
abbrev pub projected : ℕ → ℕ → TyTree → List Index → TypingResult TyTree
projected i j t [] = Ok t
projected i j t (n ∷ ns) = then_on (item_of i j t n) (λ u. later_items u ns)

-- a list is expected in the place of what is none
abbrev pub no_list : ℕ → ℕ → TyTree → TypingResult TyTree
no_list i j t = refuse (Mismatch (ListTy t) t) i j

-- the type of the items of a list of this type
abbrev pub items_type : ℕ → ℕ → TyTree → TypingResult TyTree
items_type i j (ListTy t) = Ok t
items_type i j t = no_list i j t

-- the type of what an effect takes
abbrev pub effect_takes : EffectKind → TyTree
effect_takes effects.Path = TextTy
effect_takes k = PathTy

-- the type of what an effect answers
abbrev pub effect_gives : EffectKind → TyTree
effect_gives effects.Path = PathTy
effect_gives effects.Exists = BoolTy
effect_gives effects.Digest = NullableTy TextTy
effect_gives effects.List = ListTy PathTy
effect_gives effects.Read = NullableTy TextTy
effect_gives effects.ReadByHash = NullableTy TextTy
effect_gives effects.ReadByMark = NullableTy TextTy

-- types of values that can be written to a file
abbrev pub is_writable : TyTree → Bool
is_writable TextTy = true
is_writable BytesTy = true
is_writable t = false
