-- Which values a type has.
use Rattle.std.specs.Prelude.{Bool, true, false, ◌&&◌}
use Rattle.pie_value.specs.Tree.{Tree, Trees, TUnit, TBool, TInt, TText, TPath, TList, TTuple, TNull, TBytes, Nil, Cons}
use Rattle.pie_value.specs.Types.{TyTree, TyTrees, UnitTy, BoolTy, IntTy, TextTy, PathTy, ListTy, TupleTy, NullableTy, BytesTy, NoTy, MoreTy}

-- each item passes a test
abbrev pub all_items : (Tree → Bool) → Trees → Bool
all_items test Nil = true
all_items test (Cons t ts) = test t && all_items test ts

abbrev mutual
  -- a value of a type; a value of a type that can be null is null or a value of the type itself
  pub has_type : TyTree → Tree → Bool
  has_type UnitTy TUnit = true
  has_type BoolTy (TBool b) = true
  has_type IntTy (TInt n) = true
  has_type TextTy (TText s) = true
  has_type PathTy (TPath s) = true
  has_type (ListTy u) (TList ts) = all_items (has_type u) ts
  has_type (TupleTy us) (TTuple ts) = have_types us ts
  has_type (NullableTy u) TNull = true
  has_type (NullableTy u) t = has_type u t
  has_type BytesTy (TBytes s) = true
  has_type u t = false

  -- as many items as types, each of its type
  pub have_types : TyTrees → Trees → Bool
  have_types NoTy Nil = true
  have_types (MoreTy u us) (Cons t ts) = has_type u t && have_types us ts
  have_types us ts = false
