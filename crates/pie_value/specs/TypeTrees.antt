-- The tree of a type of the program.
use Rattle.std.specs.Prelude.{List, map}
use Rattle.pie_value.specs.declared.ty.Ty.{Ty}
use Rattle.pie_value.specs.declared.ty.Ty.TheVariants.{Unit as VUnit, Bool as VBool, Int as VInt, Text as VText, Path as VPath}
use Rattle.pie_value.specs.declared.ty.Ty.TheVariants.{List as VList, Tuple as VTuple, Nullable as VNullable, Bytes as VBytes}
use Rattle.pie_value.specs.Types.{TyTree, UnitTy, BoolTy, IntTy, TextTy, PathTy, ListTy, TupleTy, NullableTy, BytesTy, parts_of}

-- the tree of a type
abbrev pub ty_tree : Ty → TyTree
ty_tree VUnit = UnitTy
ty_tree VBool = BoolTy
ty_tree VInt = IntTy
ty_tree VText = TextTy
ty_tree VPath = PathTy
ty_tree (VList t) = ListTy t
ty_tree (VTuple ts) = TupleTy (parts_of ts)
ty_tree (VNullable t) = NullableTy t
ty_tree VBytes = BytesTy

-- the trees of some types
abbrev pub ty_trees : List Ty → List TyTree
ty_trees types = map ty_tree types
