-- The value of a tree.
use Rattle.pie_value.specs.declared.value.Value.{Value}
use Rattle.pie_value.specs.declared.value.Value.TheVariants.{Unit as VUnit, Bool as VBool, Int as VInt, Text as VText, Path as VPath}
use Rattle.pie_value.specs.declared.value.Value.TheVariants.{List as VList, Tuple as VTuple, Null as VNull, Bytes as VBytes}
use Rattle.pie_value.specs.Tree.{Tree, TUnit, TBool, TInt, TText, TPath, TList, TTuple, TNull, TBytes, list_of}

-- the value that has this tree
abbrev pub value_of : Tree → Value
value_of TUnit = VUnit
value_of (TBool b) = VBool b
value_of (TInt n) = VInt n
value_of (TText bs) = VText bs
value_of (TPath bs) = VPath bs
value_of (TList ts) = VList (list_of ts)
value_of (TTuple ts) = VTuple (list_of ts)
value_of TNull = VNull
value_of (TBytes bs) = VBytes bs
