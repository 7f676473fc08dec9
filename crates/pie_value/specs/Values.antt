-- The tree of a value of the program.
use Rattle.std.specs.Prelude.{List, map, Option}
use Rattle.std.specs.declared.rc.Rc.{Rc}
use Rattle.std.proofs.Common.{Vec, Global}
use Rattle.pie_value.specs.inner.Shared.{behind}
use Rattle.pie_value.specs.declared.value.Value.{Value}
use Rattle.pie_value.specs.declared.value.Value.TheVariants.{Unit as VUnit, Bool as VBool, Int as VInt, Text as VText, Path as VPath}
use Rattle.pie_value.specs.declared.value.Value.TheVariants.{List as VList, Tuple as VTuple, Null as VNull, Bytes as VBytes}
use Rattle.pie_value.specs.Tree.{Tree, TUnit, TBool, TInt, TText, TPath, TList, TTuple, TNull, TBytes, items_of}

-- the tree of a value
abbrev pub tree_of : Value → Tree
tree_of VUnit = TUnit
tree_of (VBool b) = TBool b
tree_of (VInt n) = TInt n
tree_of (VText bs) = TText bs
tree_of (VPath bs) = TPath bs
tree_of (VList ts) = TList (items_of ts)
tree_of (VTuple ts) = TTuple (items_of ts)
tree_of VNull = TNull
tree_of (VBytes bs) = TBytes bs

-- the trees of some values
abbrev pub trees_of : List Value → List Tree
trees_of values = map tree_of values

-- the trees of the values behind a pointer, or none without one
abbrev pub held : Option (Rc (Vec Value Global) Global) → List Tree
held pointer = behind (λ rc. trees_of rc.value.items) pointer
