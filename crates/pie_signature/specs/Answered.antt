-- The types of what built-in functions answer.
use Rattle.pie_value.specs.declared.builtin.Builtin.{Builtin}
use Rattle.pie_value.specs.declared.builtin.Builtin.TheVariants as builtins
use Rattle.pie_value.specs.Types.{TyTree, BoolTy, IntTy, TextTy, PathTy, ListTy, NullableTy, BytesTy}
use Rattle.pie_signature.specs.declared.answer.Answered.{Answered}
use Rattle.pie_signature.specs.declared.answer.Answered.TheVariants as kinds
use Rattle.pie_signature.specs.Wanted.{present_of}

-- how the type of a built-in function's answer follows
abbrev pub answer_of : Builtin → Answered
answer_of builtins.Path = kinds.Path
answer_of builtins.Join = kinds.Path
answer_of builtins.Name = kinds.Text
answer_of builtins.Parent = kinds.PathOrNull
answer_of builtins.ToText = kinds.Text
answer_of builtins.ParseInt = kinds.IntOrNull
answer_of builtins.Len = kinds.Int
answer_of builtins.Trim = kinds.Text
answer_of builtins.Find = kinds.IntOrNull
answer_of builtins.Contains = kinds.Bool
answer_of builtins.Starts = kinds.Bool
answer_of builtins.Ends = kinds.Bool
answer_of builtins.Replace = kinds.Text
answer_of builtins.Split = kinds.Texts
answer_of builtins.Lines = kinds.Texts
answer_of builtins.JoinText = kinds.Text
answer_of builtins.Slice = kinds.Text
answer_of builtins.Sha256 = kinds.Text
answer_of builtins.At = kinds.Item
answer_of builtins.Range = kinds.Ints
answer_of builtins.Reverse = kinds.First
answer_of builtins.Sort = kinds.First
answer_of builtins.Flatten = kinds.Item
answer_of builtins.Some = kinds.FirstOrNull
answer_of builtins.Get = kinds.Present
answer_of builtins.IsNull = kinds.Bool
answer_of builtins.ToBytes = kinds.Bytes
answer_of builtins.FromBytes = kinds.TextOrNull
answer_of builtins.SliceBytes = kinds.Bytes

-- the type of a list's items
abbrev pub item_of : TyTree → TyTree
item_of (ListTy t) = t
item_of t = t

-- the type of an answer, from the type of the first argument
abbrev pub answered : Answered → TyTree → TyTree
answered kinds.Text t = TextTy
answered kinds.Int t = IntTy
answered kinds.Bool t = BoolTy
answered kinds.Path t = PathTy
answered kinds.Bytes t = BytesTy
answered kinds.Texts t = ListTy TextTy
answered kinds.Ints t = ListTy IntTy
answered kinds.TextOrNull t = NullableTy TextTy
answered kinds.IntOrNull t = NullableTy IntTy
answered kinds.PathOrNull t = NullableTy PathTy
answered kinds.First t = t
answered kinds.Item t = item_of t
answered kinds.FirstOrNull t = NullableTy t
answered kinds.Present t = present_of t
