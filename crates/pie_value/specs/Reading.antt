-- What is read from bytes: a value or a task and the bytes after it, or the first fault from the left.
use Rattle.std.specs.Prelude.{ℕ, zero, suc, ℤ, ◌==◌, Bool, true, false, List, [], ◌∷◌, ◌++◌, length, take, drop, cond, nat_le, ◌&&◌, Result}
use Rattle.std.specs.Prelude.{Ok, Err, Option, Some, None}
use Rattle.std.specs.Int.{w32, w64, from_be_bytes, cast_signed}
use Rattle.std.specs.Str.{is_utf8}
use Rattle.pie_base.specs.Path.{is_path}
use Rattle.pie_value.specs.declared.task.Task.{Task}
use Rattle.pie_value.specs.declared.value_fault.ValueFault.{ValueFault}
use Rattle.pie_value.specs.declared.value_fault.ValueFault.TheVariants.{Short, BadTag, BadText, Rest, TooDeep}
use Rattle.pie_value.specs.declared.reader.Tag.{Tag}
use Rattle.pie_value.specs.declared.reader.Tag.TheVariants.{Unit as TagUnit, Bool as TagBool, Int as TagInt, Text as TagText}
use Rattle.pie_value.specs.declared.reader.Tag.TheVariants.{Path as TagPath, List as TagList, Tuple as TagTuple, Null as TagNull}
use Rattle.pie_value.specs.declared.reader.Tag.TheVariants.{Bytes as TagBytes}
use Rattle.pie_value.specs.Tree.{Tree, TUnit, TBool, TInt, TText, TPath, TList, TTuple, TNull, TBytes, items_of}

-- what is read and the bytes after it, or a fault
abbrev pub Parsed : Type 0 → Type 0
Parsed A = Result (A × List ℕ) ValueFault

-- reading one thing and then another; the first fault stays
abbrev pub then_on : {A B : Type 0} → Parsed A → (A → List ℕ → Parsed B) → Parsed B
then_on (Ok p) k = k p.0 p.1
then_on (Err e) k = Err e

-- one byte
abbrev pub byte_of : List ℕ → Parsed ℕ
byte_of [] = Err Short
byte_of (b ∷ bs) = Ok (b, bs)

-- so many bytes
abbrev pub bytes_of : ℕ → List ℕ → Parsed (List ℕ)
bytes_of n bs = cond (nat_le n (length bs)) (Ok (take n bs, drop n bs)) (Err Short)

-- a number in four bytes, the highest first
unfoldable pub number_of : List ℕ → Parsed ℕ
number_of bs = then_on (bytes_of 4 bs) (λ ds rest. Ok (from_be_bytes w32 ds, rest))

-- an integer in eight bytes, the highest first
unfoldable pub int_of : List ℕ → Parsed ℤ
int_of bs = then_on (bytes_of 8 bs) (λ ds rest. Ok (cast_signed w64 (from_be_bytes w64 ds), rest))

-- bytes behind their length
abbrev pub counted_of : List ℕ → Parsed (List ℕ)
counted_of bs = then_on (number_of bs) bytes_of

-- bytes behind their length that pass a test
abbrev pub tested_of : (List ℕ → Bool) → List ℕ → Parsed (List ℕ)
tested_of test bs = then_on (counted_of bs) (λ text rest. cond (test text) (Ok (text, rest)) (Err BadText))

-- a text is UTF-8, and a path is also a path
abbrev pub is_path_text : List ℕ → Bool
is_path_text text = is_utf8 text && is_path text

-- the kind of value that a byte stands for
abbrev pub tag_at : ℕ → Option Tag
tag_at b =
    cond (b == 0) (Some TagUnit) (cond (b == 1) (Some TagBool) (cond (b == 2) (Some TagInt)
    (cond (b == 3) (Some TagText) (cond (b == 4) (Some TagPath) (cond (b == 5) (Some TagList)
    (cond (b == 6) (Some TagTuple) (cond (b == 7) (Some TagNull) (cond (b == 8) (Some TagBytes) None))))))))

-- a truth value in one byte
abbrev pub flag_at : ℕ → Option Bool
flag_at b = cond (b == 0) (Some false) (cond (b == 1) (Some true) None)

-- what a byte stands for, if it stands for anything
abbrev pub known : {A : Type 0} → Option A → List ℕ → Parsed A
known None rest = Err BadTag
known (Some a) rest = Ok (a, rest)

abbrev pub tag_of : List ℕ → Parsed Tag
tag_of bs = then_on (byte_of bs) (λ b rest. known (tag_at b) rest)

abbrev pub flag_of : List ℕ → Parsed Bool
flag_of bs = then_on (byte_of bs) (λ b rest. known (flag_at b) rest)

-- so many values more, after some
abbrev pub values_of : (List ℕ → Parsed Tree) → ℕ → List Tree → List ℕ → Parsed (List Tree)
values_of value zero ts bs = Ok (ts, bs)
values_of value (suc n) ts bs = then_on (value bs) (λ t rest. values_of value n (ts ++ t ∷ []) rest)

-- values behind their number
abbrev pub items_prefix : (List ℕ → Parsed Tree) → List ℕ → Parsed (List Tree)
items_prefix value bs = then_on (number_of bs) (λ n rest. values_of value n [] rest)

-- what follows the tag of a value whose items are read so
abbrev pub tagged : (List ℕ → Parsed Tree) → Tag → List ℕ → Parsed Tree
tagged value TagUnit bs = Ok (TUnit, bs)
tagged value TagBool bs = then_on (flag_of bs) (λ b rest. Ok (TBool b, rest))
tagged value TagInt bs = then_on (int_of bs) (λ n rest. Ok (TInt n, rest))
tagged value TagText bs = then_on (tested_of is_utf8 bs) (λ text rest. Ok (TText text, rest))
tagged value TagPath bs = then_on (tested_of is_path_text bs) (λ text rest. Ok (TPath text, rest))
tagged value TagList bs = then_on (items_prefix value bs) (λ ts rest. Ok (TList (items_of ts), rest))
tagged value TagTuple bs = then_on (items_prefix value bs) (λ ts rest. Ok (TTuple (items_of ts), rest))
tagged value TagNull bs = Ok (TNull, bs)
tagged value TagBytes bs = then_on (counted_of bs) (λ text rest. Ok (TBytes text, rest))

-- a value that nests at most so deep; deeper is a fault at the tag that does
abbrev pub value_within : ℕ → List ℕ → Parsed Tree
value_within zero bs = then_on (tag_of bs) (λ tag rest. Err TooDeep)
value_within (suc d) bs = then_on (tag_of bs) (tagged (value_within d))

-- a value as it may be stored
unfoldable pub value_prefix : List ℕ → Parsed Tree
value_prefix bs = value_within 64 bs

-- what is read must be all there is
abbrev pub alone : {A : Type 0} → A → List ℕ → Parsed A
alone a [] = Ok (a, [])
alone a (b ∷ bs) = Err Rest

-- a value and nothing after it
abbrev pub value_whole : List ℕ → Parsed Tree
value_whole bs = then_on (value_prefix bs) alone

-- a task: its name and its arguments
abbrev pub task_prefix : List ℕ → Parsed Task
task_prefix bs =
    then_on (tested_of is_utf8 bs) (λ name after.
    then_on (items_prefix value_prefix after) (λ ts rest. Ok (record { func = name; args = ts }, rest)))
