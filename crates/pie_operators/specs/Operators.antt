-- What the operators answer: a value, or a fault. Operands of other kinds are the fault Unknown.
use Rattle.std.specs.Prelude.{ℕ, ◌^◌, ◌-◌, Bool, true, false, not, ◌&&◌, cond, ◌++◌, slice_get, Option, Some, None, Ok, Err}
use Rattle.std.specs.Prelude.{ℤ, pos, negsuc, ◌+ℤ◌, ◌-ℤ◌, ◌*ℤ◌, neg_ℤ, int_le, int_div, int_rem}
use Rattle.std.specs.Ordering.{nat_cmp, int_cmp, int_eq, is_lt, is_le, is_gt, is_ge}
use Rattle.std.specs.declared.cmp.Ordering.{Ordering}
use Rattle.std.specs.Cmp.Lexicographic.{slice_cmp}
use Rattle.pie_base.specs.declared.fault.FaultKind.TheVariants.{Overflow, Zero, Unknown}
use Rattle.pie_value.specs.Tree.{Tree, Trees, TUnit, TBool, TInt, TText, TPath, TList, TTuple, TNull, TBytes, Nil, Cons, list_of}
use Rattle.pie_value.specs.BuiltinForms.{Answered, made}
use Rattle.pie_value.specs.BuiltinTexts.{same_bytes}
use Rattle.pie_value.specs.BuiltinItems.{joined}
use Rattle.pie_operators.specs.declared.operator.Unary.{Unary}
use Rattle.pie_operators.specs.declared.operator.Unary.TheVariants.{Neg, Not}
use Rattle.pie_operators.specs.declared.operator.Binary.{Binary}
use Rattle.pie_operators.specs.declared.operator.Binary.TheVariants.{Add, Sub, Mul, Div, Rem, Eq, Ne, Lt, Le, Gt, Ge}

-- an integer that 64 bits hold
abbrev pub fits : ℤ → Bool
fits n = int_le (negsuc (2 ^ 63 - 1)) n && int_le n (pos (2 ^ 63 - 1))

-- an integer as a value, or the fault Overflow
abbrev pub checked : ℤ → Answered
checked n = cond (fits n) (Ok (TInt n)) (Err Overflow)

-- what an operator before one operand answers
abbrev pub unary_answer : Unary → Tree → Answered
unary_answer Neg (TInt n) = checked (neg_ℤ n)
unary_answer Not (TBool b) = Ok (TBool (not b))
unary_answer o t = Err Unknown

-- integers, texts, bytes or lists, one after another
abbrev pub sum_of : Tree → Tree → Answered
sum_of (TInt n) (TInt m) = checked (n +ℤ m)
sum_of (TText s) (TText t) = made (TText (s ++ t))
sum_of (TBytes s) (TBytes t) = made (TBytes (s ++ t))
sum_of (TList ts) (TList us) = made (TList (joined ts us))
sum_of t u = Err Unknown

-- two integers
abbrev pub of_ints : (ℤ → ℤ → Answered) → Tree → Tree → Answered
of_ints answer (TInt n) (TInt m) = answer n m
of_ints answer t u = Err Unknown

-- a quotient or a remainder, which a divisor 0 doesn't have
abbrev pub divided : (ℤ → ℤ → ℤ) → ℤ → ℤ → Answered
divided operation n m = cond (int_eq m (pos 0)) (Err Zero) (checked (operation n m))

-- the remainder; that of the least integer by -1 is past the integers, as its quotient is
abbrev pub remainder : ℤ → ℤ → Answered
remainder n m = cond (int_eq m (pos 0)) (Err Zero) (cond (fits (int_div n m)) (Ok (TInt (int_rem n m))) (Err Overflow))

-- whether two values are the same
abbrev mutual
  pub same_tree : Tree → Tree → Bool
  same_tree TUnit TUnit = true
  same_tree (TBool a) (TBool b) = cond a b (not b)
  same_tree (TInt n) (TInt m) = int_eq n m
  same_tree (TText s) (TText t) = same_bytes s t
  same_tree (TPath s) (TPath t) = same_bytes s t
  same_tree (TList ts) (TList us) = same_trees ts us
  same_tree (TTuple ts) (TTuple us) = same_trees ts us
  same_tree TNull TNull = true
  same_tree (TBytes s) (TBytes t) = same_bytes s t
  same_tree t u = false

  pub same_trees : Trees → Trees → Bool
  same_trees Nil Nil = true
  same_trees (Cons t ts) (Cons u us) = same_tree t u && same_trees ts us
  same_trees ts us = false

-- how two values are ordered: integers by size, texts and paths by their bytes
abbrev pub order_of : Tree → Tree → Option Ordering
order_of (TInt n) (TInt m) = Some (int_cmp n m)
order_of (TText s) (TText t) = Some (slice_cmp nat_cmp s t)
order_of (TPath s) (TPath t) = Some (slice_cmp nat_cmp s t)
order_of t u = None

-- whether an order is one of these, where there is an order
abbrev pub ordered : (Ordering → Bool) → Option Ordering → Answered
ordered holds (Some o) = Ok (TBool (holds o))
ordered holds None = Err Unknown

-- a comparison by order
abbrev pub compared : (Ordering → Bool) → Tree → Tree → Answered
compared holds t u = ordered holds (order_of t u)

-- what an operator between two operands answers
abbrev pub binary_answer : Binary → Tree → Tree → Answered
binary_answer Add = sum_of
binary_answer Sub = of_ints (λ n m. checked (n -ℤ m))
binary_answer Mul = of_ints (λ n m. checked (n *ℤ m))
binary_answer Div = of_ints (divided int_div)
binary_answer Rem = of_ints remainder
binary_answer Eq = λ t u. Ok (TBool (same_tree t u))
binary_answer Ne = λ t u. Ok (TBool (not (same_tree t u)))
binary_answer Lt = compared is_lt
binary_answer Le = compared is_le
binary_answer Gt = compared is_gt
binary_answer Ge = compared is_ge

-- a list or a tuple with one more item, which has to keep the limits
abbrev pub list_with : Tree → Tree → Answered
list_with (TList ts) t = made (TList (joined ts (Cons t Nil)))
list_with other t = Err Unknown

abbrev pub tuple_with : Tree → Tree → Answered
tuple_with (TTuple ts) t = made (TTuple (joined ts (Cons t Nil)))
tuple_with other t = Err Unknown

-- an item that has to be there
abbrev pub item_or_unknown : Option Tree → Answered
item_or_unknown (Some t) = Ok t
item_or_unknown None = Err Unknown

-- an item of a tuple, counted from 0
abbrev pub item_at : ℕ → Tree → Answered
item_at n (TTuple ts) = item_or_unknown (slice_get (list_of ts) n)
item_at n t = Err Unknown
