-- What a call by name calls.
use Rattle.std.specs.Prelude.{ℕ, cond, ◌==◌, List, [], ◌∷◌, length, slice_get, bytes_eq, codes, Option, Some, None, option_map, Ok}
use Rattle.pie_value.specs.Types.{TyTree, UnitTy, PathTy, NullableTy, BytesTy}
use Rattle.pie_value.specs.declared.builtin.Builtin.{Builtin}
use Rattle.pie_signature.specs.Names.{builtin_of}
use Rattle.pie_signature.specs.Signatures.{arity_of, misfit_of, answer_type_of}
use Rattle.pie_parser.specs.declared.tree.Name.{Name}
use Rattle.pie_parser.specs.declared.tree.CallKind.{CallKind}
use Rattle.pie_parser.specs.declared.tree.CallKind.TheVariants as calls
use Rattle.pie_types.specs.Faults.{TypingResult, refuse, then_on, UnknownFunction, Mismatch, Arity}
use Rattle.pie_types.specs.Scope.{Entry}
use Rattle.pie_types.specs.Headings.{Heading, function_in}
use Rattle.pie_types.specs.Operators.{same_type}

-- `read_bytes`, a built-in function, or a function of the pipeline
pub data Callee : Type 0 where
  ReadBytes : Callee
  OfBuiltin : Builtin → Callee
  OfFunction : Heading → Callee

-- what a name calls by itself: never a function of the pipeline
abbrev pub plain_callee : List ℕ → Option Callee
plain_callee n = cond (bytes_eq n (codes "read_bytes")) (Some ReadBytes) (option_map OfBuiltin (builtin_of n))

-- what a call calls: behind `require` or `run` always a function of the pipeline
abbrev pub callee_of : List Heading → CallKind → List ℕ → Option Callee
callee_of hs calls.Plain n = plain_callee n
callee_of hs k n = option_map OfFunction (function_in n hs)

-- what was found under a name
abbrev pub known : Name → Option Callee → TypingResult Callee
known n None = refuse UnknownFunction n.at n.end
known n (Some c) = Ok c

-- how many arguments are taken
abbrev pub taken : Callee → ℕ
taken ReadBytes = 1
taken (OfBuiltin b) = arity_of b
taken (OfFunction h) = length h.params

-- as many arguments as are taken
abbrev pub right_number : ℕ → ℕ → Callee → ℕ → TypingResult Callee
right_number i j c n = cond (n == taken c) (Ok c) (refuse Arity i j)

-- the first type where the second is another
abbrev pub other_than : TyTree → TyTree → Option TyTree
other_than w t = cond (same_type w t) None (Some w)

-- the type of a parameter where an argument has another
abbrev pub other_than_param : Option Entry → TyTree → Option TyTree
other_than_param None t = None
other_than_param (Some e) t = other_than e.ty t

-- the type that is named as expected where an argument, counted from 0, has a type that doesn't fit; none where it fits
abbrev pub misfit : Callee → ℕ → TyTree → Option TyTree
misfit ReadBytes n t = other_than PathTy t
misfit (OfBuiltin b) n t = misfit_of b n t
misfit (OfFunction h) n t = other_than_param (slice_get h.params n) t

-- the type of an argument that fits
abbrev pub unless : Option TyTree → ℕ → ℕ → TyTree → TypingResult TyTree
unless None i j t = Ok t
unless (Some w) i j t = refuse (Mismatch w t) i j

-- the first of some types
abbrev pub first : List TyTree → TyTree
first [] = UnitTy
first (t ∷ ts) = t

-- the type that a call of a function answers: `run` answers nothing
abbrev pub function_answer : CallKind → Heading → TyTree
function_answer calls.Run h = UnitTy
function_answer k h = h.result

-- the type that a call answers, from the types of its arguments
abbrev pub answer : CallKind → Callee → List TyTree → TyTree
answer k ReadBytes ts = NullableTy BytesTy
answer k (OfBuiltin b) ts = answer_type_of b (first ts)
answer k (OfFunction h) ts = function_answer k h

-- a call: what it calls, then the number of its arguments, and then these
abbrev pub of_call : List Heading → ℕ → ℕ → CallKind → Name → ℕ → (Callee → TypingResult (List TyTree)) → TypingResult TyTree
of_call hs i j k n count arguments = then_on (known n (callee_of hs k n.text))
    (λ c. then_on (right_number i j c count) (λ _. then_on (arguments c) (λ ts. Ok (answer k c ts))))
