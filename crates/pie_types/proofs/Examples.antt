-- Worked cases of the definitions.
use Rattle.std.proofs.Common.{◌≡◌, [], ◌∷◌, Some, None, refl, pos}
use Rattle.std.specs.Prelude.{Ok, codes}
use Rattle.pie_value.specs.Types.{UnitTy, IntTy, TextTy, TupleTy, MoreTy, NoTy}
use Rattle.pie_value.specs.declared.builtin.Builtin.TheVariants as builtins
use Rattle.pie_parser.specs.PlainTypes.{NamedT}
use Rattle.pie_parser.specs.Plain.{TLiteral, TName, TChain, TPrefix, TProject, TTuple, TFail, Nil, Cons, NoStep, AStep, TBlock, NoLine, NoLast}
use Rattle.pie_parser.specs.declared.tree.Literal.TheVariants as literals
use Rattle.pie_parser.specs.declared.tree.Operator.TheVariants as operators
use Rattle.pie_parser.specs.declared.tree.Prefix.TheVariants as prefixes
use Rattle.pie_parser.specs.declared.tree.CallKind.TheVariants as calls
use Rattle.pie_types.specs.Faults.{refuse, UnknownName, Mismatch, Duplicate}
use Rattle.pie_types.specs.Scope.{may_enter}
use Rattle.pie_types.specs.Headings.{may_be_named}
use Rattle.pie_types.specs.Calls.{callee_of, OfBuiltin}
use Rattle.pie_types.specs.Forms.{block_fitting}
use Rattle.pie_types.specs.Checking.{type_of, block_type}

-- `-5`
negated : type_of [] [] (TPrefix 0 2 prefixes.Minus (TLiteral 1 2 (literals.Int (pos 5)))) ≡ Ok IntTy
negated = refl

-- `"a" + 1`: the second operand is refused
joined : type_of [] [] (TChain 0 7 (TLiteral 0 3 (literals.Text (codes "a"))) (AStep operators.Plus (TLiteral 6 7 (literals.Int (pos 1))) NoStep))
    ≡ refuse (Mismatch TextTy IntTy) 6 7
joined = refl

-- `"a" - 1`: the first operand is refused
taken_away : type_of [] [] (TChain 0 7 (TLiteral 0 3 (literals.Text (codes "a"))) (AStep operators.Minus (TLiteral 6 7 (literals.Int (pos 1))) NoStep))
    ≡ refuse (Mismatch IntTy TextTy) 0 3
taken_away = refl

-- the body `{ }` of `func f() -> int { }`: the block is refused
no_value : block_fitting IntTy (TBlock 16 19 NoLine NoLast) (block_type [] [] (TBlock 16 19 NoLine NoLast)) ≡ refuse (Mismatch IntTy UnitTy) 16 19
no_value = refl

-- `fail foo(zz)`: the type comes before the text
of_no_type : type_of [] [] (TFail 0 12 (NamedT 5 8 (codes "foo")) (TName 9 11 (codes "zz"))) ≡ refuse UnknownName 5 8
of_no_type = refl

-- `(1, 2).0.1`: the second number finds no tuple, and is refused itself
no_tuple : type_of [] [] (TProject 0 10 (TTuple 0 6 (Cons (TLiteral 1 2 (literals.Int (pos 1))) (Cons (TLiteral 4 5 (literals.Int (pos 2))) Nil)))
    (record { at = 7; end = 8; number = pos 0 } ∷ record { at = 9; end = 10; number = pos 1 } ∷ []))
    ≡ refuse (Mismatch (TupleTy (MoreTy IntTy (MoreTy IntTy NoTy))) IntTy) 9 10
no_tuple = refl

-- a function can't be named as a built-in one, but a value can
taken : may_be_named (record { at = 5; end = 8; text = codes "len" }) [] ≡ refuse Duplicate 5 8
taken = refl

free : may_enter (record { at = 5; end = 8; text = codes "len" }) [] ≡ Ok []
free = refl

-- `len(..)` calls the built-in function, and `require len(..)` none
by_itself : callee_of [] calls.Plain (codes "len") ≡ Some (OfBuiltin builtins.Len)
by_itself = refl

required : callee_of [] calls.Require (codes "len") ≡ None
required = refl
