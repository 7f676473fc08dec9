-- Refusals, and answers that may be one.
use Rattle.std.specs.Prelude.{◌≡◌, ℕ, Result, Ok, Err}
use Rattle.pie_value.specs.Types.{TyTree}
use Rattle.pie_value.specs.TypeTrees.{ty_tree}
use Rattle.pie_types.specs.declared.error.TypeError.{TypeError}
use Rattle.pie_types.specs.declared.error.TypeError.TheVariants as errors
use Rattle.pie_types.specs.declared.error.TypeFault.{TypeFault}
use Rattle.pie_types.specs.declared.error.TypeKind.{TypeKind}
use Rattle.pie_types.specs.declared.error.TypeKind.TheVariants as kinds

-- what is refused; of two types the first was expected, and the second found
pub data Kind : Type 0 where
  UnknownName : Kind
  UnknownFunction : Kind
  Mismatch : TyTree → TyTree → Kind
  Arity : Kind
  Duplicate : Kind
  TooManyNames : Kind

-- a refusal, and the bytes of what is refused
pub record Refused : Type 0 where
  pub kind : Kind
  pub at : ℕ
  pub end : ℕ

-- an answer, or the refusal in its place
abbrev pub TypingResult : Type 0 → Type 0
TypingResult A = Result A Refused

-- the refusal of these bytes
abbrev pub refuse : {A : Type 0} → Kind → ℕ → ℕ → TypingResult A
refuse k i j = Err (record { kind = k; at = i; end = j })

-- what goes on with an answer
abbrev pub then_on : {A B : Type 0} → TypingResult A → (A → TypingResult B) → TypingResult B
then_on (Ok a) k = k a
then_on (Err e) k = Err e

-- what is refused, as a plain tree
abbrev pub kind_of : TypeKind → Kind
kind_of kinds.UnknownName = UnknownName
kind_of kinds.UnknownFunction = UnknownFunction
kind_of (kinds.Mismatch t u) = Mismatch (ty_tree t) (ty_tree u)
kind_of kinds.Arity = Arity
kind_of kinds.Duplicate = Duplicate
kind_of kinds.TooManyNames = TooManyNames

-- a refusal as plain trees
abbrev pub refused_of : TypeFault → Refused
refused_of f = record { kind = kind_of f.kind; at = f.at; end = f.end }

-- an answer agrees with a definition: both give one thing, or one refusal; out of memory says nothing
abbrev pub TypingAgrees : {A B : Type 0} → (A → B) → Result A TypeError → TypingResult B → Type 0
TypingAgrees f (Ok a) p = p ≡ Ok (f a)
TypingAgrees f (Err (errors.Fault e)) p = p ≡ Err (refused_of e)
TypingAgrees f (Err errors.OutOfMemory) p = Unit {0}
