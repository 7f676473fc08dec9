-- When an answer of the code is what is read.
use Rattle.std.specs.Prelude.{◌≡◌, List, Option, Some, None, Result, Ok, Err}
use Rattle.pie_lexer.specs.declared.token.TokenKind.{TokenKind}
use Rattle.pie_roots.specs.declared.fault.RootFault.{RootFault}
use Rattle.pie_roots.specs.declared.fault.RootFault.TheVariants.{Bad, OutOfMemory}
use Rattle.pie_roots.specs.inner.Reading.{Parsed}

-- an answer is what is read and the tokens behind it, unless out of memory
abbrev pub RootsAgree : {A B : Type 0} → (A → B) → Result A RootFault → List TokenKind → Parsed B → Type 0
RootsAgree view (Ok a) rest p = p ≡ Some (view a, rest)
RootsAgree view (Err OutOfMemory) rest p = Unit {0}
RootsAgree view (Err Bad) rest p = p ≡ None

-- an answer is this one, or none where there is none, unless out of memory
abbrev pub Says : {A B : Type 0} → (A → B) → Result A RootFault → Option B → Type 0
Says view (Ok a) o = o ≡ Some (view a)
Says view (Err OutOfMemory) o = Unit {0}
Says view (Err Bad) o = o ≡ None
