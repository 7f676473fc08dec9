-- What an answer says by the rules.
use Rattle.std.specs.Prelude.{◌≡◌, List, Result, Ok, Err}
use Rattle.pie_value.specs.Types.{TyTree}
use Rattle.pie_parser.specs.Plain.{Tree}
use Rattle.pie_types.specs.declared.error.TypeError.{TypeError}
use Rattle.pie_types.specs.declared.error.TypeError.TheVariants.{Fault, OutOfMemory}
use Rattle.pie_types.specs.Scope.{Entry}
use Rattle.pie_types.specs.Headings.{Heading}
use Rattle.pie_types.specs.inner.Rules.{HasType}

-- a pipeline isn't refused
abbrev pub NotRefused : {A : Type 0} → Result A TypeError → Type 0
NotRefused (Ok a) = Unit {0}
NotRefused (Err (Fault f)) = ⊥
NotRefused (Err OutOfMemory) = Unit {0}

-- by the rules an expression has one type at most
abbrev pub OneType : Type 0
OneType = (hs : List Heading) (sc : List Entry) (e : Tree) (t u : TyTree) → HasType hs sc e t → HasType hs sc e u → t ≡ u
