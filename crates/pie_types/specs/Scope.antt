-- The names in scope, each with its type, in the order in which they came.
use Rattle.std.specs.Prelude.{ℕ, cond, nat_lt, List, [], ◌∷◌, ◌++◌, length, bytes_eq, Option, Some, None, Ok}
use Rattle.std.specs.Option.{is_some}
use Rattle.pie_value.specs.Types.{TyTree}
use Rattle.pie_parser.specs.declared.tree.Name.{Name}
use Rattle.pie_types.specs.Faults.{TypingResult, refuse, then_on, Duplicate, TooManyNames}

-- a name with its type
pub record Entry : Type 0 where
  pub name : List ℕ
  pub ty : TyTree

-- the type of a name
abbrev pub type_in : List ℕ → List Entry → Option TyTree
type_in n [] = None
type_in n (e ∷ es) = cond (bytes_eq n e.name) (Some e.ty) (type_in n es)

-- a name may come into scope: it isn't there, and makes no 256th
abbrev pub may_enter : Name → List Entry → TypingResult (List Entry)
may_enter n sc = cond (is_some (type_in n.text sc)) (refuse Duplicate n.at n.end) (cond (nat_lt (length sc) 255) (Ok sc) (refuse TooManyNames n.at n.end))

-- the names in scope, and one more
abbrev pub with_name : List Entry → List ℕ → TyTree → List Entry
with_name sc n t = sc ++ record { name = n; ty = t } ∷ []

-- a name comes into scope, if it may
abbrev pub entered : Name → TyTree → List Entry → TypingResult (List Entry)
entered n t sc = then_on (may_enter n sc) (λ _. Ok (with_name sc n.text t))
