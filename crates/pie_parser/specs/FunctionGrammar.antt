-- The grammar of functions and of whole pipelines.
use Rattle.std.specs.Prelude.{◌≡◌, ℕ, Bool, false, List, [], ◌∷◌}
use Rattle.pie_lexer.specs.declared.token.Token.{Token}
use Rattle.pie_parser.specs.declared.kind.Kind.{Kind}
use Rattle.pie_parser.specs.declared.kind.Kind.TheVariants as kinds
use Rattle.pie_parser.specs.declared.tree.Name.{Name}
use Rattle.pie_parser.specs.declared.tree.Param.{Param}
use Rattle.pie_parser.specs.PlainTypes.{TypeTree}
use Rattle.pie_parser.specs.Plain.{BlockTree}
use Rattle.pie_parser.specs.FunctionTrees.{FunctionTree}
use Rattle.pie_parser.specs.At.{At}
use Rattle.pie_parser.specs.Places.{next, start}
use Rattle.pie_parser.specs.TypeGrammar.{Eats, IsName, IsType}
use Rattle.pie_parser.specs.Grammar.{IsBlock}

-- param = name ":" type
pub data IsParam : At → At → Param → Type 0 where
  param : {s a b m : At} {n : Name} {t : TypeTree} → IsName s a n → Eats kinds.Colon a b → IsType b m t
      → IsParam s m (record { at = n.at; end = m.past; name = n; kind = t })

-- { "," param }
pub data MoreParams : At → At → List Param → Type 0 where
  no_more : {s : At} → MoreParams s s []
  one_more : {s a b m : At} {p : Param} {ps : List Param} → Eats kinds.Comma s a → IsParam a b p → MoreParams b m ps → MoreParams s m (p ∷ ps)

-- "(" [ param { "," param } ] ")"
pub data IsParams : At → At → List Param → Type 0 where
  none : {s a m : At} → Eats kinds.OpenRound s a → Eats kinds.CloseRound a m → IsParams s m []
  some : {s a b c m : At} {p : Param} {ps : List Param} → Eats kinds.OpenRound s a → IsParam a b p → MoreParams b c ps → Eats kinds.CloseRound c m
      → IsParams s m (p ∷ ps)

-- func = "func" name "(" [ param { "," param } ] ")" "->" type block
pub data IsFunction : At → At → FunctionTree → Type 0 where
  function : {s a b c d e m : At} {n : Name} {ps : List Param} {t : TypeTree} {x : BlockTree} → Eats kinds.Func s a → IsName a b n → IsParams b c ps
      → Eats kinds.Arrow c d
      → IsType d e t → IsBlock e m x → IsFunction s m (record { at = start s; end = m.past; name = n; params = ps; result = t; body = x })

-- { func }
pub data Functions : At → At → List FunctionTree → Type 0 where
  no_function : {s : At} → Functions s s []
  a_function : {s a m : At} {f : FunctionTree} {fs : List FunctionTree} → IsFunction s a f → Functions a m fs → Functions s m (f ∷ fs)

-- pipeline = { func }: the tokens are these functions, all of them
abbrev pub IsPipeline : List Token → List FunctionTree → Type 0
IsPipeline ts fs = (m : At) × Functions (record { past = 0; rest = ts; marked = false }) m fs × (next m ≡ kinds.End)
