-- The headings of functions: the types of their parameters, and of what they answer.
use Rattle.std.specs.Prelude.{Bool, ◌||◌, cond, ℕ, ◌+◌, List, [], ◌∷◌, ◌++◌, bytes_eq, codes, Option, Some, None, Ok}
use Rattle.std.specs.Option.{is_some}
use Rattle.pie_value.specs.Types.{TyTree}
use Rattle.pie_signature.specs.Names.{builtin_of}
use Rattle.pie_parser.specs.declared.tree.Name.{Name}
use Rattle.pie_parser.specs.declared.tree.Param.{Param}
use Rattle.pie_parser.specs.FunctionTrees.{FunctionTree}
use Rattle.pie_types.specs.Faults.{TypingResult, refuse, then_on, Duplicate}
use Rattle.pie_types.specs.Written.{written}
use Rattle.pie_types.specs.Scope.{Entry, may_enter, with_name}

-- a function's name, its parameters with their types, and the type of what it answers
pub record Heading : Type 0 where
  pub name : List ℕ
  pub params : List Entry
  pub result : TyTree

-- the function of a name
abbrev pub function_in : List ℕ → List Heading → Option Heading
function_in n [] = None
function_in n (h ∷ hs) = cond (bytes_eq n h.name) (Some h) (function_in n hs)

-- the number of the function of a name, counted on from this one
abbrev pub place_from : ℕ → List ℕ → List Heading → Option ℕ
place_from k n [] = None
place_from k n (h ∷ hs) = cond (bytes_eq n h.name) (Some k) (place_from (k + 1) n hs)

-- a name of a built-in function, `read_bytes` among them
abbrev pub is_builtin : List ℕ → Bool
is_builtin n = bytes_eq n (codes "read_bytes") || is_some (builtin_of n)

-- a function may have a name: it is no built-in function's, and no function before has it
abbrev pub may_be_named : Name → List Heading → TypingResult (List Heading)
may_be_named n hs = cond (is_builtin n.text || is_some (function_in n.text hs)) (refuse Duplicate n.at n.end) (Ok hs)

-- one more parameter behind those before: its name, and then its type
abbrev pub with_param : List Entry → Param → TypingResult (List Entry)
with_param done p = then_on (may_enter p.name done) (λ _. then_on (written p.kind) (λ t. Ok (with_name done p.name.text t)))

-- the parameters from here on, behind those before
abbrev pub params_from : List Entry → List Param → TypingResult (List Entry)
params_from done [] = Ok done
params_from done (p ∷ ps) = then_on (with_param done p) (λ es. params_from es ps)

-- a function's heading by itself: its parameters, and then the type of its answer
abbrev pub signature_of : FunctionTree → TypingResult Heading
signature_of f = then_on (params_from [] f.params) (λ ps. then_on (written f.result) (λ t. Ok (record { name = f.name.text; params = ps; result = t })))

-- a function's heading behind those of the functions before: its name comes first
abbrev pub heading_of : List Heading → FunctionTree → TypingResult Heading
heading_of hs f = then_on (may_be_named f.name hs) (λ _. signature_of f)

-- the headings of functions, behind those of the functions before
abbrev pub headings_from : List Heading → List FunctionTree → TypingResult (List Heading)
headings_from done [] = Ok done
headings_from done (f ∷ fs) = then_on (heading_of done f) (λ h. headings_from (done ++ h ∷ []) fs)
