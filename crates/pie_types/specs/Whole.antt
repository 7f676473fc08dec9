-- A whole pipeline: the headings of all functions in text order, and then their bodies.
use Rattle.std.specs.Prelude.{◌≡◌, ℕ, ◌+◌, Bool, false, cond, List, [], ◌∷◌, map, bytes_eq, Option, Some, None, Ok, Err}
use Rattle.pie_value.specs.Types.{TyTree, parts_of}
use Rattle.pie_value.specs.Tree.{items_of}
use Rattle.pie_value.specs.HasType.{have_types}
use Rattle.pie_value.specs.declared.task.Task.{Task}
use Rattle.pie_parser.specs.FunctionTrees.{FunctionTree}
use Rattle.pie_types.specs.Faults.{TypingResult, then_on}
use Rattle.pie_types.specs.Scope.{Entry}
use Rattle.pie_types.specs.Headings.{Heading, signature_of, headings_from}
use Rattle.pie_types.specs.Forms.{block_fitting}
use Rattle.pie_types.specs.Checking.{block_type}

-- the type of a function's body, which is that of the function's answer
abbrev pub body_type : List Heading → FunctionTree → TypingResult TyTree
body_type hs f = then_on (signature_of f) (λ h. block_fitting h.result f.body (block_type hs h.params f.body))

-- the bodies of functions, one after another
abbrev pub bodies : List Heading → List FunctionTree → TypingResult (List Heading)
bodies hs [] = Ok hs
bodies hs (f ∷ fs) = then_on (body_type hs f) (λ _. bodies hs fs)

-- a pipeline that was checked, or the first refusal
abbrev pub checked : List FunctionTree → TypingResult (List FunctionTree)
checked fs = then_on (headings_from [] fs) (λ hs. then_on (bodies hs fs) (λ _. Ok fs))

-- a pipeline was checked, and its functions have these headings
abbrev pub IsCheckedWith : List FunctionTree → List Heading → Type 0
IsCheckedWith fs hs = (headings_from [] fs ≡ Ok hs) × (checked fs ≡ Ok fs)

-- the types of parameters
abbrev pub types_in : List Entry → List TyTree
types_in es = map (λ (e : Entry). e.ty) es

-- a task has arguments of the types of a function's parameters
abbrev pub takes : TypingResult Heading → Task → Bool
takes (Ok h) t = have_types (parts_of (types_in h.params)) (items_of t.args)
takes (Err e) t = false

-- the number of a task's function from this one on: of the one with its name, if that takes its arguments
abbrev pub number_from : ℕ → List FunctionTree → Task → Option ℕ
number_from n [] t = None
number_from n (f ∷ fs) t = cond (bytes_eq t.func f.name.text) (cond (takes (signature_of f) t) (Some n) None) (number_from (n + 1) fs t)
