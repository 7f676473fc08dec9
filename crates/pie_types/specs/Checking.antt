-- The type of an expression, or the first refusal: each part is typed in the order of evaluation, and matched as soon as it is typed.
-- `hs` are the headings of all functions, and `sc` are the names in scope.
use Rattle.std.specs.Prelude.{ℕ, ◌+◌, List, [], ◌∷◌, Ok}
use Rattle.pie_value.specs.Types.{TyTree, UnitTy}
use Rattle.pie_parser.specs.Plain.{Tree, TLiteral, TName, TNull, TEmpty, TChain, TCompare, TPrefix, TProject, TTuple, TList, TEach, TIf, TCall, TEffect}
use Rattle.pie_parser.specs.Plain.{TWrite, TFail, Trees, Nil, Cons, Steps, NoStep, AStep, BlockTree, TBlock, LineTrees, NoLine, ValLine, ExprLine, LastTree}
use Rattle.pie_parser.specs.Plain.{NoLast, ALast, ElseTree, NoElse, AnElse}
use Rattle.pie_parser.specs.declared.tree.Name.{Name}
use Rattle.pie_parser.specs.declared.tree.Comparison.{Comparison}
use Rattle.pie_parser.specs.declared.tree.CallKind.{CallKind}
use Rattle.pie_types.specs.Faults.{TypingResult, refuse, then_on, Arity}
use Rattle.pie_types.specs.Scope.{Entry, entered}
use Rattle.pie_types.specs.Headings.{Heading}
use Rattle.pie_types.specs.Spans.{at_of, end_of, answer_at, answer_end}
use Rattle.pie_types.specs.Operators.{matched, literal_type, prefix_type}
use Rattle.pie_types.specs.Calls.{Callee, misfit, unless, of_call}
use Rattle.pie_types.specs.Forms.{fitting, block_fitting, of_name, of_null, of_empty, of_chain, of_compare, of_project, of_tuple, of_list, of_each, of_if}
use Rattle.pie_types.specs.Forms.{of_effect, of_write, of_fail}

-- how many expressions there are
abbrev pub count : Trees → ℕ
count Nil = 0
count (Cons t ts) = count ts + 1

abbrev mutual
  -- the type of an expression
  pub type_of : List Heading → List Entry → Tree → TypingResult TyTree
  type_of hs sc (TLiteral i j l) = Ok (literal_type l)
  type_of hs sc (TName i j n) = of_name sc i j n
  type_of hs sc (TNull i j t) = of_null t
  type_of hs sc (TEmpty i j t) = of_empty t
  type_of hs sc (TChain i j a ss) = of_chain a (type_of hs sc a) ss (λ t. operands hs sc t ss)
  type_of hs sc (TCompare i j c a b) = of_compare c a (type_of hs sc a) b (type_of hs sc b)
  type_of hs sc (TPrefix i j p a) = fitting (prefix_type p) a (type_of hs sc a)
  type_of hs sc (TProject i j a ns) = of_project a (type_of hs sc a) ns
  type_of hs sc (TTuple i j ts) = of_tuple (types_of hs sc ts)
  type_of hs sc (TList i j ts) = of_list (list_items hs sc i j ts)
  type_of hs sc (TEach i j a n b) = of_each sc b (type_of hs sc b) n (λ inner. type_of hs inner a)
  type_of hs sc (TIf i j a b o) = of_if a (type_of hs sc a) (block_type hs sc b) (λ t. branches hs sc t b o)
  type_of hs sc (TCall i j k n ts) = of_call hs i j k n (count ts) (λ c. arguments hs sc c 0 ts)
  type_of hs sc (TEffect i j k a) = of_effect k a (type_of hs sc a)
  type_of hs sc (TWrite i j a b) = of_write a (type_of hs sc a) b (type_of hs sc b)
  type_of hs sc (TFail i j t a) = of_fail t a (type_of hs sc a)

  -- the operands behind a chain's first one all have its type
  pub operands : List Heading → List Entry → TyTree → Steps → TypingResult TyTree
  operands hs sc w NoStep = Ok w
  operands hs sc w (AStep o e ss) = then_on (fitting w e (type_of hs sc e)) (λ _. operands hs sc w ss)

  -- the types of expressions, one after another
  pub types_of : List Heading → List Entry → Trees → TypingResult (List TyTree)
  types_of hs sc Nil = Ok []
  types_of hs sc (Cons e es) = then_on (type_of hs sc e) (λ t. then_on (types_of hs sc es) (λ ts. Ok (t ∷ ts)))

  -- the type of a list's first item, which the others have too
  pub list_items : List Heading → List Entry → ℕ → ℕ → Trees → TypingResult TyTree
  list_items hs sc i j Nil = refuse Arity i j
  list_items hs sc i j (Cons e es) = then_on (type_of hs sc e) (λ t. more_items hs sc t es)

  -- the items behind a list's first one all have its type
  pub more_items : List Heading → List Entry → TyTree → Trees → TypingResult TyTree
  more_items hs sc w Nil = Ok w
  more_items hs sc w (Cons e es) = then_on (fitting w e (type_of hs sc e)) (λ _. more_items hs sc w es)

  -- the types of the arguments from this number on, each fitting
  pub arguments : List Heading → List Entry → Callee → ℕ → Trees → TypingResult (List TyTree)
  arguments hs sc c n Nil = Ok []
  arguments hs sc c n (Cons e es) = then_on (type_of hs sc e) (λ t. then_on (unless (misfit c n t) (at_of e) (end_of e) t) (λ _.
      then_on (arguments hs sc c (n + 1) es) (λ ts. Ok (t ∷ ts))))

  -- the type of an `if` whose first block has this type: that of both, and nothing without `else`
  pub branches : List Heading → List Entry → TyTree → BlockTree → ElseTree → TypingResult TyTree
  branches hs sc t b NoElse = matched UnitTy (answer_at b) (answer_end b) t
  branches hs sc t b (AnElse o) = block_fitting t o (block_type hs sc o)

  -- the type of a block: of its last expression, or nothing without one
  pub block_type : List Heading → List Entry → BlockTree → TypingResult TyTree
  block_type hs sc (TBlock i j ls l) = then_on (after_lines hs sc ls) (λ inner. last_type hs inner l)

  -- the names in scope behind some lines
  pub after_lines : List Heading → List Entry → LineTrees → TypingResult (List Entry)
  after_lines hs sc NoLine = Ok sc
  after_lines hs sc (ValLine i j n e ls) = then_on (type_of hs sc e) (λ t. then_on (entered n t sc) (λ inner. after_lines hs inner ls))
  after_lines hs sc (ExprLine e ls) = then_on (type_of hs sc e) (λ _. after_lines hs sc ls)

  -- the type of what ends a block
  pub last_type : List Heading → List Entry → LastTree → TypingResult TyTree
  last_type hs sc NoLast = Ok UnitTy
  last_type hs sc (ALast e) = type_of hs sc e

-- the types of forms, each from its parts

abbrev pub chain_type : List Heading → List Entry → Tree → Steps → TypingResult TyTree
chain_type hs sc a ss = of_chain a (type_of hs sc a) ss (λ t. operands hs sc t ss)

abbrev pub compare_type : List Heading → List Entry → Comparison → Tree → Tree → TypingResult TyTree
compare_type hs sc c a b = of_compare c a (type_of hs sc a) b (type_of hs sc b)

abbrev pub each_type : List Heading → List Entry → Tree → Name → Tree → TypingResult TyTree
each_type hs sc a n b = of_each sc b (type_of hs sc b) n (λ inner. type_of hs inner a)

abbrev pub if_type : List Heading → List Entry → Tree → BlockTree → ElseTree → TypingResult TyTree
if_type hs sc a b o = of_if a (type_of hs sc a) (block_type hs sc b) (λ t. branches hs sc t b o)

abbrev pub call_type : List Heading → List Entry → ℕ → ℕ → CallKind → Name → Trees → TypingResult TyTree
call_type hs sc i j k n es = of_call hs i j k n (count es) (λ c. arguments hs sc c 0 es)

abbrev pub write_type : List Heading → List Entry → Tree → Tree → TypingResult TyTree
write_type hs sc a b = of_write a (type_of hs sc a) b (type_of hs sc b)

abbrev pub fitting_block : List Heading → List Entry → TyTree → BlockTree → TypingResult TyTree
fitting_block hs sc w b = block_fitting w b (block_type hs sc b)
