-- Trees without their spans: each place in the text is 0. Two trees are equal up to spans where they are equal without them.
use Rattle.std.specs.Prelude.{List, [], ◌∷◌}
use Rattle.pie_parser.specs.declared.tree.Name.{Name}
use Rattle.pie_parser.specs.declared.tree.Index.{Index}
use Rattle.pie_parser.specs.declared.tree.Param.{Param}
use Rattle.pie_parser.specs.PlainTypes.{TypeTree, PlainT, NamedT, ListT, TupleT, NullableT, TypeTrees, NilT, ConsT}
use Rattle.pie_parser.specs.Plain.{Tree, TLiteral, TName, TNull, TEmpty, TChain, TCompare, TPrefix, TProject}
use Rattle.pie_parser.specs.Plain.{TTuple, TList, TEach, TIf, TCall, TEffect, TWrite, TFail}
use Rattle.pie_parser.specs.Plain.{Trees, Nil, Cons, Steps, NoStep, AStep, BlockTree, TBlock, LineTrees, NoLine, ValLine, ExprLine}
use Rattle.pie_parser.specs.Plain.{LastTree, NoLast, ALast, ElseTree, NoElse, AnElse}
use Rattle.pie_parser.specs.FunctionTrees.{FunctionTree}

-- a name without its span
abbrev pub bare_name : Name → Name
bare_name n = record { at = 0; end = 0; text = n.text }

-- the number of a projection without its span
abbrev pub bare_index : Index → Index
bare_index n = record { at = 0; end = 0; number = n.number }

abbrev pub bare_indices : List Index → List Index
bare_indices [] = []
bare_indices (n ∷ ns) = bare_index n ∷ bare_indices ns

abbrev mutual
  -- a type without its spans
  pub bare_type : TypeTree → TypeTree
  bare_type (PlainT i j p) = PlainT 0 0 p
  bare_type (NamedT i j n) = NamedT 0 0 n
  bare_type (ListT i j t) = ListT 0 0 (bare_type t)
  bare_type (TupleT i j ts) = TupleT 0 0 (bare_types ts)
  bare_type (NullableT i j t) = NullableT 0 0 (bare_type t)

  pub bare_types : TypeTrees → TypeTrees
  bare_types NilT = NilT
  bare_types (ConsT t ts) = ConsT (bare_type t) (bare_types ts)

abbrev mutual
  -- an expression without its spans
  pub bare : Tree → Tree
  bare (TLiteral i j l) = TLiteral 0 0 l
  bare (TName i j n) = TName 0 0 n
  bare (TNull i j t) = TNull 0 0 (bare_type t)
  bare (TEmpty i j t) = TEmpty 0 0 (bare_type t)
  bare (TChain i j a ss) = TChain 0 0 (bare a) (bare_steps ss)
  bare (TCompare i j c a b) = TCompare 0 0 c (bare a) (bare b)
  bare (TPrefix i j p a) = TPrefix 0 0 p (bare a)
  bare (TProject i j a ns) = TProject 0 0 (bare a) (bare_indices ns)
  bare (TTuple i j es) = TTuple 0 0 (bare_trees es)
  bare (TList i j es) = TList 0 0 (bare_trees es)
  bare (TEach i j a n b) = TEach 0 0 (bare a) (bare_name n) (bare b)
  bare (TIf i j a b o) = TIf 0 0 (bare a) (bare_block b) (bare_else o)
  bare (TCall i j k n es) = TCall 0 0 k (bare_name n) (bare_trees es)
  bare (TEffect i j k a) = TEffect 0 0 k (bare a)
  bare (TWrite i j a b) = TWrite 0 0 (bare a) (bare b)
  bare (TFail i j t a) = TFail 0 0 (bare_type t) (bare a)

  pub bare_trees : Trees → Trees
  bare_trees Nil = Nil
  bare_trees (Cons e es) = Cons (bare e) (bare_trees es)

  pub bare_steps : Steps → Steps
  bare_steps NoStep = NoStep
  bare_steps (AStep o e ss) = AStep o (bare e) (bare_steps ss)

  -- a block without its spans
  pub bare_block : BlockTree → BlockTree
  bare_block (TBlock i j ls l) = TBlock 0 0 (bare_lines ls) (bare_last l)

  pub bare_lines : LineTrees → LineTrees
  bare_lines NoLine = NoLine
  bare_lines (ValLine i j n e ls) = ValLine 0 0 (bare_name n) (bare e) (bare_lines ls)
  bare_lines (ExprLine e ls) = ExprLine (bare e) (bare_lines ls)

  pub bare_last : LastTree → LastTree
  bare_last NoLast = NoLast
  bare_last (ALast e) = ALast (bare e)

  pub bare_else : ElseTree → ElseTree
  bare_else NoElse = NoElse
  bare_else (AnElse b) = AnElse (bare_block b)

-- a parameter without its spans
abbrev pub bare_param : Param → Param
bare_param p = record { at = 0; end = 0; name = bare_name p.name; kind = bare_type p.kind }

abbrev pub bare_params : List Param → List Param
bare_params [] = []
bare_params (p ∷ ps) = bare_param p ∷ bare_params ps

-- a function without its spans
abbrev pub bare_function : FunctionTree → FunctionTree
bare_function f =
    record { at = 0; end = 0; name = bare_name f.name; params = bare_params f.params; result = bare_type f.result; body = bare_block f.body }
