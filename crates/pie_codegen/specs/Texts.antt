-- The texts of each form, in the order in which its code names them.
use Rattle.std.specs.Prelude.{ℕ, List, [], ◌∷◌, ◌++◌}
use Rattle.pie_parser.specs.declared.tree.Literal.{Literal}
use Rattle.pie_parser.specs.declared.tree.Literal.TheVariants as literals
use Rattle.pie_parser.specs.declared.tree.CallKind.{CallKind}
use Rattle.pie_parser.specs.declared.tree.CallKind.TheVariants as calls
use Rattle.pie_parser.specs.Plain.{Tree, TLiteral, TName, TNull, TEmpty, TChain, TCompare, TPrefix, TProject, TTuple, TList, TEach, TIf, TCall}
use Rattle.pie_parser.specs.Plain.{TEffect, TWrite, TFail, Trees, Nil, Cons, Steps, NoStep, AStep, BlockTree, TBlock, LineTrees, NoLine}
use Rattle.pie_parser.specs.Plain.{ValLine, ExprLine, LastTree, NoLast, ALast, ElseTree, NoElse, AnElse}

abbrev pub literal_texts : Literal → List (List ℕ)
literal_texts (literals.Int n) = []
literal_texts (literals.Text t) = t ∷ []
literal_texts (literals.Bool b) = []
literal_texts literals.Unit = []

-- the name of a function that is required
abbrev pub call_texts : CallKind → List ℕ → List (List ℕ)
call_texts calls.Plain n = []
call_texts calls.Require n = n ∷ []
call_texts calls.RequireByHash n = n ∷ []
call_texts calls.Run n = n ∷ []

abbrev mutual
  pub texts_of : Tree → List (List ℕ)
  texts_of (TLiteral i j l) = literal_texts l
  texts_of (TName i j n) = []
  texts_of (TNull i j t) = []
  texts_of (TEmpty i j t) = []
  texts_of (TChain i j a ss) = texts_of a ++ steps_texts ss
  texts_of (TCompare i j c a b) = texts_of a ++ texts_of b
  texts_of (TPrefix i j p a) = texts_of a
  texts_of (TProject i j a ns) = texts_of a
  texts_of (TTuple i j es) = trees_texts es
  texts_of (TList i j es) = trees_texts es
  texts_of (TEach i j a n b) = texts_of b ++ texts_of a
  texts_of (TIf i j a b o) = texts_of a ++ (block_texts b ++ else_texts o)
  texts_of (TCall i j k n es) = trees_texts es ++ call_texts k n.text
  texts_of (TEffect i j k a) = texts_of a
  texts_of (TWrite i j a b) = texts_of a ++ texts_of b
  texts_of (TFail i j t a) = texts_of a

  pub steps_texts : Steps → List (List ℕ)
  steps_texts NoStep = []
  steps_texts (AStep o e ss) = texts_of e ++ steps_texts ss

  pub trees_texts : Trees → List (List ℕ)
  trees_texts Nil = []
  trees_texts (Cons e es) = texts_of e ++ trees_texts es

  pub block_texts : BlockTree → List (List ℕ)
  block_texts (TBlock i j ls l) = lines_texts ls ++ last_texts l

  pub lines_texts : LineTrees → List (List ℕ)
  lines_texts NoLine = []
  lines_texts (ValLine i j n e ls) = texts_of e ++ lines_texts ls
  lines_texts (ExprLine e ls) = texts_of e ++ lines_texts ls

  pub last_texts : LastTree → List (List ℕ)
  last_texts NoLast = []
  last_texts (ALast e) = texts_of e

  pub else_texts : ElseTree → List (List ℕ)
  else_texts NoElse = []
  else_texts (AnElse b) = block_texts b
