-- How many slots above the names in scope the code of each form uses. Names that are gone leave their slots to others.
use Rattle.std.specs.Prelude.{ℕ, ◌+◌, max}
use Rattle.pie_parser.specs.Plain.{Tree, TLiteral, TName, TNull, TEmpty, TChain, TCompare, TPrefix, TProject, TTuple, TList, TEach, TIf, TCall}
use Rattle.pie_parser.specs.Plain.{TEffect, TWrite, TFail, Trees, Nil, Cons, Steps, NoStep, AStep, BlockTree, TBlock, LineTrees, NoLine}
use Rattle.pie_parser.specs.Plain.{ValLine, ExprLine, LastTree, NoLast, ALast, ElseTree, NoElse, AnElse}

abbrev mutual
  pub room_of : Tree → ℕ
  room_of (TLiteral i j l) = 0
  room_of (TName i j n) = 0
  room_of (TNull i j t) = 0
  room_of (TEmpty i j t) = 0
  room_of (TChain i j a ss) = max (room_of a) (steps_room ss)
  room_of (TCompare i j c a b) = max (room_of a) (room_of b)
  room_of (TPrefix i j p a) = room_of a
  room_of (TProject i j a ns) = room_of a
  room_of (TTuple i j es) = trees_room es
  room_of (TList i j es) = trees_room es
  room_of (TEach i j a n b) = max (room_of b) (3 + room_of a)
  room_of (TIf i j a b o) = max (room_of a) (max (block_room b) (else_room o))
  room_of (TCall i j k n es) = trees_room es
  room_of (TEffect i j k a) = room_of a
  room_of (TWrite i j a b) = max (room_of a) (room_of b)
  room_of (TFail i j t a) = room_of a

  pub steps_room : Steps → ℕ
  steps_room NoStep = 0
  steps_room (AStep o e ss) = max (room_of e) (steps_room ss)

  pub trees_room : Trees → ℕ
  trees_room Nil = 0
  trees_room (Cons e es) = max (room_of e) (trees_room es)

  pub block_room : BlockTree → ℕ
  block_room (TBlock i j ls l) = lines_room ls (last_room l)

  -- the room of lines before what takes so much
  pub lines_room : LineTrees → ℕ → ℕ
  lines_room NoLine n = n
  lines_room (ValLine i j x e ls) n = max (room_of e) (1 + lines_room ls n)
  lines_room (ExprLine e ls) n = max (room_of e) (lines_room ls n)

  pub last_room : LastTree → ℕ
  last_room NoLast = 0
  last_room (ALast e) = room_of e

  pub else_room : ElseTree → ℕ
  else_room NoElse = 0
  else_room (AnElse b) = block_room b
