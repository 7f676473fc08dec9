-- Trees whose code finds its slots: each name is in scope, and calls and projections are ones that there are. Typed trees are so.
use Rattle.std.specs.Prelude.{◌≡◌, ⊤, ℕ, Bool, false, true, ◌||◌, List, [], ◌∷◌, pos, negsuc, ℤ}
use lib.Pointwise.{pointwise}
use Rattle.std.specs.Prelude.{◌==◌}
use Rattle.pie_parser.specs.declared.tree.Index.{Index}
use Rattle.pie_parser.specs.declared.tree.CallKind.{CallKind}
use Rattle.pie_parser.specs.declared.tree.CallKind.TheVariants as calls
use Rattle.pie_parser.specs.Plain.{Tree, TLiteral, TName, TNull, TEmpty, TChain, TCompare, TPrefix, TProject, TTuple, TList, TEach, TIf, TCall}
use Rattle.pie_parser.specs.Plain.{TEffect, TWrite, TFail, Trees, Nil, Cons, Steps, NoStep, AStep, BlockTree, TBlock, LineTrees, NoLine}
use Rattle.pie_parser.specs.Plain.{ValLine, ExprLine, LastTree, NoLast, ALast, ElseTree, NoElse, AnElse}
use Rattle.pie_types.specs.Checking.{count}
use Rattle.pie_semantics.specs.Words.{Callee, ABuiltin, ReadBytes, NoCallee, callee_of, callee_arity}

-- a name is among some
abbrev pub is_bound : List ℕ → List (List ℕ) → Bool
is_bound n [] = false
is_bound n (x ∷ xs) = pointwise ◌==◌ n x || is_bound n xs

-- a number that counts items
abbrev pub Counts : ℤ → Type 0
Counts (pos n) = ⊤
Counts (negsuc n) = ⊥

abbrev pub AllCount : List Index → Type 0
AllCount [] = ⊤
AllCount (n ∷ ns) = Counts n.number × AllCount ns

-- there is something to call
abbrev pub IsThere : Callee → Type 0
IsThere (ABuiltin which) = ⊤
IsThere ReadBytes = ⊤
IsThere NoCallee = ⊥

-- a call by a plain name calls something with as many arguments as it takes
abbrev pub CallFits : CallKind → List ℕ → ℕ → Type 0
CallFits calls.Plain n k = IsThere (callee_of n) × (k ≡ callee_arity (callee_of n))
CallFits k n i = ⊤

abbrev mutual
  pub Formed : List (List ℕ) → Tree → Type 0
  Formed ns (TLiteral i j l) = ⊤
  Formed ns (TName i j n) = is_bound n ns ≡ true
  Formed ns (TNull i j t) = ⊤
  Formed ns (TEmpty i j t) = ⊤
  Formed ns (TChain i j a ss) = Formed ns a × StepsFormed ns ss
  Formed ns (TCompare i j c a b) = Formed ns a × Formed ns b
  Formed ns (TPrefix i j p a) = Formed ns a
  Formed ns (TProject i j a is) = Formed ns a × AllCount is
  Formed ns (TTuple i j es) = TreesFormed ns es
  Formed ns (TList i j es) = TreesFormed ns es
  Formed ns (TEach i j a n b) = Formed ns b × Formed (n.text ∷ ns) a
  Formed ns (TIf i j a b o) = Formed ns a × BlockFormed ns b × ElseFormed ns o
  Formed ns (TCall i j k n es) = TreesFormed ns es × CallFits k n.text (count es)
  Formed ns (TEffect i j k a) = Formed ns a
  Formed ns (TWrite i j a b) = Formed ns a × Formed ns b
  Formed ns (TFail i j t a) = Formed ns a

  pub StepsFormed : List (List ℕ) → Steps → Type 0
  StepsFormed ns NoStep = ⊤
  StepsFormed ns (AStep o e ss) = Formed ns e × StepsFormed ns ss

  pub TreesFormed : List (List ℕ) → Trees → Type 0
  TreesFormed ns Nil = ⊤
  TreesFormed ns (Cons e es) = Formed ns e × TreesFormed ns es

  pub BlockFormed : List (List ℕ) → BlockTree → Type 0
  BlockFormed ns (TBlock i j ls l) = LinesFormed ns ls (λ inner. LastFormed inner l)

  -- lines, and then what stands behind them where their names are in scope
  pub LinesFormed : List (List ℕ) → LineTrees → (List (List ℕ) → Type 0) → Type 0
  LinesFormed ns NoLine P = P ns
  LinesFormed ns (ValLine i j n e ls) P = Formed ns e × LinesFormed (n.text ∷ ns) ls P
  LinesFormed ns (ExprLine e ls) P = Formed ns e × LinesFormed ns ls P

  pub LastFormed : List (List ℕ) → LastTree → Type 0
  LastFormed ns NoLast = ⊤
  LastFormed ns (ALast e) = Formed ns e

  pub ElseFormed : List (List ℕ) → ElseTree → Type 0
  ElseFormed ns NoElse = ⊤
  ElseFormed ns (AnElse b) = BlockFormed ns b
