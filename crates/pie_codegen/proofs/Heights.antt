-- The heights of the stack before each instruction of compiled code.
use Rattle.std.proofs.Common.{◌≡◌, ℕ, zero, suc, ◌+◌, List, [], ◌∷◌, ◌++◌, length, slice_get, Option, Some, refl, sym, subst, ap, ◌∙◌, arith}
use Rattle.pie_parser.specs.declared.tree.Index.{Index}
use Rattle.pie_parser.specs.declared.tree.CallKind.{CallKind}
use Rattle.pie_parser.specs.declared.tree.CallKind.TheVariants as calls
use Rattle.pie_parser.specs.declared.tree.Literal.{Literal}
use Rattle.pie_parser.specs.declared.tree.Literal.TheVariants as literals
use Rattle.pie_parser.specs.Plain.{Tree, TLiteral, TName, TNull, TEmpty, TChain, TCompare, TPrefix, TProject, TTuple, TList, TEach, TIf, TCall}
use Rattle.pie_parser.specs.Plain.{TEffect, TWrite, TFail, Trees, Nil, Cons, Steps, NoStep, AStep, BlockTree, TBlock, LineTrees, NoLine}
use Rattle.pie_parser.specs.Plain.{ValLine, ExprLine, LastTree, NoLast, ALast, ElseTree, NoElse, AnElse}
use Rattle.pie_types.specs.Checking.{count}
use Rattle.pie_semantics.specs.Words.{Logic, Either, Both, Neither, by_logic, logic_of}
use Rattle.pie_codegen.specs.declared.spot.Spot.{Spot}
use Rattle.pie_codegen.specs.Spots.{next, next_text, after, after_either, after_both, after_steps, after_items, after_args, after_block, after_lines}
use Rattle.pie_codegen.specs.Spots.{after_last, after_else, after_indices, after_call, after_literal, loop_at}
use Rattle.pie_codegen.proofs.Base.{HasAt, has_prefix}
use Rattle.pie_codegen.proofs.Places.{Sized, none, more, both}

abbrev pub index_heights : List Index → ℕ → List ℕ
index_heights [] h = []
index_heights (n ∷ ns) h = (h + 1) ∷ index_heights ns h

abbrev mutual
  pub heights : Tree → ℕ → List ℕ
  heights (TLiteral i j l) h = h ∷ h ∷ []
  heights (TName i j n) h = h ∷ h ∷ []
  heights (TNull i j t) h = h ∷ h ∷ []
  heights (TEmpty i j t) h = h ∷ h ∷ []
  heights (TChain i j a ss) h = h ∷ (heights a h ++ by_logic (logic_of ss)
      (either_heights ss h ++ ((h + 1) ∷ h ∷ [])) (both_heights ss h ++ ((h + 1) ∷ h ∷ [])) (steps_heights ss h))
  heights (TCompare i j c a b) h = h ∷ (heights a h ++ (heights b (h + 1) ++ ((h + 1 + 1) ∷ [])))
  heights (TPrefix i j p a) h = h ∷ (heights a h ++ ((h + 1) ∷ []))
  heights (TProject i j a ns) h = h ∷ (heights a h ++ index_heights ns h)
  heights (TTuple i j es) h = h ∷ h ∷ item_heights es h
  heights (TList i j es) h = h ∷ h ∷ item_heights es h
  heights (TEach i j a n b) h =
      h ∷ (heights b h ++ ((h + 1) ∷ h ∷ (h + 1) ∷ h ∷ (h + 1) ∷ (heights a (h + 1) ++ ((h + 1 + 1) ∷ (h + 1) ∷ []))))
  heights (TIf i j a b o) h = h ∷ (heights a h ++ ((h + 1) ∷ (block_heights b h ++ ((h + 1) ∷ else_heights o h))))
  heights (TCall i j k n es) h = h ∷ (arg_heights es h ++ ((h + count es) ∷ []))
  heights (TEffect i j k a) h = h ∷ (heights a h ++ ((h + 1) ∷ []))
  heights (TWrite i j a b) h = h ∷ (heights a h ++ (heights b (h + 1) ++ ((h + 1 + 1) ∷ [])))
  heights (TFail i j t a) h = h ∷ (heights a h ++ ((h + 1) ∷ (h + 1 + 1) ∷ (h + 1) ∷ []))

  pub either_heights : Steps → ℕ → List ℕ
  either_heights NoStep h = []
  either_heights (AStep o e ss) h = (h + 1) ∷ (h + 1) ∷ (heights e h ++ either_heights ss h)

  pub both_heights : Steps → ℕ → List ℕ
  both_heights NoStep h = []
  both_heights (AStep o e ss) h = (h + 1) ∷ (heights e h ++ both_heights ss h)

  pub steps_heights : Steps → ℕ → List ℕ
  steps_heights NoStep h = []
  steps_heights (AStep o e ss) h = heights e (h + 1) ++ ((h + 1 + 1) ∷ steps_heights ss h)

  pub item_heights : Trees → ℕ → List ℕ
  item_heights Nil h = []
  item_heights (Cons e es) h = heights e (h + 1) ++ ((h + 1 + 1) ∷ item_heights es h)

  pub arg_heights : Trees → ℕ → List ℕ
  arg_heights Nil h = []
  arg_heights (Cons e es) h = heights e h ++ arg_heights es (h + 1)

  pub block_heights : BlockTree → ℕ → List ℕ
  block_heights (TBlock i j ls l) h = line_heights ls h (last_heights l h)

  -- the heights of lines before others
  pub line_heights : LineTrees → ℕ → List ℕ → List ℕ
  line_heights NoLine h rest = rest
  line_heights (ValLine i j n e ls) h rest = heights e h ++ ((h + 1) ∷ line_heights ls h rest)
  line_heights (ExprLine e ls) h rest = heights e h ++ ((h + 1) ∷ line_heights ls h rest)

  pub last_heights : LastTree → ℕ → List ℕ
  last_heights NoLast h = h ∷ []
  last_heights (ALast e) h = heights e h

  pub else_heights : ElseTree → ℕ → List ℕ
  else_heights NoElse h = h ∷ []
  else_heights (AnElse b) h = block_heights b h

-- there is one height for each instruction
literal_places : (l : Literal) (h : ℕ) (s : Spot) → Sized (h ∷ []) (s.at + 1) (after_literal l (next s)).at
literal_places (literals.Int n) h s = more none
literal_places (literals.Text t) h s = more none
literal_places (literals.Bool b) h s = more none
literal_places literals.Unit h s = more none

call_places : (k : CallKind) (h : ℕ) (s : Spot) → Sized (h ∷ []) s.at (after_call k s).at
call_places calls.Plain h s = more none
call_places calls.Require h s = more none
call_places calls.RequireByHash h s = more none
call_places calls.Run h s = more none

pub index_places : (ns : List Index) (h : ℕ) (s : Spot) → Sized (index_heights ns h) s.at (after_indices ns s).at
index_places [] h s = none
index_places (n ∷ ns) h s = more (index_places ns h (next s))

chain_places : (x : Logic) {a : ℕ} (s t u : Spot) {xs ys zs : List ℕ} → Sized xs a s.at → Sized ys a t.at → Sized zs a u.at
    → Sized (by_logic x xs ys zs) a (by_logic x s t u).at
chain_places Either s t u h k l = h
chain_places Both s t u h k l = k
chain_places Neither s t u h k l = l

mutual
  pub places : (e : Tree) (h : ℕ) (s : Spot) → Sized (heights e h) s.at (after e s).at
  places (TLiteral i j l) h s = more (literal_places l h s)
  places (TName i j n) h s = more (more none)
  places (TNull i j t) h s = more (more none)
  places (TEmpty i j t) h s = more (more none)
  places (TChain i j a ss) h s = more (both (places a h (next s)) (chain_places (logic_of ss) _ _ _
      (both (either_places ss h (after a (next s))) (more (more none))) (both (both_places ss h (after a (next s))) (more (more none)))
      (steps_places ss h (after a (next s)))))
  places (TCompare i j c a b) h s = more (both (places a h (next s)) (both (places b (h + 1) (after a (next s))) (more none)))
  places (TPrefix i j p a) h s = more (both (places a h (next s)) (more none))
  places (TProject i j a ns) h s = more (both (places a h (next s)) (index_places ns h (after a (next s))))
  places (TTuple i j es) h s = more (more (item_places es h (next (next s))))
  places (TList i j es) h s = more (more (item_places es h (next (next s))))
  places (TEach i j a n b) h s = more (both (places b h (next s)) (more (more (more (more (more
      (both (places a (h + 1) (next (loop_at (after b (next s))))) (more (more none)))))))))
  places (TIf i j a b o) h s = more (both (places a h (next s)) (more (both (block_places b h (next (after a (next s))))
      (more (else_places o h (next (after_block b (next (after a (next s))))))))))
  places (TCall i j k n es) h s = more (both (arg_places es h (next s)) (call_places k (h + count es) (after_args es (next s))))
  places (TEffect i j k a) h s = more (both (places a h (next s)) (more none))
  places (TWrite i j a b) h s = more (both (places a h (next s)) (both (places b (h + 1) (after a (next s))) (more none)))
  places (TFail i j t a) h s = more (both (places a h (next s)) (more (more (more none))))

  pub either_places : (ss : Steps) (h : ℕ) (s : Spot) → Sized (either_heights ss h) s.at (after_either ss s).at
  either_places NoStep h s = none
  either_places (AStep o e ss) h s = more (more (both (places e h (next (next s))) (either_places ss h (after e (next (next s))))))

  pub both_places : (ss : Steps) (h : ℕ) (s : Spot) → Sized (both_heights ss h) s.at (after_both ss s).at
  both_places NoStep h s = none
  both_places (AStep o e ss) h s = more (both (places e h (next s)) (both_places ss h (after e (next s))))

  pub steps_places : (ss : Steps) (h : ℕ) (s : Spot) → Sized (steps_heights ss h) s.at (after_steps ss s).at
  steps_places NoStep h s = none
  steps_places (AStep o e ss) h s = both (places e (h + 1) s) (more (steps_places ss h (next (after e s))))

  pub item_places : (es : Trees) (h : ℕ) (s : Spot) → Sized (item_heights es h) s.at (after_items es s).at
  item_places Nil h s = none
  item_places (Cons e es) h s = both (places e (h + 1) s) (more (item_places es h (next (after e s))))

  pub arg_places : (es : Trees) (h : ℕ) (s : Spot) → Sized (arg_heights es h) s.at (after_args es s).at
  arg_places Nil h s = none
  arg_places (Cons e es) h s = both (places e h s) (arg_places es (h + 1) (after e s))

  pub block_places : (b : BlockTree) (h : ℕ) (s : Spot) → Sized (block_heights b h) s.at (after_block b s).at
  block_places (TBlock i j ls l) h s = line_places ls h (last_heights l h) (after_last l) (last_places l h) s

  pub line_places : (ls : LineTrees) (h : ℕ) (rest : List ℕ) (to : Spot → Spot) → ((s : Spot) → Sized rest s.at (to s).at) → (s : Spot)
      → Sized (line_heights ls h rest) s.at (to (after_lines ls s)).at
  line_places NoLine h rest to r s = r s
  line_places (ValLine i j n e ls) h rest to r s = both (places e h s) (more (line_places ls h rest to r (next (after e s))))
  line_places (ExprLine e ls) h rest to r s = both (places e h s) (more (line_places ls h rest to r (next (after e s))))

  pub last_places : (l : LastTree) (h : ℕ) (s : Spot) → Sized (last_heights l h) s.at (after_last l s).at
  last_places NoLast h s = more none
  last_places (ALast e) h s = places e h s

  pub else_places : (o : ElseTree) (h : ℕ) (s : Spot) → Sized (else_heights o h) s.at (after_else o s).at
  else_places NoElse h s = more none
  else_places (AnElse b) h s = block_places b h s

-- the height at which an expression begins
pub first_height : (all : List ℕ) (e : Tree) (h a : ℕ) → HasAt all a (heights e h) → slice_get all a ≡ Some h
first_height all (TLiteral i j l) h a g = g.0
first_height all (TName i j n) h a g = g.0
first_height all (TNull i j t) h a g = g.0
first_height all (TEmpty i j t) h a g = g.0
first_height all (TChain i j x ss) h a g = g.0
first_height all (TCompare i j c x y) h a g = g.0
first_height all (TPrefix i j p x) h a g = g.0
first_height all (TProject i j x ns) h a g = g.0
first_height all (TTuple i j es) h a g = g.0
first_height all (TList i j es) h a g = g.0
first_height all (TEach i j x n y) h a g = g.0
first_height all (TIf i j x b o) h a g = g.0
first_height all (TCall i j k n es) h a g = g.0
first_height all (TEffect i j k x) h a g = g.0
first_height all (TWrite i j x y) h a g = g.0
first_height all (TFail i j t x) h a g = g.0

pub front_height : (all : List ℕ) (e : Tree) (h a : ℕ) (rest : List ℕ) → HasAt all a (heights e h ++ rest) → slice_get all a ≡ Some h
front_height all e h a rest g = first_height all e h a (has_prefix all a (heights e h) rest g)
