-- Where the code of each form ends: the place behind it, and the text behind its texts.
use Rattle.std.specs.Prelude.{ℕ, ◌+◌, List, [], ◌∷◌}
use Rattle.pie_parser.specs.declared.tree.Literal.{Literal}
use Rattle.pie_parser.specs.declared.tree.Literal.TheVariants as literals
use Rattle.pie_parser.specs.declared.tree.Index.{Index}
use Rattle.pie_parser.specs.declared.tree.CallKind.{CallKind}
use Rattle.pie_parser.specs.declared.tree.CallKind.TheVariants as calls
use Rattle.pie_parser.specs.Plain.{Tree, TLiteral, TName, TNull, TEmpty, TChain, TCompare, TPrefix, TProject, TTuple, TList, TEach, TIf, TCall}
use Rattle.pie_parser.specs.Plain.{TEffect, TWrite, TFail, Trees, Nil, Cons, Steps, NoStep, AStep, BlockTree, TBlock, LineTrees, NoLine}
use Rattle.pie_parser.specs.Plain.{ValLine, ExprLine, LastTree, NoLast, ALast, ElseTree, NoElse, AnElse}
use Rattle.pie_semantics.specs.Words.{by_logic, logic_of}
use Rattle.pie_codegen.specs.declared.spot.Spot.{Spot}

-- behind one instruction
abbrev pub next : Spot → Spot
next s = record { at = s.at + 1; text = s.text }

-- behind one instruction and its text
abbrev pub next_text : Spot → Spot
next_text s = record { at = s.at + 1; text = s.text + 1 }

abbrev pub after_literal : Literal → Spot → Spot
after_literal (literals.Int n) s = next s
after_literal (literals.Text t) s = next_text s
after_literal (literals.Bool b) s = next s
after_literal literals.Unit s = next s

abbrev pub after_indices : List Index → Spot → Spot
after_indices [] s = s
after_indices (n ∷ ns) s = after_indices ns (next s)

abbrev pub after_call : CallKind → Spot → Spot
after_call calls.Plain s = next s
after_call calls.Require s = next_text s
after_call calls.RequireByHash s = next_text s
after_call calls.Run s = next_text s

-- behind what comes before the items of a comprehension: the list and the number go into their slots, and an empty list is pushed
abbrev pub loop_at : Spot → Spot
loop_at s = next (next (next (next s)))

abbrev mutual
  -- behind the code of an expression
  pub after : Tree → Spot → Spot
  after (TLiteral i j l) s = after_literal l (next s)
  after (TName i j n) s = next (next s)
  after (TNull i j t) s = next (next s)
  after (TEmpty i j t) s = next (next s)
  after (TChain i j a ss) s = by_logic (logic_of ss) (next (next (after_either ss (after a (next s)))))
      (next (next (after_both ss (after a (next s))))) (after_steps ss (after a (next s)))
  after (TCompare i j c a b) s = next (after b (after a (next s)))
  after (TPrefix i j p a) s = next (after a (next s))
  after (TProject i j a ns) s = after_indices ns (after a (next s))
  after (TTuple i j es) s = after_items es (next (next s))
  after (TList i j es) s = after_items es (next (next s))
  after (TEach i j a n b) s = next (next (after a (next (loop_at (after b (next s))))))
  after (TIf i j a b o) s = after_else o (next (after_block b (next (after a (next s)))))
  after (TCall i j k n es) s = after_call k (after_args es (next s))
  after (TEffect i j k a) s = next (after a (next s))
  after (TWrite i j a b) s = next (after b (after a (next s)))
  after (TFail i j t a) s = next (next (next (after a (next s))))

  -- behind the operands of a chain of `||`
  pub after_either : Steps → Spot → Spot
  after_either NoStep s = s
  after_either (AStep o e ss) s = after_either ss (after e (next (next s)))

  -- behind the operands of a chain of `&&`
  pub after_both : Steps → Spot → Spot
  after_both NoStep s = s
  after_both (AStep o e ss) s = after_both ss (after e (next s))

  -- behind operands, each with its operator
  pub after_steps : Steps → Spot → Spot
  after_steps NoStep s = s
  after_steps (AStep o e ss) s = after_steps ss (next (after e s))

  -- behind items, each pushed
  pub after_items : Trees → Spot → Spot
  after_items Nil s = s
  after_items (Cons e es) s = after_items es (next (after e s))

  -- behind arguments
  pub after_args : Trees → Spot → Spot
  after_args Nil s = s
  after_args (Cons e es) s = after_args es (after e s)

  pub after_block : BlockTree → Spot → Spot
  after_block (TBlock i j ls l) s = after_last l (after_lines ls s)

  pub after_lines : LineTrees → Spot → Spot
  after_lines NoLine s = s
  after_lines (ValLine i j n e ls) s = after_lines ls (next (after e s))
  after_lines (ExprLine e ls) s = after_lines ls (next (after e s))

  pub after_last : LastTree → Spot → Spot
  after_last NoLast s = next s
  after_last (ALast e) s = after e s

  pub after_else : ElseTree → Spot → Spot
  after_else NoElse s = next s
  after_else (AnElse b) s = after_block b s
