-- The code of each form ends where it is said to end, and so do its texts.
use Rattle.std.proofs.Common.{◌≡◌, ℕ, zero, suc, ◌+◌, Bool, true, false, List, [], ◌∷◌, ◌++◌, length, refl, sym, subst, ap, ◌∙◌, arith}
use Rattle.std.proofs.lemmas.List.{length-append}
use Rattle.pie_operators.specs.declared.operator.Unary.TheVariants.{Not}
use Rattle.pie_code.specs.declared.instr.Constant.TheVariants as constants
use Rattle.pie_code.specs.declared.instr.Instr.{Instr}
use Rattle.pie_code.specs.declared.instr.Instr.TheVariants.{Push, Jump, JumpIfNot, Store, Drop, ListPush, TuplePush}
use Rattle.pie_parser.specs.declared.tree.Index.{Index}
use Rattle.pie_parser.specs.declared.tree.Literal.{Literal}
use Rattle.pie_parser.specs.declared.tree.Literal.TheVariants as literals
use Rattle.pie_parser.specs.declared.tree.CallKind.{CallKind}
use Rattle.pie_parser.specs.declared.tree.CallKind.TheVariants as calls
use Rattle.pie_parser.specs.Plain.{Tree, TLiteral, TName, TNull, TEmpty, TChain, TCompare, TPrefix, TProject, TTuple, TList, TEach, TIf, TCall}
use Rattle.pie_parser.specs.Plain.{TEffect, TWrite, TFail, Trees, Nil, Cons, Steps, NoStep, AStep, BlockTree, TBlock, LineTrees, NoLine}
use Rattle.pie_parser.specs.Plain.{ValLine, ExprLine, LastTree, NoLast, ALast, ElseTree, NoElse, AnElse}
use Rattle.pie_semantics.specs.Words.{Logic, Either, Both, Neither, by_logic, logic_of}
use Rattle.pie_types.specs.Checking.{count}
use Rattle.pie_codegen.specs.declared.spot.Spot.{Spot}
use Rattle.pie_codegen.proofs.Base.{HasAt, has_back}
use Rattle.pie_codegen.specs.Spots.{next, after, after_either, after_both, after_steps, after_items, after_args, after_block, after_lines, after_last}
use Rattle.pie_codegen.specs.Spots.{after_else, after_indices, after_call, after_literal, loop_at}
use Rattle.pie_codegen.specs.Texts.{texts_of, steps_texts, trees_texts, block_texts, lines_texts, last_texts, else_texts, literal_texts, call_texts}
use Rattle.pie_codegen.specs.Compiled.{Scope, code_of, either_code, both_code, steps_code, items_code, args_code, block_code, lines_code, last_code, else_code}
use Rattle.pie_codegen.specs.Compiled.{indices_code, literal_code, call_code}

-- a list that begins at one place ends before another
pub record Sized {X : Type 0} (xs : List X) (a b : ℕ) : Type 0 where
  pub is : a + length xs ≡ b

pub none : {X : Type 0} {a : ℕ} → Sized {X = X} [] a a
none {a = a} = record { is = omega arith }

pub more : {X : Type 0} {x : X} {xs : List X} {a b : ℕ} → Sized xs (a + 1) b → Sized (x ∷ xs) a b
more h = let e = h.is in record { is = omega arith }

pub both : {X : Type 0} {xs ys : List X} {a b c : ℕ} → Sized xs a b → Sized ys b c → Sized (xs ++ ys) a c
both {xs = xs} {ys = ys} h k = let d = h.is in let e = k.is in record { is = omega (arith, length-append xs ys) }

-- what stands behind a part
pub behind : {X : Type 0} (all : List X) {xs : List X} (ys : List X) {a b : ℕ} → HasAt all a (xs ++ ys) → Sized xs a b → HasAt all b ys
behind all {xs = xs} ys {a = a} h k = subst (λ n. HasAt all n ys) k.is (has_back all a xs ys h)

pub indices_end : (ns : List Index) (s : Spot) → Sized (indices_code ns) s.at (after_indices ns s).at
indices_end [] s = none
indices_end (n ∷ ns) s = more (indices_end ns (next s))

pub indices_text : (ns : List Index) (s : Spot) → (after_indices ns s).text ≡ s.text
indices_text [] s = refl
indices_text (n ∷ ns) s = indices_text ns (next s)

chain_end : (x : Logic) {a : ℕ} (s t u : Spot) {xs ys zs : List Instr} → Sized xs a s.at → Sized ys a t.at → Sized zs a u.at
    → Sized (by_logic x xs ys zs) a (by_logic x s t u).at
chain_end Either s t u h k l = h
chain_end Both s t u h k l = k
chain_end Neither s t u h k l = l

one_literal : (l : Literal) (s : Spot) → Sized (literal_code l s ∷ []) (s.at + 1) (after_literal l (next s)).at
one_literal (literals.Int n) s = more none
one_literal (literals.Text t) s = more none
one_literal (literals.Bool b) s = more none
one_literal literals.Unit s = more none

one_call : (k : CallKind) (n : List ℕ) (i : ℕ) (s : Spot) → Sized (call_code k n i s ∷ []) s.at (after_call k s).at
one_call calls.Plain n i s = more none
one_call calls.Require n i s = more none
one_call calls.RequireByHash n i s = more none
one_call calls.Run n i s = more none

-- the place behind each form's code
mutual
  pub ends_at : (e : Tree) (s : Spot) (m : ℕ) (sc : Scope) → Sized (code_of e s m sc) s.at (after e s).at
  ends_at (TLiteral i j l) s m sc = more (one_literal l s)
  ends_at (TName i j n) s m sc = more (more none)
  ends_at (TNull i j t) s m sc = more (more none)
  ends_at (TEmpty i j t) s m sc = more (more none)
  ends_at (TChain i j a ss) s m sc = more (both (ends_at a (next s) m sc) (chain_end (logic_of ss) _ _ _
      (both (either_end ss (after a (next s)) (after_either ss (after a (next s))).at m sc) (more (more none)))
      (both (both_end ss (after a (next s)) (after_both ss (after a (next s))).at m sc) (more (more none)))
      (steps_end ss (after a (next s)) m sc)))
  ends_at (TCompare i j c a b) s m sc = more (both (ends_at a (next s) m sc) (both (ends_at b (after a (next s)) m sc) (more none)))
  ends_at (TPrefix i j p a) s m sc = more (both (ends_at a (next s) m sc) (more none))
  ends_at (TProject i j a ns) s m sc = more (both (ends_at a (next s) m sc) (indices_end ns (after a (next s))))
  ends_at (TTuple i j es) s m sc = more (more (items_end TuplePush es (next (next s)) m sc))
  ends_at (TList i j es) s m sc = more (more (items_end ListPush es (next (next s)) m sc))
  ends_at (TEach i j a n b) s m sc =
      more (both (ends_at b (next s) m sc) (more (more (more (more (more
      (both (ends_at a (next (loop_at (after b (next s)))) (m + 3) ((n.text, m + 2) ∷ sc)) (more (more none)))))))))
  ends_at (TIf i j a b o) s m sc =
      more (both (ends_at a (next s) m sc) (more (both (block_end b (next (after a (next s))) m sc)
      (more (else_end o (next (after_block b (next (after a (next s))))) m sc)))))
  ends_at (TCall i j k n es) s m sc = more (both (args_end es (next s) m sc) (one_call k n.text (count es) (after_args es (next s))))
  ends_at (TEffect i j k a) s m sc = more (both (ends_at a (next s) m sc) (more none))
  ends_at (TWrite i j a b) s m sc = more (both (ends_at a (next s) m sc) (both (ends_at b (after a (next s)) m sc) (more none)))
  ends_at (TFail i j t a) s m sc = more (both (ends_at a (next s) m sc) (more (more (more none))))

  pub either_end : (ss : Steps) (s : Spot) (to m : ℕ) (sc : Scope) → Sized (either_code ss s to m sc) s.at (after_either ss s).at
  either_end NoStep s to m sc = none
  either_end (AStep o e ss) s to m sc = more (more (both (ends_at e (next (next s)) m sc) (either_end ss (after e (next (next s))) to m sc)))

  pub both_end : (ss : Steps) (s : Spot) (to m : ℕ) (sc : Scope) → Sized (both_code ss s to m sc) s.at (after_both ss s).at
  both_end NoStep s to m sc = none
  both_end (AStep o e ss) s to m sc = more (both (ends_at e (next s) m sc) (both_end ss (after e (next s)) to m sc))

  pub steps_end : (ss : Steps) (s : Spot) (m : ℕ) (sc : Scope) → Sized (steps_code ss s m sc) s.at (after_steps ss s).at
  steps_end NoStep s m sc = none
  steps_end (AStep o e ss) s m sc = both (ends_at e s m sc) (more (steps_end ss (next (after e s)) m sc))

  pub items_end : (grow : Instr) (es : Trees) (s : Spot) (m : ℕ) (sc : Scope) → Sized (items_code grow es s m sc) s.at (after_items es s).at
  items_end grow Nil s m sc = none
  items_end grow (Cons e es) s m sc = both (ends_at e s m sc) (more (items_end grow es (next (after e s)) m sc))

  pub args_end : (es : Trees) (s : Spot) (m : ℕ) (sc : Scope) → Sized (args_code es s m sc) s.at (after_args es s).at
  args_end Nil s m sc = none
  args_end (Cons e es) s m sc = both (ends_at e s m sc) (args_end es (after e s) m sc)

  pub block_end : (b : BlockTree) (s : Spot) (m : ℕ) (sc : Scope) → Sized (block_code b s m sc) s.at (after_block b s).at
  block_end (TBlock i j ls l) s m sc = lines_end ls (last_code l) (after_last l) (last_end l) s m sc

  pub lines_end : (ls : LineTrees) (rest : Spot → ℕ → Scope → List Instr) (to : Spot → Spot)
      → ((s : Spot) (m : ℕ) (sc : Scope) → Sized (rest s m sc) s.at (to s).at) → (s : Spot) (m : ℕ) (sc : Scope)
      → Sized (lines_code ls s m sc rest) s.at (to (after_lines ls s)).at
  lines_end NoLine rest to h s m sc = h s m sc
  lines_end (ValLine i j n e ls) rest to h s m sc = both (ends_at e s m sc) (more (lines_end ls rest to h (next (after e s)) (m + 1) ((n.text, m) ∷ sc)))
  lines_end (ExprLine e ls) rest to h s m sc = both (ends_at e s m sc) (more (lines_end ls rest to h (next (after e s)) m sc))

  pub last_end : (l : LastTree) (s : Spot) (m : ℕ) (sc : Scope) → Sized (last_code l s m sc) s.at (after_last l s).at
  last_end NoLast s m sc = more none
  last_end (ALast e) s m sc = ends_at e s m sc

  pub else_end : (o : ElseTree) (s : Spot) (m : ℕ) (sc : Scope) → Sized (else_code o s m sc) s.at (after_else o s).at
  else_end NoElse s m sc = more none
  else_end (AnElse b) s m sc = block_end b s m sc

-- the text behind each form's texts

chain_texts : (x : Logic) {a : ℕ} (s t u : Spot) {xs : List (List ℕ)} → Sized xs a s.text → Sized xs a t.text → Sized xs a u.text
    → Sized xs a (by_logic x s t u).text
chain_texts Either s t u h k l = h
chain_texts Both s t u h k l = k
chain_texts Neither s t u h k l = l

literal_text : (l : Literal) (s : Spot) → Sized (literal_texts l) s.text (after_literal l (next s)).text
literal_text (literals.Int n) s = none
literal_text (literals.Text t) s = more none
literal_text (literals.Bool b) s = none
literal_text literals.Unit s = none

call_text : (k : CallKind) (n : List ℕ) (s : Spot) → Sized (call_texts k n) s.text (after_call k s).text
call_text calls.Plain n s = none
call_text calls.Require n s = more none
call_text calls.RequireByHash n s = more none
call_text calls.Run n s = more none

-- the same end by another name
moved : {X : Type 0} {xs : List X} {a b c : ℕ} → Sized xs a b → b ≡ c → Sized xs a c
moved h e = record { is = h.is ∙ e }

mutual
  pub texts_end : (e : Tree) (s : Spot) → Sized (texts_of e) s.text (after e s).text
  texts_end (TLiteral i j l) s = literal_text l s
  texts_end (TName i j n) s = none
  texts_end (TNull i j t) s = none
  texts_end (TEmpty i j t) s = none
  texts_end (TChain i j a ss) s = both (texts_end a (next s)) (chain_texts (logic_of ss) _ _ _
      (either_text ss (after a (next s))) (both_text ss (after a (next s))) (steps_text ss (after a (next s))))
  texts_end (TCompare i j c a b) s = both (texts_end a (next s)) (texts_end b (after a (next s)))
  texts_end (TPrefix i j p a) s = texts_end a (next s)
  texts_end (TProject i j a ns) s = moved (texts_end a (next s)) (sym (indices_text ns (after a (next s))))
  texts_end (TTuple i j es) s = items_text es (next (next s))
  texts_end (TList i j es) s = items_text es (next (next s))
  texts_end (TEach i j a n b) s = both (texts_end b (next s)) (texts_end a (next (loop_at (after b (next s)))))
  texts_end (TIf i j a b o) s =
      both (texts_end a (next s)) (both (block_text b (next (after a (next s)))) (else_text o (next (after_block b (next (after a (next s)))))))
  texts_end (TCall i j k n es) s = both (args_text es (next s)) (call_text k n.text (after_args es (next s)))
  texts_end (TEffect i j k a) s = texts_end a (next s)
  texts_end (TWrite i j a b) s = both (texts_end a (next s)) (texts_end b (after a (next s)))
  texts_end (TFail i j t a) s = texts_end a (next s)

  pub either_text : (ss : Steps) (s : Spot) → Sized (steps_texts ss) s.text (after_either ss s).text
  either_text NoStep s = none
  either_text (AStep o e ss) s = both (texts_end e (next (next s))) (either_text ss (after e (next (next s))))

  pub both_text : (ss : Steps) (s : Spot) → Sized (steps_texts ss) s.text (after_both ss s).text
  both_text NoStep s = none
  both_text (AStep o e ss) s = both (texts_end e (next s)) (both_text ss (after e (next s)))

  pub steps_text : (ss : Steps) (s : Spot) → Sized (steps_texts ss) s.text (after_steps ss s).text
  steps_text NoStep s = none
  steps_text (AStep o e ss) s = both (texts_end e s) (steps_text ss (next (after e s)))

  pub items_text : (es : Trees) (s : Spot) → Sized (trees_texts es) s.text (after_items es s).text
  items_text Nil s = none
  items_text (Cons e es) s = both (texts_end e s) (items_text es (next (after e s)))

  pub args_text : (es : Trees) (s : Spot) → Sized (trees_texts es) s.text (after_args es s).text
  args_text Nil s = none
  args_text (Cons e es) s = both (texts_end e s) (args_text es (after e s))

  pub block_text : (b : BlockTree) (s : Spot) → Sized (block_texts b) s.text (after_block b s).text
  block_text (TBlock i j ls l) s = both (lines_text ls s) (last_text l (after_lines ls s))

  pub lines_text : (ls : LineTrees) (s : Spot) → Sized (lines_texts ls) s.text (after_lines ls s).text
  lines_text NoLine s = none
  lines_text (ValLine i j n e ls) s = both (texts_end e s) (lines_text ls (next (after e s)))
  lines_text (ExprLine e ls) s = both (texts_end e s) (lines_text ls (next (after e s)))

  pub last_text : (l : LastTree) (s : Spot) → Sized (last_texts l) s.text (after_last l s).text
  last_text NoLast s = none
  last_text (ALast e) s = texts_end e s

  pub else_text : (o : ElseTree) (s : Spot) → Sized (else_texts o) s.text (after_else o s).text
  else_text NoElse s = none
  else_text (AnElse b) s = block_text b s
