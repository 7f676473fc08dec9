-- Compiled code is right at each instruction, where the tree is formed.
use Rattle.std.proofs.Common.{◌≡◌, inl, inr, ℕ, zero, suc, ◌+◌, ◌-◌, ◌<◌, ◌≤◌, max, Bool, true, false, cond, ◌||◌, ◌==◌, List, [], ◌∷◌, ◌++◌, length, slice_get}
use Rattle.std.proofs.Common.{Option, Some, None, refl, sym, subst, ap, ◌∙◌, arith, append_assoc, ℤ, pos, negsuc}
use Rattle.std.proofs.lemmas.Option.{slice_get_within}
use Rattle.std.proofs.lemmas.Bool.{eq-eqb}
use lib.Pointwise.{pointwise}
use Rattle.pie_value.specs.declared.builtin.Builtin.TheVariants.{Path as PathOf}
use Rattle.pie_signature.specs.Signatures.{arity_of}
use Rattle.pie_operators.specs.declared.operator.Unary.TheVariants.{Not}
use Rattle.pie_code.specs.declared.instr.Constant.TheVariants as constants
use Rattle.pie_code.specs.declared.instr.Instr.{Instr}
use Rattle.pie_code.specs.declared.instr.Instr.TheVariants.{Tick, Push, PushText, Load, Store, Drop, Unary, Binary, Jump, JumpIfNot, Each, ListPush}
use Rattle.pie_code.specs.declared.instr.Instr.TheVariants.{TuplePush, Proj, Call, Observe, Write, Require, Fail, Return}
use Rattle.pie_code.specs.declared.code.Code.{Code}
use Rattle.pie_code.specs.Effects.{pops, pushes}
use Rattle.pie_code.specs.Ways.{target, goes_on, slots_of, texts_of, Leads, Fits, Reaches, after as height_after}
use Rattle.pie_code.specs.Checked.{AreBelow}
use Rattle.pie_types.specs.Checking.{count}
use Rattle.pie_parser.specs.declared.tree.Literal.{Literal}
use Rattle.pie_parser.specs.declared.tree.Literal.TheVariants as literals
use Rattle.pie_parser.specs.declared.tree.Index.{Index}
use Rattle.pie_parser.specs.declared.tree.CallKind.{CallKind}
use Rattle.pie_parser.specs.declared.tree.CallKind.TheVariants as calls
use Rattle.pie_parser.specs.declared.tree.EffectKind.{EffectKind}
use Rattle.pie_parser.specs.declared.tree.EffectKind.TheVariants as effects
use Rattle.pie_parser.specs.Plain.{Tree, TLiteral, TName, TNull, TEmpty, TChain, TCompare, TPrefix, TProject, TTuple, TList, TEach, TIf, TCall}
use Rattle.pie_parser.specs.Plain.{TEffect, TWrite, TFail, Trees, Nil, Cons, Steps, NoStep, AStep, BlockTree, TBlock, LineTrees, NoLine}
use Rattle.pie_parser.specs.Plain.{ValLine, ExprLine, LastTree, NoLast, ALast, ElseTree, NoElse, AnElse}
use Rattle.pie_semantics.specs.Words.{Logic, Either, Both, Neither, by_logic, logic_of, logic_by, infix_of, comparison_of, prefix_of, Callee, ABuiltin, ReadBytes}
use Rattle.pie_semantics.specs.Words.{NoCallee, callee_of, callee_arity}
use Rattle.pie_codegen.specs.declared.spot.Spot.{Spot}
use Rattle.pie_codegen.specs.Spots.{next, after, after_either, after_both, after_steps, after_items, after_args, after_block, after_lines, after_last}
use Rattle.pie_codegen.specs.Spots.{after_else, after_indices, after_call, after_literal, loop_at}
use Rattle.pie_codegen.specs.Rooms.{room_of, steps_room, trees_room, block_room, lines_room, last_room, else_room}
use Rattle.pie_codegen.specs.Texts.{texts_of as texts_in, steps_texts, trees_texts, block_texts, lines_texts, last_texts, else_texts, literal_texts, call_texts}
use Rattle.pie_codegen.specs.Compiled.{Scope, slot_of, code_of, either_code, both_code, steps_code, items_code, args_code, block_code, lines_code, last_code}
use Rattle.pie_codegen.specs.Compiled.{else_code, indices_code, index_code, literal_code, call_code, callee_code, effect_code, each_code}
use Rattle.pie_codegen.specs.Formed.{is_bound, Counts, AllCount, IsThere, CallFits, Formed, StepsFormed, TreesFormed, BlockFormed, LinesFormed, LastFormed}
use Rattle.pie_codegen.specs.Formed.{ElseFormed}
use Rattle.pie_codegen.proofs.Base.{HasAt, has_prefix}
use Rattle.pie_codegen.proofs.Places.{Sized, none, more, both, behind, ends_at, texts_end, either_end, either_text, both_end, both_text, steps_end, else_end}
use Rattle.pie_codegen.proofs.Places.{args_end, args_text, block_end, block_text, lines_text}
use Rattle.pie_codegen.proofs.Heights.{heights, index_heights, either_heights, both_heights, steps_heights, item_heights, arg_heights, block_heights}
use Rattle.pie_codegen.proofs.Heights.{line_heights, last_heights, else_heights, places, either_places, both_places, steps_places, arg_places, block_places}
use Rattle.pie_codegen.proofs.Heights.{front_height, first_height}
use Rattle.pie_codegen.proofs.Flow.{Right, AllRight, right_both, Goes, plain, fork, hop, turn, around}

-- each expression's code begins with a tick
first_tick : (xs : List Instr) (e : Tree) (s : Spot) (m : ℕ) (sc : Scope) (a : ℕ) (rest : List Instr) → HasAt xs a (code_of e s m sc ++ rest)
    → slice_get xs a ≡ Some Tick
first_tick xs (TLiteral i j l) s m sc a rest g = g.0
first_tick xs (TName i j n) s m sc a rest g = g.0
first_tick xs (TNull i j t) s m sc a rest g = g.0
first_tick xs (TEmpty i j t) s m sc a rest g = g.0
first_tick xs (TChain i j x ss) s m sc a rest g = g.0
first_tick xs (TCompare i j c x y) s m sc a rest g = g.0
first_tick xs (TPrefix i j p x) s m sc a rest g = g.0
first_tick xs (TProject i j x ns) s m sc a rest g = g.0
first_tick xs (TTuple i j es) s m sc a rest g = g.0
first_tick xs (TList i j es) s m sc a rest g = g.0
first_tick xs (TEach i j x n y) s m sc a rest g = g.0
first_tick xs (TIf i j x b o) s m sc a rest g = g.0
first_tick xs (TCall i j k n es) s m sc a rest g = g.0
first_tick xs (TEffect i j k x) s m sc a rest g = g.0
first_tick xs (TWrite i j x y) s m sc a rest g = g.0
first_tick xs (TFail i j t x) s m sc a rest g = g.0

module _ (code : Code) (all : List ℕ) where
  -- the names in scope have slots
  abbrev pub ScopeFits : List (List ℕ) → Scope → Type 0
  ScopeFits [] [] = Unit {0}
  ScopeFits (n ∷ ns) ((x, i) ∷ sc) = (n ≡ x) × (i < code.slots) × ScopeFits ns sc
  ScopeFits ns sc = ⊥

  slot_below : (n : List ℕ) (ns : List (List ℕ)) (sc : Scope) → is_bound n ns ≡ true → ScopeFits ns sc → slot_of n sc < code.slots
  slot_below n [] [] b f = absurd cc
  slot_below n [] (_ ∷ sc) b f = elim f [ ]
  slot_below n (x ∷ ns) [] b f = elim f [ ]
  slot_below n (x ∷ ns) ((y, i) ∷ sc) b f = by_test (pointwise ◌==◌ n y) (subst (λ z. (pointwise ◌==◌ n z || is_bound n ns) ≡ true) f.0 b)
      (λ c. slot_below n ns sc c f.2)
    where
      by_test : (t : Bool) → (t || is_bound n ns) ≡ true → (is_bound n ns ≡ true → slot_of n sc < code.slots) → cond t i (slot_of n sc) < code.slots
      by_test true c again = f.1
      by_test false c again = again c

  -- code, texts and heights stand here
  abbrev Here : List Instr → List (List ℕ) → List ℕ → Spot → Type 0
  Here is ts hs s = HasAt code.instrs.items s.at is × HasAt code.texts.items s.text ts × HasAt all s.at hs

  text_below : (t : List ℕ) (i : ℕ) → slice_get code.texts.items i ≡ Some t → i < length code.texts.items
  text_below t i h = slice_get_within code.texts.items i t h

  literal_right : (x : Literal) (s : Spot) (h : ℕ) → slice_get code.instrs.items (s.at + 1) ≡ Some (literal_code x s)
      → HasAt code.texts.items s.text (literal_texts x)
      → slice_get all (s.at + 1) ≡ Some h → slice_get all (after_literal x (next s)).at ≡ Some (h + 1) → Reaches code.instrs.items (s.at + 1) h
      → Goes code all (s.at + 1) (literal_code x s ∷ []) (after_literal x (next s)).at (h + 1)
  literal_right (literals.Int n) s h e g k o r = let p = plain code all (Push (constants.Int n)) (s.at + 1) h (h + 1) refl refl tt tt e k o (omega arith)
      (omega arith) r in record { right = (p.0, tt); out = p.1 }
  literal_right (literals.Bool b) s h e g k o r = let p = plain code all (Push (constants.Bool b)) (s.at + 1) h (h + 1) refl refl tt tt e k o (omega arith)
      (omega arith) r in record { right = (p.0, tt); out = p.1 }
  literal_right literals.Unit s h e g k o r = let p = plain code all (Push constants.Unit) (s.at + 1) h (h + 1) refl refl tt tt e k o (omega arith)
      (omega arith) r in record { right = (p.0, tt); out = p.1 }
  literal_right (literals.Text t) s h e g k o r =
      let p = plain code all (PushText s.text) (s.at + 1) h (h + 1) refl refl tt (text_below t s.text g.0, tt) e k o (omega arith) (omega arith) r in
      record { right = (p.0, tt); out = p.1 }

  index_right : (n : ℤ) (a h : ℕ) → Counts n → slice_get code.instrs.items a ≡ Some (index_code n) → slice_get all a ≡ Some (h + 1)
      → slice_get all (a + 1) ≡ Some (h + 1)
      → Reaches code.instrs.items a (h + 1) → Right code all a (index_code n) × Reaches code.instrs.items (a + 1) (h + 1)
  index_right (pos n) a h c e k o r = plain code all (Proj n) a (h + 1) (h + 1) refl refl tt tt e k o (omega arith) (omega arith) r
  index_right (negsuc n) a h c e k o r = elim c [ ]

  indices_right : (ns : List Index) (s : Spot) (h : ℕ) → AllCount ns → HasAt code.instrs.items s.at (indices_code ns) → HasAt all s.at (index_heights ns h)
      → slice_get all (after_indices ns s).at ≡ Some (h + 1) → Reaches code.instrs.items s.at (h + 1)
      → Goes code all s.at (indices_code ns) (after_indices ns s).at (h + 1)
  indices_right [] s h c g k o r = record { right = tt; out = r }
  indices_right (n ∷ []) s h c g k o r = let p = index_right n.number s.at h c.0 g.0 k.0 o r in record { right = (p.0, tt); out = p.1 }
  indices_right (n ∷ m ∷ ns) s h c g k o r =
      let p = index_right n.number s.at h c.0 g.0 k.0 k.1.0 r in
      let q = indices_right (m ∷ ns) (next s) h c.1 g.1 k.1 o p.1 in
      record { right = (p.0, q.right); out = q.out }

  callee_right : (c : Callee) (a h k : ℕ) → IsThere c → k ≡ callee_arity c → slice_get code.instrs.items a ≡ Some (callee_code c)
      → slice_get all a ≡ Some (h + k)
      → slice_get all (a + 1) ≡ Some (h + 1) → Reaches code.instrs.items a (h + k) → Right code all a (callee_code c)
      × Reaches code.instrs.items (a + 1) (h + 1)
  callee_right (ABuiltin which) a h k t z e g o r = plain code all (Call which) a (h + k) (h + 1) refl refl tt tt e g o (omega (arith, z)) (omega (arith, z)) r
  callee_right ReadBytes a h k t z e g o r = plain code all _ a (h + k) (h + 1) refl refl tt tt e g o (omega (arith, z)) (omega (arith, z)) r
  callee_right NoCallee a h k t z e g o r = elim t [ ]

  call_right : (c : CallKind) (n : List ℕ) (k : ℕ) (s : Spot) (h : ℕ) → CallFits c n k → slice_get code.instrs.items s.at ≡ Some (call_code c n k s)
      → HasAt code.texts.items s.text (call_texts c n) → slice_get all s.at ≡ Some (h + k) → slice_get all (after_call c s).at ≡ Some (h + 1)
      → Reaches code.instrs.items s.at (h + k) → Goes code all s.at (call_code c n k s ∷ []) (after_call c s).at (h + 1)
  call_right calls.Plain n k s h f e g z o r = plain_right (k == callee_arity (callee_of n)) (eq-eqb k (callee_arity (callee_of n)) f.1) e
    where
      plain_right : (b : Bool) → b ≡ true → slice_get code.instrs.items s.at ≡ Some (cond b (callee_code (callee_of n)) (Load 65535))
          → Goes code all s.at (cond b (callee_code (callee_of n)) (Load 65535) ∷ []) (s.at + 1) (h + 1)
      plain_right true t e = let p = callee_right (callee_of n) s.at h k f.0 f.1 e z o r in record { right = (p.0, tt); out = p.1 }
      plain_right false t e = absurd cc
  call_right calls.Require n k s h f e g z o r =
      let p = plain code all _ s.at (h + k) (h + 1) refl refl tt (text_below n s.text g.0, tt) e z o (omega arith) (omega arith) r in
      record { right = (p.0, tt); out = p.1 }
  call_right calls.RequireByHash n k s h f e g z o r =
      let p = plain code all _ s.at (h + k) (h + 1) refl refl tt (text_below n s.text g.0, tt) e z o (omega arith) (omega arith) r in
      record { right = (p.0, tt); out = p.1 }
  call_right calls.Run n k s h f e g z o r =
      let p = plain code all _ s.at (h + k) (h + 1) refl refl tt (text_below n s.text g.0, tt) e z o (omega arith) (omega arith) r in
      record { right = (p.0, tt); out = p.1 }

  path_arity : arity_of PathOf ≡ 1
  path_arity = refl

  effect_right : (c : EffectKind) (a h : ℕ) → slice_get code.instrs.items a ≡ Some (effect_code c) → slice_get all a ≡ Some (h + 1)
      → slice_get all (a + 1) ≡ Some (h + 1)
      → Reaches code.instrs.items a (h + 1) → Right code all a (effect_code c) × Reaches code.instrs.items (a + 1) (h + 1)
  effect_right effects.Path a h e k o r = plain code all _ a (h + 1) (h + 1) refl refl tt tt e k o (omega (arith, path_arity)) (omega (arith, path_arity)) r
  effect_right effects.Exists a h e k o r = plain code all _ a (h + 1) (h + 1) refl refl tt tt e k o (omega arith) (omega arith) r
  effect_right effects.Digest a h e k o r = plain code all _ a (h + 1) (h + 1) refl refl tt tt e k o (omega arith) (omega arith) r
  effect_right effects.List a h e k o r = plain code all _ a (h + 1) (h + 1) refl refl tt tt e k o (omega arith) (omega arith) r
  effect_right effects.Read a h e k o r = plain code all _ a (h + 1) (h + 1) refl refl tt tt e k o (omega arith) (omega arith) r
  effect_right effects.ReadByHash a h e k o r = plain code all _ a (h + 1) (h + 1) refl refl tt tt e k o (omega arith) (omega arith) r
  effect_right effects.ReadByMark a h e k o r = plain code all _ a (h + 1) (h + 1) refl refl tt tt e k o (omega arith) (omega arith) r

  -- at least one step
  abbrev HasStep : Steps → Type 0
  HasStep NoStep = ⊥
  HasStep (AStep o e ss) = Unit {0}

  -- a tick at the start
  ticks : (a h : ℕ) → slice_get code.instrs.items a ≡ Some Tick → slice_get all a ≡ Some h → slice_get all (a + 1) ≡ Some h → Reaches code.instrs.items a h
      → Right code all a Tick × Reaches code.instrs.items (a + 1) h
  ticks a h e k o r = plain code all Tick a h h refl refl tt tt e k o (omega arith) (omega arith) r

  -- one kind of chain goes on
  by_kind : (x : Logic) (a : ℕ) (is js ks : List Instr) (fs gs hs : List ℕ) (p q r : Spot) (n : ℕ) → HasAt code.instrs.items a (by_logic x is js ks)
      → HasAt all a (by_logic x fs gs hs) → slice_get all (by_logic x p q r).at ≡ Some n
      → (HasAt code.instrs.items a is → HasAt all a fs → slice_get all p.at ≡ Some n → Goes code all a is p.at n)
      → (HasAt code.instrs.items a js → HasAt all a gs → slice_get all q.at ≡ Some n → Goes code all a js q.at n)
      → (HasAt code.instrs.items a ks → HasAt all a hs → slice_get all r.at ≡ Some n → Goes code all a ks r.at n)
      → Goes code all a (by_logic x is js ks) (by_logic x p q r).at n
  by_kind Either a is js ks fs gs hs p q r n i z o f g h = f i z o
  by_kind Both a is js ks fs gs hs p q r n i z o f g h = g i z o
  by_kind Neither a is js ks fs gs hs p q r n i z o f g h = h i z o

  -- the height at the start of a chain of `||` behind its first operand
  either_start : (ss : Steps) (h a : ℕ) (rest : List ℕ) → HasAt all a (either_heights ss h ++ ((h + 1) ∷ rest)) → slice_get all a ≡ Some (h + 1)
  either_start NoStep h a rest g = g.0
  either_start (AStep o e ss) h a rest g = g.0

  both_start : (ss : Steps) (h a : ℕ) (rest : List ℕ) → HasAt all a (both_heights ss h ++ ((h + 1) ∷ rest)) → slice_get all a ≡ Some (h + 1)
  both_start NoStep h a rest g = g.0
  both_start (AStep o e ss) h a rest g = g.0

  -- where operands of arithmetic begin, the height is one more, whether there are any
  steps_start : (ss : Steps) (h : ℕ) (s : Spot) → HasAt all s.at (steps_heights ss h) → slice_get all (after_steps ss s).at ≡ Some (h + 1)
      → slice_get all s.at ≡ Some (h + 1)
  steps_start NoStep h s g o = o
  steps_start (AStep x e ss) h s g o = front_height all e (h + 1) s.at _ g

  items_start : (es : Trees) (h : ℕ) (s : Spot) → HasAt all s.at (item_heights es h) → slice_get all (after_items es s).at ≡ Some (h + 1)
      → slice_get all s.at ≡ Some (h + 1)
  items_start Nil h s g o = o
  items_start (Cons e es) h s g o = front_height all e (h + 1) s.at _ g

  args_start : (es : Trees) (h : ℕ) (s : Spot) (rest : List ℕ) → HasAt all s.at (arg_heights es h ++ ((h + count es) ∷ rest)) → slice_get all s.at ≡ Some h
  args_start Nil h s rest g = g.0 ∙ ap (λ n. Some n) (omega arith)
  args_start (Cons e es) h s rest g = first_height all e h s.at (has_prefix all s.at (heights e h) _ (has_prefix all s.at (arg_heights (Cons e es) h) _ g))

  args_end_height : (es : Trees) (h : ℕ) (s : Spot) → HasAt all s.at (arg_heights es h) → slice_get all (after_args es s).at ≡ Some (h + count es)
      → slice_get all s.at ≡ Some h
  args_end_height Nil h s g o = o ∙ ap (λ n. Some n) (omega arith)
  args_end_height (Cons e es) h s g o = front_height all e h s.at _ g

  index_start : (ks : List Index) (s : Spot) (h : ℕ) → HasAt all s.at (index_heights ks h) → slice_get all (after_indices ks s).at ≡ Some (h + 1)
      → slice_get all s.at ≡ Some (h + 1)
  index_start [] s h g o = o
  index_start (n ∷ ks) s h g o = g.0

  -- a failure, behind which nothing goes on
  last_fail : (a h : ℕ) → slice_get code.instrs.items a ≡ Some Fail → slice_get all a ≡ Some (h + 1) → Reaches code.instrs.items a (h + 1)
      → Right code all a Fail
  last_fail a h e k r = record {
    height = h + 1;
    here = k;
    reach = r;
    fits = (omega arith, λ z. absurd cc);
    leads = λ to z. nowhere to z;
    back = λ to z y. absurd cc;
    loop = λ x z. absurd cc;
    slots = tt;
    texts = tt;
  }
    where
      nowhere : (to : ℕ) → Leads a Fail to → slice_get all to ≡ Some (height_after Fail (h + 1))
      nowhere to (inl z) = let w = z.0 in absurd cc
      nowhere to (inr z) = absurd cc

  lines_start : (ls : LineTrees) (l : LastTree) (h a : ℕ) → HasAt all a (line_heights ls h (last_heights l h)) → slice_get all a ≡ Some h
  lines_start NoLine NoLast h a g = g.0
  lines_start NoLine (ALast e) h a g = first_height all e h a g
  lines_start (ValLine i j n e ls) l h a g = front_height all e h a _ g
  lines_start (ExprLine e ls) l h a g = front_height all e h a _ g

  pub block_start : (b : BlockTree) (h a : ℕ) (rest : List ℕ) → HasAt all a (block_heights b h ++ rest) → slice_get all a ≡ Some h
  block_start (TBlock i j ls l) h a rest g = lines_start ls l h a (has_prefix all a (line_heights ls h (last_heights l h)) rest g)

  else_start : (e : ElseTree) (h a : ℕ) → HasAt all a (else_heights e h) → slice_get all a ≡ Some h
  else_start NoElse h a g = g.0
  else_start (AnElse (TBlock i j ls l)) h a g = lines_start ls l h a g

  chain_start_by : (x : Logic) (h : ℕ) (s p q r : Spot) (fs gs hs : List ℕ) → HasAt all s.at (by_logic x fs gs hs)
      → (HasAt all s.at fs → slice_get all s.at ≡ Some (h + 1)) → (HasAt all s.at gs → slice_get all s.at ≡ Some (h + 1))
      → (HasAt all s.at hs → slice_get all s.at ≡ Some (h + 1))
      → slice_get all s.at ≡ Some (h + 1)
  chain_start_by Either h s p q r fs gs hs g f k l = f g
  chain_start_by Both h s p q r fs gs hs g f k l = k g
  chain_start_by Neither h s p q r fs gs hs g f k l = l g

  chain_start : (ss : Steps) (h : ℕ) (s : Spot) → HasAt all s.at
      (by_logic (logic_of ss) (either_heights ss h ++ ((h + 1) ∷ h ∷ [])) (both_heights ss h ++ ((h + 1) ∷ h ∷ [])) (steps_heights ss h))
      → slice_get all (by_logic (logic_of ss) (next (next (after_either ss s))) (next (next (after_both ss s))) (after_steps ss s)).at ≡ Some (h + 1)
      → slice_get all s.at ≡ Some (h + 1)
  chain_start NoStep h s g o = o
  chain_start (AStep x e ss) h s g o = chain_start_by (logic_by x) h s s s s _ _ _ g (either_start (AStep x e ss) h s.at (h ∷ []))
      (both_start (AStep x e ss) h s.at (h ∷ [])) (front_height all e (h + 1) s.at _)

  -- where the next operand of a chain begins, or its end
  either_next : (ss : Steps) (h : ℕ) (s : Spot) (to : ℕ) → (after_either ss s).at ≡ to → HasAt all s.at (either_heights ss h)
      → slice_get all to ≡ Some (h + 1) → slice_get all s.at ≡ Some (h + 1)
  either_next NoStep h s to q g o = ap (slice_get all) q ∙ o
  either_next (AStep x e ss) h s to q g o = g.0

  both_next : (ss : Steps) (h : ℕ) (s : Spot) (to : ℕ) → (after_both ss s).at ≡ to → HasAt all s.at (both_heights ss h) → slice_get all to ≡ Some (h + 1)
      → slice_get all s.at ≡ Some (h + 1)
  both_next NoStep h s to q g o = ap (slice_get all) q ∙ o
  both_next (AStep x e ss) h s to q g o = g.0

  same_height : (a : ℕ) (is : List Instr) (b n k : ℕ) → Goes code all a is b n → n ≡ k → Goes code all a is b k
  same_height a is b n k g e = record { right = g.right; out = subst (Reaches code.instrs.items b) e g.out }

  chain_right : (ss : Steps) (m : ℕ) (sc : Scope) (s : Spot) (h : ℕ)
      → HasAt code.instrs.items s.at (by_logic (logic_of ss)
      (either_code ss s (after_either ss s).at m sc ++ (Jump ((after_either ss s).at + 1 + 1) ∷ Push (constants.Bool true) ∷ []))
      (both_code ss s (after_both ss s).at m sc ++ (Jump ((after_both ss s).at + 1 + 1) ∷ Push (constants.Bool false) ∷ [])) (steps_code ss s m sc))
      → HasAt code.texts.items s.text (steps_texts ss)
      → HasAt all s.at (by_logic (logic_of ss) (either_heights ss h ++ ((h + 1) ∷ h ∷ [])) (both_heights ss h ++ ((h + 1) ∷ h ∷ [])) (steps_heights ss h))
      → slice_get all (by_logic (logic_of ss) (next (next (after_either ss s))) (next (next (after_both ss s))) (after_steps ss s)).at ≡ Some (h + 1)
      → Reaches code.instrs.items s.at (h + 1)
      → (Here (either_code ss s (after_either ss s).at m sc) (steps_texts ss) (either_heights ss h) s → slice_get all (after_either ss s).at ≡ Some (h + 1)
      → slice_get all ((after_either ss s).at + 1) ≡ Some h
      → Goes code all s.at (either_code ss s (after_either ss s).at m sc) (after_either ss s).at (h + 1)
      × (HasStep ss → Reaches code.instrs.items ((after_either ss s).at + 1) h))
      → (Here (both_code ss s (after_both ss s).at m sc) (steps_texts ss) (both_heights ss h) s → slice_get all (after_both ss s).at ≡ Some (h + 1)
      → slice_get all ((after_both ss s).at + 1) ≡ Some h
      → Goes code all s.at (both_code ss s (after_both ss s).at m sc) (after_both ss s).at (h + 1)
      × (HasStep ss → Reaches code.instrs.items ((after_both ss s).at + 1) h))
      → (Here (steps_code ss s m sc) (steps_texts ss) (steps_heights ss h) s → slice_get all (after_steps ss s).at ≡ Some (h + 1)
      → Goes code all s.at (steps_code ss s m sc) (after_steps ss s).at (h + 1))
      → Goes code all s.at (by_logic (logic_of ss)
      (either_code ss s (after_either ss s).at m sc ++ (Jump ((after_either ss s).at + 1 + 1) ∷ Push (constants.Bool true) ∷ []))
      (both_code ss s (after_both ss s).at m sc ++ (Jump ((after_both ss s).at + 1 + 1) ∷ Push (constants.Bool false) ∷ [])) (steps_code ss s m sc))
      (by_logic (logic_of ss) (next (next (after_either ss s))) (next (next (after_both ss s))) (after_steps ss s)).at (h + 1)
  chain_right NoStep m sc s h i x k o r ef bf sf = record { right = tt; out = r }
  chain_right (AStep y e ss) m sc s h i x k o r ef bf sf =
      by_kind (logic_by y) s.at _ _ _ _ _ _ (next (next (after_either (AStep y e ss) s))) (next (next (after_both (AStep y e ss) s)))
      (after_steps (AStep y e ss) s) (h + 1) i k o
      (λ i' k' o'.
      let to = (after_either (AStep y e ss) s).at in
      let i2 = behind _ _ i' (either_end (AStep y e ss) s to m sc) in
      let k2 = behind _ _ k' (either_places (AStep y e ss) h s) in
      let E = ef (has_prefix _ _ (either_code (AStep y e ss) s to m sc) _ i', x, has_prefix _ _ (either_heights (AStep y e ss) h) _ k') k2.0 k2.1.0 in
      let u = hop code all (to + 1 + 1) to (h + 1) i2.0 k2.0 o' (omega arith) E.0.out in
      let v = plain code all _ (to + 1) h (h + 1) refl refl tt tt i2.1.0 k2.1.0 o' (omega arith) (omega arith) (E.1 tt) in
      record { right = right_both code all _ _ _ _ E.0.right (either_end (AStep y e ss) s to m sc) (u.0, (v.0, tt)); out = u.1 })
      (λ i' k' o'.
      let to = (after_both (AStep y e ss) s).at in
      let i2 = behind _ _ i' (both_end (AStep y e ss) s to m sc) in
      let k2 = behind _ _ k' (both_places (AStep y e ss) h s) in
      let E = bf (has_prefix _ _ (both_code (AStep y e ss) s to m sc) _ i', x, has_prefix _ _ (both_heights (AStep y e ss) h) _ k') k2.0 k2.1.0 in
      let u = hop code all (to + 1 + 1) to (h + 1) i2.0 k2.0 o' (omega arith) E.0.out in
      let v = plain code all _ (to + 1) h (h + 1) refl refl tt tt i2.1.0 k2.1.0 o' (omega arith) (omega arith) (E.1 tt) in
      record { right = right_both code all _ _ _ _ E.0.right (both_end (AStep y e ss) s to m sc) (u.0, (v.0, tt)); out = u.1 })
      (λ i' k' o'. sf (i', x, k') o')

  mutual
    pub right_at : (e : Tree) (m : ℕ) (sc : Scope) (ns : List (List ℕ)) → ScopeFits ns sc → (s : Spot) (h : ℕ) → Formed ns e → m + room_of e ≤ code.slots
        → Here (code_of e s m sc) (texts_in e) (heights e h) s → slice_get all (after e s).at ≡ Some (h + 1) → Reaches code.instrs.items s.at h
        → Goes code all s.at (code_of e s m sc) (after e s).at (h + 1)
    right_at (TLiteral i j l) m sc ns f s h w z g o r =
        let t = ticks s.at h g.0.0 g.2.0 g.2.1.0 r in
        let p = literal_right l s h g.0.1.0 g.1 g.2.1.0 o t.1 in
        record { right = (t.0, p.right); out = p.out }
    right_at (TName i j n) m sc ns f s h w z g o r =
        let t = ticks s.at h g.0.0 g.2.0 g.2.1.0 r in
        let p = plain code all (Load (slot_of n sc)) (s.at + 1) h (h + 1) refl refl (slot_below n ns sc w f, tt) tt g.0.1.0 g.2.1.0 o (omega arith)
        (omega arith) t.1 in
        record { right = (t.0, (p.0, tt)); out = p.1 }
    right_at (TNull i j x) m sc ns f s h w z g o r =
        let t = ticks s.at h g.0.0 g.2.0 g.2.1.0 r in
        let p = plain code all _ (s.at + 1) h (h + 1) refl refl tt tt g.0.1.0 g.2.1.0 o (omega arith) (omega arith) t.1 in
        record { right = (t.0, (p.0, tt)); out = p.1 }
    right_at (TEmpty i j x) m sc ns f s h w z g o r =
        let t = ticks s.at h g.0.0 g.2.0 g.2.1.0 r in
        let p = plain code all _ (s.at + 1) h (h + 1) refl refl tt tt g.0.1.0 g.2.1.0 o (omega arith) (omega arith) t.1 in
        record { right = (t.0, (p.0, tt)); out = p.1 }
    right_at (TPrefix i j p a) m sc ns f s h w z g o r =
        let i2 = behind _ _ g.0.1 (ends_at a (next s) m sc) in
        let h2 = behind _ _ g.2.1 (places a h (next s)) in
        let t = ticks s.at h g.0.0 g.2.0 (front_height all a h (s.at + 1) _ g.2.1) r in
        let A = right_at a m sc ns f (next s) h w z (has_prefix _ _ (code_of a (next s) m sc) _ g.0.1, g.1, has_prefix _ _ (heights a h) _ g.2.1) h2.0 t.1 in
        let u = plain code all (Unary (prefix_of p)) (after a (next s)).at (h + 1) (h + 1) refl refl tt tt i2.0 h2.0 o (omega arith) (omega arith) A.out in
        record { right = (t.0, right_both code all _ _ _ _ A.right (ends_at a (next s) m sc) (u.0, tt)); out = u.1 }
    right_at (TEffect i j c a) m sc ns f s h w z g o r =
        let i2 = behind _ _ g.0.1 (ends_at a (next s) m sc) in
        let h2 = behind _ _ g.2.1 (places a h (next s)) in
        let t = ticks s.at h g.0.0 g.2.0 (front_height all a h (s.at + 1) _ g.2.1) r in
        let A = right_at a m sc ns f (next s) h w z (has_prefix _ _ (code_of a (next s) m sc) _ g.0.1, g.1, has_prefix _ _ (heights a h) _ g.2.1) h2.0 t.1 in
        let u = effect_right c (after a (next s)).at h i2.0 h2.0 o A.out in
        record { right = (t.0, right_both code all _ _ _ _ A.right (ends_at a (next s) m sc) (u.0, tt)); out = u.1 }
    right_at (TProject i j a ks) m sc ns f s h w z g o r =
        let i2 = behind _ _ g.0.1 (ends_at a (next s) m sc) in
        let h2 = behind _ _ g.2.1 (places a h (next s)) in
        let t = ticks s.at h g.0.0 g.2.0 (front_height all a h (s.at + 1) _ g.2.1) r in
        let A = right_at a m sc ns f (next s) h w.0 z (has_prefix _ _ (code_of a (next s) m sc) _ g.0.1, g.1, has_prefix _ _ (heights a h) _ g.2.1)
        (index_start ks (after a (next s)) h h2 o) t.1 in
        let u = indices_right ks (after a (next s)) h w.1 i2 h2 o A.out in
        record { right = (t.0, right_both code all _ _ _ _ A.right (ends_at a (next s) m sc) u.right); out = u.out }
    right_at (TFail i j x a) m sc ns f s h w z g o r =
        let i2 = behind _ _ g.0.1 (ends_at a (next s) m sc) in
        let h2 = behind _ _ g.2.1 (places a h (next s)) in
        let t = ticks s.at h g.0.0 g.2.0 (front_height all a h (s.at + 1) _ g.2.1) r in
        let A = right_at a m sc ns f (next s) h w z (has_prefix _ _ (code_of a (next s) m sc) _ g.0.1, g.1, has_prefix _ _ (heights a h) _ g.2.1) h2.0 t.1 in
        let u = plain code all (Push (constants.Bool true)) (after a (next s)).at (h + 1) (h + 1 + 1) refl refl tt tt i2.0 h2.0 h2.1.0 (omega arith)
        (omega arith) A.out in
        let v = fork code all _ ((after a (next s)).at + 1) (h + 1) i2.1.0 h2.1.0 h2.1.1.0 o (omega arith) u.1 in
        let x = last_fail ((after a (next s)).at + 1 + 1) h i2.1.1.0 h2.1.1.0 v.1 in
        record { right = (t.0, right_both code all _ _ _ _ A.right (ends_at a (next s) m sc) (u.0, (v.0, (x, tt)))); out = v.2 }
    right_at (TCompare i j c a b) m sc ns f s h w z g o r =
        let i2 = behind _ _ g.0.1 (ends_at a (next s) m sc) in
        let i3 = behind _ _ i2 (ends_at b (after a (next s)) m sc) in
        let h2 = behind _ _ g.2.1 (places a h (next s)) in
        let h3 = behind _ _ h2 (places b (h + 1) (after a (next s))) in
        let t = ticks s.at h g.0.0 g.2.0 (front_height all a h (s.at + 1) _ g.2.1) r in
        let A = right_at a m sc ns f (next s) h w.0 (omega (arith, z)) (
          has_prefix _ _ (code_of a (next s) m sc) _ g.0.1,
          has_prefix _ _ (texts_in a) _ g.1,
          has_prefix _ _ (heights a h) _ g.2.1,
        ) (front_height all b (h + 1) (after a (next s)).at _ h2) t.1 in
        let B = right_at b m sc ns f (after a (next s)) (h + 1) w.1 (omega (arith, z)) (
          has_prefix _ _ (code_of b (after a (next s)) m sc) _ i2,
          behind _ _ g.1 (texts_end a (next s)),
          has_prefix _ _ (heights b (h + 1)) _ h2,
        ) h3.0 A.out in
        let u = plain code all _ (after b (after a (next s))).at (h + 1 + 1) (h + 1) refl refl tt tt i3.0 h3.0 o (omega arith) (omega arith) B.out in
        record {
          right = (
            t.0,
            right_both code all _ _ _ _ A.right (ends_at a (next s) m sc)
                (right_both code all _ _ _ _ B.right (ends_at b (after a (next s)) m sc) (u.0, tt)),
          );
          out = u.1;
        }
    right_at (TWrite i j a b) m sc ns f s h w z g o r =
        let i2 = behind _ _ g.0.1 (ends_at a (next s) m sc) in
        let i3 = behind _ _ i2 (ends_at b (after a (next s)) m sc) in
        let h2 = behind _ _ g.2.1 (places a h (next s)) in
        let h3 = behind _ _ h2 (places b (h + 1) (after a (next s))) in
        let t = ticks s.at h g.0.0 g.2.0 (front_height all a h (s.at + 1) _ g.2.1) r in
        let A = right_at a m sc ns f (next s) h w.0 (omega (arith, z)) (
          has_prefix _ _ (code_of a (next s) m sc) _ g.0.1,
          has_prefix _ _ (texts_in a) _ g.1,
          has_prefix _ _ (heights a h) _ g.2.1,
        ) (front_height all b (h + 1) (after a (next s)).at _ h2) t.1 in
        let B = right_at b m sc ns f (after a (next s)) (h + 1) w.1 (omega (arith, z)) (
          has_prefix _ _ (code_of b (after a (next s)) m sc) _ i2,
          behind _ _ g.1 (texts_end a (next s)),
          has_prefix _ _ (heights b (h + 1)) _ h2,
        ) h3.0 A.out in
        let u = plain code all _ (after b (after a (next s))).at (h + 1 + 1) (h + 1) refl refl tt tt i3.0 h3.0 o (omega arith) (omega arith) B.out in
        record {
          right = (
            t.0,
            right_both code all _ _ _ _ A.right (ends_at a (next s) m sc)
                (right_both code all _ _ _ _ B.right (ends_at b (after a (next s)) m sc) (u.0, tt)),
          );
          out = u.1;
        }
    right_at (TTuple i j es) m sc ns f s h w z g o r =
        let t = ticks s.at h g.0.0 g.2.0 g.2.1.0 r in
        let p = plain code all _ (s.at + 1) h (h + 1) refl refl tt tt g.0.1.0 g.2.1.0 (items_start es h (next (next s)) g.2.1.1 o) (omega arith)
        (omega arith) t.1 in
        let E = items_right es TuplePush refl refl tt tt refl refl m sc ns f (next (next s)) h w z (g.0.1.1, g.1, g.2.1.1) o p.1 in
        record { right = (t.0, (p.0, E.right)); out = E.out }
    right_at (TList i j es) m sc ns f s h w z g o r =
        let t = ticks s.at h g.0.0 g.2.0 g.2.1.0 r in
        let p = plain code all _ (s.at + 1) h (h + 1) refl refl tt tt g.0.1.0 g.2.1.0 (items_start es h (next (next s)) g.2.1.1 o) (omega arith)
        (omega arith) t.1 in
        let E = items_right es ListPush refl refl tt tt refl refl m sc ns f (next (next s)) h w z (g.0.1.1, g.1, g.2.1.1) o p.1 in
        record { right = (t.0, (p.0, E.right)); out = E.out }
    right_at (TCall i j c n es) m sc ns f s h w z g o r =
        let i2 = behind _ _ g.0.1 (args_end es (next s) m sc) in
        let h2 = behind _ _ g.2.1 (arg_places es h (next s)) in
        let t = ticks s.at h g.0.0 g.2.0 (args_start es h (next s) [] g.2.1) r in
        let A = args_right es m sc ns f (next s) h w.0 z (
          has_prefix _ _ (args_code es (next s) m sc) _ g.0.1,
          has_prefix _ _ (trees_texts es) _ g.1,
          has_prefix _ _ (arg_heights es h) _ g.2.1,
        ) h2.0 t.1 in
        let u = call_right c n.text (count es) (after_args es (next s)) h w.1 i2.0 (behind _ _ g.1 (args_text es (next s))) h2.0 o A.out in
        record { right = (t.0, right_both code all _ _ _ _ A.right (args_end es (next s) m sc) u.right); out = u.out }
    right_at (TIf i j a b e) m sc ns f s h w z g o r =
        let t1 = after a (next s) in
        let t2 = next t1 in
        let t3 = after_block b t2 in
        let i2 = behind _ _ g.0.1 (ends_at a (next s) m sc) in
        let i3 = behind _ _ i2.1 (block_end b t2 m sc) in
        let h2 = behind _ _ g.2.1 (places a h (next s)) in
        let h3 = behind _ _ h2.1 (block_places b h t2) in
        let x2 = behind _ _ g.1 (texts_end a (next s)) in
        let t = ticks s.at h g.0.0 g.2.0 (front_height all a h (s.at + 1) _ g.2.1) r in
        let A = right_at a m sc ns f (next s) h w.0 (omega (arith, z)) (
          has_prefix _ _ (code_of a (next s) m sc) _ g.0.1,
          has_prefix _ _ (texts_in a) _ g.1,
          has_prefix _ _ (heights a h) _ g.2.1,
        ) h2.0 t.1 in
        let u = fork code all (t3.at + 1) t1.at h i2.0 h2.0 (block_start b h t2.at _ h2.1) (else_start e h (t3.at + 1) h3.1)
        (omega (arith, (block_end b t2 m sc).is)) A.out in
        let B = block_right b m sc ns f t2 h w.1 (omega (arith, z)) (
          has_prefix _ _ (block_code b t2 m sc) _ i2.1,
          has_prefix _ _ (block_texts b) _ x2,
          has_prefix _ _ (block_heights b h) _ h2.1,
        ) h3.0 u.1 in
        let v = hop code all (after_else e (next t3)).at t3.at (h + 1) i3.0 h3.0 o (omega (arith, (else_end e (next t3) m sc).is)) B.out in
        let C = else_right e m sc ns f (next t3) h w.2 (omega (arith, z)) (i3.1, behind _ _ x2 (block_text b t2), h3.1) o u.2 in
        record {
          right = (
            t.0,
            right_both code all _ _ _ _ A.right (ends_at a (next s) m sc)
                (u.0, right_both code all _ _ _ _ B.right (block_end b t2 m sc) (v.0, C.right)),
          );
          out = v.1;
        }
    right_at (TChain i j a ss) m sc ns f s h w z g o r =
        let t1 = after a (next s) in
        let x2 = behind _ _ g.1 (texts_end a (next s)) in
        let i2 = behind _ _ g.0.1 (ends_at a (next s) m sc) in
        let h2 = behind _ _ g.2.1 (places a h (next s)) in
        let t = ticks s.at h g.0.0 g.2.0 (front_height all a h (s.at + 1) _ g.2.1) r in
        let A = right_at a m sc ns f (next s) h w.0 (omega (arith, z)) (
          has_prefix _ _ (code_of a (next s) m sc) _ g.0.1,
          has_prefix _ _ (texts_in a) _ g.1,
          has_prefix _ _ (heights a h) _ g.2.1,
        ) (chain_start ss h t1 h2 o) t.1 in
        let B = chain_right ss m sc t1 h i2 x2 h2 o A.out
        (λ g' o' p'. either_right ss m sc ns f t1 (after_either ss t1).at h refl w.1 (omega (arith, z)) g' o' p' A.out)
        (λ g' o' p'. both_right ss m sc ns f t1 (after_both ss t1).at h refl w.1 (omega (arith, z)) g' o' p' A.out)
        (λ g' o'. steps_right ss m sc ns f t1 h w.1 (omega (arith, z)) g' o' A.out) in
        record { right = (t.0, right_both code all _ _ _ _ A.right (ends_at a (next s) m sc) B.right); out = B.out }
    right_at (TEach i j a x b) m sc ns f s h w z g o r =
        let t1 = after b (next s) in
        let l = loop_at t1 in
        let t2 = after a (next l) in
        let i2 = behind _ _ g.0.1 (ends_at b (next s) m sc) in
        let h2 = behind _ _ g.2.1 (places b h (next s)) in
        let i3 = i2.1.1.1.1.1 in
        let h3 = h2.1.1.1.1.1 in
        let i4 = behind _ _ i3 (ends_at a (next l) (m + 3) ((x.text, m + 2) ∷ sc)) in
        let h4 = behind _ _ h3 (places a (h + 1) (next l)) in
        let long = (ends_at a (next l) (m + 3) ((x.text, m + 2) ∷ sc)).is in
        let t = ticks s.at h g.0.0 g.2.0 (front_height all b h (s.at + 1) _ g.2.1) r in
        let B = right_at b m sc ns f (next s) h w.0 (omega (arith, z)) (
          has_prefix _ _ (code_of b (next s) m sc) _ g.0.1,
          has_prefix _ _ (texts_in b) _ g.1,
          has_prefix _ _ (heights b h) _ g.2.1,
        ) h2.0 t.1 in
        let p1 = plain code all (Store m) t1.at (h + 1) h refl refl (omega (arith, z), tt) tt i2.0 h2.0 h2.1.0 (omega arith) (omega arith) B.out in
        let p2 = plain code all _ (t1.at + 1) h (h + 1) refl refl tt tt i2.1.0 h2.1.0 h2.1.1.0 (omega arith) (omega arith) p1.1 in
        let p3 = plain code all (Store (m + 1)) (t1.at + 1 + 1) (h + 1) h refl refl (omega (arith, z), tt) tt i2.1.1.0 h2.1.1.0 h2.1.1.1.0 (omega arith)
        (omega arith) p2.1 in
        let p4 = plain code all _ (t1.at + 1 + 1 + 1) h (h + 1) refl refl tt tt i2.1.1.1.0 h2.1.1.1.0 h2.1.1.1.1.0 (omega arith) (omega arith) p3.1 in
        let q = around code all (record { list = m; at = m + 1; item = m + 2; end = t2.at + 1 + 1 }) l.at (h + 1) i2.1.1.1.1.0 h2.1.1.1.1.0
        (front_height all a (h + 1) (l.at + 1) _ h3) o (omega (arith, long))
        (first_tick code.instrs.items a (next l) (m + 3) ((x.text, m + 2) ∷ sc) (l.at + 1) _ i3)
        (omega (arith, z), (omega (arith, z), (omega (arith, z), tt))) p4.1 in
        let A = right_at a (m + 3) ((x.text, m + 2) ∷ sc) (x.text ∷ ns) (refl, omega (arith, z), f) (next l) (h + 1) w.1 (omega (arith, z)) (
          has_prefix _ _ (code_of a (next l) (m + 3) ((x.text, m + 2) ∷ sc)) _ i3,
          behind _ _ g.1 (texts_end b (next s)),
          has_prefix _ _ (heights a (h + 1)) _ h3,
        ) h4.0 q.1 in
        let y = plain code all ListPush t2.at (h + 1 + 1) (h + 1) refl refl tt tt i4.0 h4.0 h4.1.0 (omega arith) (omega arith) A.out in
        let v = turn code all l.at (t2.at + 1) (h + 1)
        (record { list = m; at = m + 1; item = m + 2; end = t2.at + 1 + 1 }) i4.1.0 h4.1.0 h2.1.1.1.1.0 i2.1.1.1.1.0 (omega arith) y.1 in
        record {
          right = (
            t.0,
            right_both code all _ _ _ _ B.right (ends_at b (next s) m sc) (
              p1.0,
              (
                p2.0,
                (
                  p3.0,
                  (
                    p4.0,
                    (
                      q.0,
                      right_both code all _ _ _ _ A.right (ends_at a (next l) (m + 3) ((x.text, m + 2) ∷ sc)) (y.0, (v, tt)),
                    ),
                  ),
                ),
              ),
            ),
          );
          out = q.2;
        }

    either_right : (ss : Steps) (m : ℕ) (sc : Scope) (ns : List (List ℕ)) → ScopeFits ns sc → (s : Spot) (to h : ℕ) → (after_either ss s).at ≡ to
        → StepsFormed ns ss
        → m + steps_room ss ≤ code.slots → Here (either_code ss s to m sc) (steps_texts ss) (either_heights ss h) s → slice_get all to ≡ Some (h + 1)
        → slice_get all (to + 1) ≡ Some h → Reaches code.instrs.items s.at (h + 1)
        → Goes code all s.at (either_code ss s to m sc) to (h + 1) × (HasStep ss → Reaches code.instrs.items (to + 1) h)
    either_right NoStep m sc ns f s to h q w z g o p r = (record { right = tt; out = subst (λ n. Reaches code.instrs.items n (h + 1)) q r }, λ x. elim x [ ])
    either_right (AStep y e ss) m sc ns f s to h q w z g o p r =
        let t1 = next (next s) in
        let t2 = after e t1 in
        let i2 = behind _ _ g.0.1.1 (ends_at e t1 m sc) in
        let k2 = behind _ _ g.2.1.1 (places e h t1) in
        let far = (either_end (AStep y e ss) s to m sc).is in
        let u = plain code all (Unary Not) s.at (h + 1) (h + 1) refl refl tt tt g.0.0 g.2.0 g.2.1.0 (omega arith) (omega arith) r in
        let v = fork code all (to + 1) (s.at + 1) h g.0.1.0 g.2.1.0 (front_height all e h (s.at + 1 + 1) _ g.2.1.1) p (omega (arith, far, q)) u.1 in
        let A = right_at e m sc ns f t1 h w.0 (omega (arith, z))
        (has_prefix _ _ (code_of e t1 m sc) _ g.0.1.1, has_prefix _ _ (texts_in e) _ g.1, has_prefix _ _ (heights e h) _ g.2.1.1)
        (either_next ss h t2 to q k2 o) v.1 in
        let B = either_right ss m sc ns f t2 to h q w.1 (omega (arith, z)) (i2, behind _ _ g.1 (texts_end e t1), k2) o p A.out in
        (record { right = (u.0, (v.0, right_both code all _ _ _ _ A.right (ends_at e t1 m sc) B.0.right)); out = B.0.out }, λ x. v.2)

    both_right : (ss : Steps) (m : ℕ) (sc : Scope) (ns : List (List ℕ)) → ScopeFits ns sc → (s : Spot) (to h : ℕ) → (after_both ss s).at ≡ to
        → StepsFormed ns ss
        → m + steps_room ss ≤ code.slots → Here (both_code ss s to m sc) (steps_texts ss) (both_heights ss h) s → slice_get all to ≡ Some (h + 1)
        → slice_get all (to + 1) ≡ Some h → Reaches code.instrs.items s.at (h + 1)
        → Goes code all s.at (both_code ss s to m sc) to (h + 1) × (HasStep ss → Reaches code.instrs.items (to + 1) h)
    both_right NoStep m sc ns f s to h q w z g o p r = (record { right = tt; out = subst (λ n. Reaches code.instrs.items n (h + 1)) q r }, λ x. elim x [ ])
    both_right (AStep y e ss) m sc ns f s to h q w z g o p r =
        let t1 = next s in
        let t2 = after e t1 in
        let i2 = behind _ _ g.0.1 (ends_at e t1 m sc) in
        let k2 = behind _ _ g.2.1 (places e h t1) in
        let far = (both_end (AStep y e ss) s to m sc).is in
        let v = fork code all (to + 1) s.at h g.0.0 g.2.0 (front_height all e h (s.at + 1) _ g.2.1) p (omega (arith, far, q)) r in
        let A = right_at e m sc ns f t1 h w.0 (omega (arith, z))
        (has_prefix _ _ (code_of e t1 m sc) _ g.0.1, has_prefix _ _ (texts_in e) _ g.1, has_prefix _ _ (heights e h) _ g.2.1)
        (both_next ss h t2 to q k2 o) v.1 in
        let B = both_right ss m sc ns f t2 to h q w.1 (omega (arith, z)) (i2, behind _ _ g.1 (texts_end e t1), k2) o p A.out in
        (record { right = (v.0, right_both code all _ _ _ _ A.right (ends_at e t1 m sc) B.0.right); out = B.0.out }, λ x. v.2)

    steps_right : (ss : Steps) (m : ℕ) (sc : Scope) (ns : List (List ℕ)) → ScopeFits ns sc → (s : Spot) (h : ℕ) → StepsFormed ns ss
        → m + steps_room ss ≤ code.slots
        → Here (steps_code ss s m sc) (steps_texts ss) (steps_heights ss h) s → slice_get all (after_steps ss s).at ≡ Some (h + 1)
        → Reaches code.instrs.items s.at (h + 1)
        → Goes code all s.at (steps_code ss s m sc) (after_steps ss s).at (h + 1)
    steps_right NoStep m sc ns f s h w z g o r = record { right = tt; out = r }
    steps_right (AStep y e ss) m sc ns f s h w z g o r =
        let t1 = after e s in
        let i2 = behind _ _ g.0 (ends_at e s m sc) in
        let k2 = behind _ _ g.2 (places e (h + 1) s) in
        let A = right_at e m sc ns f s (h + 1) w.0 (omega (arith, z))
        (has_prefix _ _ (code_of e s m sc) _ g.0, has_prefix _ _ (texts_in e) _ g.1, has_prefix _ _ (heights e (h + 1)) _ g.2) k2.0 r in
        let u = plain code all _ t1.at (h + 1 + 1) (h + 1) refl refl tt tt i2.0 k2.0 (steps_start ss h (next t1) k2.1 o) (omega arith) (omega arith) A.out in
        let B = steps_right ss m sc ns f (next t1) h w.1 (omega (arith, z)) (i2.1, behind _ _ g.1 (texts_end e s), k2.1) o u.1 in
        record { right = right_both code all _ _ _ _ A.right (ends_at e s m sc) (u.0, B.right); out = B.out }

    items_right : (es : Trees) (grow : Instr) → goes_on grow ≡ true → target grow ≡ None → AreBelow code.slots (slots_of grow)
        → AreBelow (length code.texts.items) (texts_of grow)
        → pops grow ≡ 2 → pushes grow ≡ 1 → (m : ℕ) (sc : Scope) (ns : List (List ℕ)) → ScopeFits ns sc → (s : Spot) (h : ℕ) → TreesFormed ns es
        → m + trees_room es ≤ code.slots
        → Here (items_code grow es s m sc) (trees_texts es) (item_heights es h) s → slice_get all (after_items es s).at ≡ Some (h + 1)
        → Reaches code.instrs.items s.at (h + 1)
        → Goes code all s.at (items_code grow es s m sc) (after_items es s).at (h + 1)
    items_right Nil grow a b c d x y m sc ns f s h w z g o r = record { right = tt; out = r }
    items_right (Cons e es) grow a b c d x y m sc ns f s h w z g o r =
        let t1 = after e s in
        let i2 = behind _ _ g.0 (ends_at e s m sc) in
        let k2 = behind _ _ g.2 (places e (h + 1) s) in
        let A = right_at e m sc ns f s (h + 1) w.0 (omega (arith, z))
        (has_prefix _ _ (code_of e s m sc) _ g.0, has_prefix _ _ (texts_in e) _ g.1, has_prefix _ _ (heights e (h + 1)) _ g.2) k2.0 r in
        let u = plain code all grow t1.at (h + 1 + 1) (h + 1) a b c d i2.0 k2.0 (items_start es h (next t1) k2.1 o) (omega (arith, x, y))
        (omega (arith, x)) A.out in
        let B = items_right es grow a b c d x y m sc ns f (next t1) h w.1 (omega (arith, z)) (i2.1, behind _ _ g.1 (texts_end e s), k2.1) o u.1 in
        record { right = right_both code all _ _ _ _ A.right (ends_at e s m sc) (u.0, B.right); out = B.out }

    args_right : (es : Trees) (m : ℕ) (sc : Scope) (ns : List (List ℕ)) → ScopeFits ns sc → (s : Spot) (h : ℕ) → TreesFormed ns es
        → m + trees_room es ≤ code.slots
        → Here (args_code es s m sc) (trees_texts es) (arg_heights es h) s → slice_get all (after_args es s).at ≡ Some (h + count es)
        → Reaches code.instrs.items s.at h
        → Goes code all s.at (args_code es s m sc) (after_args es s).at (h + count es)
    args_right Nil m sc ns f s h w z g o r = record { right = tt; out = subst (Reaches code.instrs.items s.at) (omega arith) r }
    args_right (Cons e es) m sc ns f s h w z g o r =
        let t1 = after e s in
        let k2 = behind _ _ g.2 (places e h s) in
        let o2 : slice_get all (after_args es t1).at ≡ Some (h + 1 + count es) = o ∙ ap (λ n. Some n) (omega arith) in
        let A = right_at e m sc ns f s h w.0 (omega (arith, z))
        (has_prefix _ _ (code_of e s m sc) _ g.0, has_prefix _ _ (texts_in e) _ g.1, has_prefix _ _ (heights e h) _ g.2)
        (args_end_height es (h + 1) t1 k2 o2) r in
        let B = args_right es m sc ns f t1 (h + 1) w.1 (omega (arith, z)) (behind _ _ g.0 (ends_at e s m sc), behind _ _ g.1 (texts_end e s), k2) o2 A.out in
        same_height _ _ _ (h + 1 + count es) (h + count (Cons e es))
        (record { right = right_both code all _ _ _ _ A.right (ends_at e s m sc) B.right; out = B.out }) (omega arith)

    pub block_right : (b : BlockTree) (m : ℕ) (sc : Scope) (ns : List (List ℕ)) → ScopeFits ns sc → (s : Spot) (h : ℕ) → BlockFormed ns b
        → m + block_room b ≤ code.slots
        → Here (block_code b s m sc) (block_texts b) (block_heights b h) s → slice_get all (after_block b s).at ≡ Some (h + 1)
        → Reaches code.instrs.items s.at h
        → Goes code all s.at (block_code b s m sc) (after_block b s).at (h + 1)
    block_right (TBlock i j ls l) m sc ns f s h w z g o r = lines_right ls l (last_right l) m sc ns f s h w z g o r

    lines_right : (ls : LineTrees) (l : LastTree)
        → ((m : ℕ) (sc : Scope) (ns : List (List ℕ)) → ScopeFits ns sc → (s : Spot) (h : ℕ) → LastFormed ns l → m + last_room l ≤ code.slots
        → Here (last_code l s m sc) (last_texts l) (last_heights l h) s → slice_get all (after_last l s).at ≡ Some (h + 1) → Reaches code.instrs.items s.at h
        → Goes code all s.at (last_code l s m sc) (after_last l s).at (h + 1))
        → (m : ℕ) (sc : Scope) (ns : List (List ℕ)) → ScopeFits ns sc → (s : Spot) (h : ℕ) → LinesFormed ns ls (λ inner. LastFormed inner l)
        → m + lines_room ls (last_room l) ≤ code.slots
        → Here (lines_code ls s m sc (last_code l)) (lines_texts ls ++ last_texts l) (line_heights ls h (last_heights l h)) s
        → slice_get all (after_last l (after_lines ls s)).at ≡ Some (h + 1) → Reaches code.instrs.items s.at h
        → Goes code all s.at (lines_code ls s m sc (last_code l)) (after_last l (after_lines ls s)).at (h + 1)
    lines_right NoLine l c m sc ns f s h w z g o r = c m sc ns f s h w z g o r
    lines_right (ExprLine e ls) l c m sc ns f s h w z g o r =
        let t1 = after e s in
        let x = subst (HasAt code.texts.items s.text) (append_assoc (texts_in e) (lines_texts ls) (last_texts l)) g.1 in
        let i2 = behind _ _ g.0 (ends_at e s m sc) in
        let k2 = behind _ _ g.2 (places e h s) in
        let A = right_at e m sc ns f s h w.0 (omega (arith, z))
        (has_prefix _ _ (code_of e s m sc) _ g.0, has_prefix _ _ (texts_in e) _ x, has_prefix _ _ (heights e h) _ g.2) k2.0 r in
        let u = plain code all Drop t1.at (h + 1) h refl refl tt tt i2.0 k2.0 (lines_start ls l h (t1.at + 1) k2.1) (omega arith) (omega arith) A.out in
        let B = lines_right ls l c m sc ns f (next t1) h w.1 (omega (arith, z)) (i2.1, behind _ _ x (texts_end e s), k2.1) o u.1 in
        record { right = right_both code all _ _ _ _ A.right (ends_at e s m sc) (u.0, B.right); out = B.out }
    lines_right (ValLine i j n e ls) l c m sc ns f s h w z g o r =
        let t1 = after e s in
        let x = subst (HasAt code.texts.items s.text) (append_assoc (texts_in e) (lines_texts ls) (last_texts l)) g.1 in
        let i2 = behind _ _ g.0 (ends_at e s m sc) in
        let k2 = behind _ _ g.2 (places e h s) in
        let A = right_at e m sc ns f s h w.0 (omega (arith, z))
        (has_prefix _ _ (code_of e s m sc) _ g.0, has_prefix _ _ (texts_in e) _ x, has_prefix _ _ (heights e h) _ g.2) k2.0 r in
        let u = plain code all (Store m) t1.at (h + 1) h refl refl (omega (arith, z), tt) tt i2.0 k2.0 (lines_start ls l h (t1.at + 1) k2.1) (omega arith)
        (omega arith) A.out in
        let B = lines_right ls l c (m + 1) ((n.text, m) ∷ sc) (n.text ∷ ns) (refl, omega (arith, z), f) (next t1) h w.1 (omega (arith, z))
        (i2.1, behind _ _ x (texts_end e s), k2.1) o u.1 in
        record { right = right_both code all _ _ _ _ A.right (ends_at e s m sc) (u.0, B.right); out = B.out }

    last_right : (l : LastTree) (m : ℕ) (sc : Scope) (ns : List (List ℕ)) → ScopeFits ns sc → (s : Spot) (h : ℕ) → LastFormed ns l
        → m + last_room l ≤ code.slots
        → Here (last_code l s m sc) (last_texts l) (last_heights l h) s → slice_get all (after_last l s).at ≡ Some (h + 1) → Reaches code.instrs.items s.at h
        → Goes code all s.at (last_code l s m sc) (after_last l s).at (h + 1)
    last_right NoLast m sc ns f s h w z g o r =
        let p = plain code all _ s.at h (h + 1) refl refl tt tt g.0.0 g.2.0 o (omega arith) (omega arith) r in record { right = (p.0, tt); out = p.1 }
    last_right (ALast e) m sc ns f s h w z g o r = right_at e m sc ns f s h w z g o r

    else_right : (e : ElseTree) (m : ℕ) (sc : Scope) (ns : List (List ℕ)) → ScopeFits ns sc → (s : Spot) (h : ℕ) → ElseFormed ns e
        → m + else_room e ≤ code.slots
        → Here (else_code e s m sc) (else_texts e) (else_heights e h) s → slice_get all (after_else e s).at ≡ Some (h + 1) → Reaches code.instrs.items s.at h
        → Goes code all s.at (else_code e s m sc) (after_else e s).at (h + 1)
    else_right NoElse m sc ns f s h w z g o r =
        let p = plain code all _ s.at h (h + 1) refl refl tt tt g.0.0 g.2.0 o (omega arith) (omega arith) r in record { right = (p.0, tt); out = p.1 }
    else_right (AnElse b) m sc ns f s h w z g o r = block_right b m sc ns f s h w z g o r
