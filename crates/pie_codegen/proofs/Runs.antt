-- Compiled code means what the tree means: if what comes behind a form's code evaluates to the event with the form's value, so does its code.
use Rattle.std.proofs.Common.{◌≡◌, ℕ, zero, suc, ◌+◌, ◌-◌, ◌<◌, ◌≤◌, max, Bool, true, false, cond, List, [], ◌∷◌, ◌++◌, length, reverse, slice_get, Option}
use Rattle.std.proofs.Common.{Some, None, Ok, Err, refl, sym, subst, ap, ◌∙◌, arith, append_assoc, ℤ, pos, negsuc}
use Rattle.std.proofs.lemmas.List.{length-append}
use Rattle.pie_value.specs.Tree.{TUnit, TBool, TInt, TList, TTuple, TNull, Nil as NoVal, Cons as ConsVal}
use Rattle.pie_value.specs.Tree.{Tree as Val}
use Rattle.pie_value.specs.BuiltinForms.{Answered}
use Rattle.pie_operators.specs.declared.operator.Unary.TheVariants.{Not}
use Rattle.pie_operators.specs.Operators.{unary_answer, binary_answer, list_with, tuple_with}
use Rattle.pie_operators.specs.Domain.{Outcome, done, fails, wants, State, Act, give, fault, pass, then_do, ticked, by_answer}
use Rattle.pie_operators.specs.Effects.{write, fail}
use Rattle.pie_code.specs.declared.instr.Constant.TheVariants as constants
use Rattle.pie_code.specs.declared.instr.Instr.{Instr}
use Rattle.pie_code.specs.declared.instr.Instr.TheVariants.{Tick, Push, Load, Store, Drop, Unary, Binary, Jump, JumpIfNot, ListPush, TuplePush, Write, Fail}
use Rattle.pie_code.specs.declared.code.Code.{Code}
use Rattle.pie_code.specs.Running.{act, settle}
use Rattle.pie_types.specs.Checking.{count}
use Rattle.pie_parser.specs.Plain.{Tree, TLiteral, TName, TNull as NullOf, TEmpty, TChain, TCompare, TPrefix, TProject, TTuple as TupleOf, TList as ListOf}
use Rattle.pie_parser.specs.Plain.{TEach, TIf, TCall, TEffect, TWrite, TFail, Trees, Nil, Cons, Steps, NoStep, AStep, BlockTree, TBlock}
use Rattle.pie_parser.specs.Plain.{LineTrees, NoLine, ValLine, ExprLine, LastTree, NoLast, ALast, ElseTree, NoElse, AnElse}
use Rattle.pie_semantics.specs.Words.{Env, look_up, found, literal_value, branch, Logic, Either, Both, Neither, by_logic, logic_of, infix_of}
use Rattle.pie_semantics.specs.Words.{comparison_of, prefix_of, projected, over, called, effect_of}
use Rattle.pie_semantics.specs.Meaning.{turns, value_of, either_value, both_value, steps_value, items_onto, values_of, block_value, lines_value, last_value}
use Rattle.pie_semantics.specs.Meaning.{else_value}
use Rattle.pie_codegen.specs.declared.spot.Spot.{Spot}
use Rattle.pie_codegen.specs.Spots.{next, after, after_either, after_both, after_steps, after_items, after_args, after_block, after_lines, after_last}
use Rattle.pie_codegen.specs.Spots.{after_else, loop_at}
use Rattle.pie_codegen.specs.Rooms.{room_of, steps_room, trees_room, block_room, lines_room, last_room, else_room}
use Rattle.pie_codegen.specs.Texts.{texts_of, steps_texts, trees_texts, block_texts, lines_texts, last_texts, else_texts, call_texts}
use Rattle.pie_codegen.specs.Compiled.{Scope, code_of, either_code, both_code, steps_code, items_code, args_code, block_code, lines_code, last_code, else_code}
use Rattle.pie_codegen.specs.Compiled.{indices_code, call_code, effect_code, each_code}
use Rattle.pie_codegen.proofs.Base.{HasAt, has_prefix, at, Agree, agree_front, Fits, Comes, Then, Leads, one, into, seq, mono, tick_run, name_run}
use Rattle.pie_codegen.proofs.Places.{Sized, behind, ends_at, texts_end, either_end, either_text, both_end, both_text, steps_end, args_end, args_text}
use Rattle.pie_codegen.proofs.Places.{block_end, block_text, lines_text}
use Rattle.pie_codegen.proofs.Steps.{at_low, store_run, branch_run, not_run}
use Rattle.pie_codegen.proofs.Forms.{Lands, landed, literal_run, indices_run, call_run, effect_run}
use Rattle.pie_codegen.proofs.Loops.{slots, over_run}

-- the slots are no more than there may be
few : (m : ℕ) (sc : Scope) (low : List Val) (env : Env) (room : ℕ) → Fits m sc low env room → (junk : List Val) → length junk ≡ room
    → length (low ++ junk) ≤ 65535
few m sc low env room f junk e = omega (arith, f.size, f.small, e, length-append low junk)

module _ (code : Code) (ev : Outcome Val × State) where
  -- the code of an expression stands here, and its texts
  abbrev Here : List Instr → List (List ℕ) → Spot → Type 0
  Here is ts s = HasAt code.instrs.items s.at is × HasAt code.texts.items s.text ts

  -- one name more
  grown : (m : ℕ) (sc : Scope) (low : List Val) (env : Env) (room : ℕ) (n : List ℕ) (v : Val) → Fits m sc low env room → 1 ≤ room
      → Fits (m + 1) ((n, m) ∷ sc) (low ++ v ∷ []) ((n, v) ∷ env) (room - 1)
  grown m sc low env room n v f h = record {
    size = omega (arith, f.size, length-append low (v ∷ []));
    agree = (refl, ap (slice_get (low ++ v ∷ [])) (sym f.size ∙ omega arith) ∙ at_low low (v ∷ []) 0, agree_front sc env low (v ∷ []) f.agree);
    small = omega (arith, f.small, h);
  }

  -- a value goes into the first slot above the names
  stored : (m : ℕ) (low js : List Val) (room : ℕ) (v : Val) (a : ℕ) (k : List Val) (w : State) → length low ≡ m → length js ≡ room → 1 ≤ room
      → slice_get code.instrs.items a ≡ Some (Store m) → ((is : List Val) → length is ≡ room - 1 → Comes code ev (a + 1) k ((low ++ v ∷ []) ++ is) w)
      → Comes code ev a (v ∷ k) (low ++ js) w
  stored m low [] room v a k w z d r e h = absurd (omega arith)
  stored m low (x ∷ js) room v a k w z d r e h = store_run code ev m low js x v a k w z e (h js (omega (arith, d)))

  -- three slots above the names
  three : (js : List Val) → 3 ≤ length js → (P : List Val → Type 0)
      → ((x0 x1 x2 : Val) (is : List Val) → length is + 3 ≡ length js → P (x0 ∷ x1 ∷ x2 ∷ is)) → P js
  three [] h P p = absurd (omega arith)
  three (x ∷ []) h P p = absurd (omega arith)
  three (x ∷ y ∷ []) h P p = absurd (omega arith)
  three (x ∷ y ∷ z ∷ is) h P p = p x y z is (omega arith)

  two_more : (low : List Val) (a b : Val) (js : List Val) → ((low ++ a ∷ []) ++ b ∷ []) ++ js ≡ low ++ a ∷ b ∷ js
  two_more low a b js = append_assoc (low ++ a ∷ []) (b ∷ []) js ∙ append_assoc low (a ∷ []) (b ∷ js)

  -- inside a loop its three slots stand above the names, and the item has one
  in_loop : (m : ℕ) (sc : Scope) (low : List Val) (env : Env) (room : ℕ) (n : List ℕ) (a b w : Val) → Fits m sc low env room → 3 ≤ room
      → Fits (m + 3) ((n, m + 2) ∷ sc) (low ++ a ∷ b ∷ w ∷ []) ((n, w) ∷ env) (room - 3)
  in_loop m sc low env room n a b w f h = record {
    size = omega (arith, f.size, length-append low (a ∷ b ∷ w ∷ []));
    agree = (
      refl,
      ap (λ i. slice_get (low ++ a ∷ b ∷ w ∷ []) (i + 2)) (sym f.size) ∙ at_low low (a ∷ b ∷ w ∷ []) 2,
      agree_front sc env low (a ∷ b ∷ w ∷ []) f.agree,
    );
    small = omega (arith, f.small, h);
  }

  assoc_here : (xs : List (List ℕ)) (a : ℕ) (is js ks : List (List ℕ)) → HasAt xs a ((is ++ js) ++ ks) → HasAt xs a (is ++ (js ++ ks))
  assoc_here xs a is js ks h = subst (HasAt xs a) (append_assoc is js ks) h

  -- what goes on, by the kind of a chain
  chain_case : (x : Logic) (a : ℕ) (is js ks : List Instr) (k low : List Val) (room : ℕ) (p q r : Spot) (f g h : Val → Act Val) (v : Val) (w : State)
      (X : Type 0)
      → HasAt code.instrs.items a (by_logic x is js ks) → Then code ev (Lands code ev (by_logic x p q r).at k low room) (by_logic x f g h v w)
      → (HasAt code.instrs.items a is → Then code ev (Lands code ev p.at k low room) (f v w) → X)
      → (HasAt code.instrs.items a js → Then code ev (Lands code ev q.at k low room) (g v w) → X)
      → (HasAt code.instrs.items a ks → Then code ev (Lands code ev r.at k low room) (h v w) → X) → X
  chain_case Either a is js ks k low room p q r f g h v w X i t e b n = e i t
  chain_case Both a is js ks k low room p q r f g h v w X i t e b n = b i t
  chain_case Neither a is js ks k low room p q r f g h v w X i t e b n = n i t

  mutual
    pub runs : (e : Tree) (m : ℕ) (sc : Scope) (low : List Val) (env : Env) (room : ℕ) → Fits m sc low env room → (s : Spot) (k junk : List Val) (t : State)
        → room_of e ≤ room → length junk ≡ room → Here (code_of e s m sc) (texts_of e) s
        → Then code ev (Lands code ev (after e s).at k low room) (value_of e env t) → Comes code ev s.at k (low ++ junk) t
    runs (TLiteral i j l) m sc low env room f s k junk t r e g h =
        tick_run code ev (by_answer (literal_value l)) (Lands code ev (after (TLiteral i j l) s).at k low room) s.at k (low ++ junk) t g.0.0 h
        (λ u y. literal_run code ev l s k (low ++ junk) u g.0.1.0 g.1 (landed code ev (after (TLiteral i j l) s).at k low junk room e _ y))
    runs (TName i j n) m sc low env room f s k junk t r e g h =
        tick_run code ev (found (look_up n env)) (Lands code ev (after (TName i j n) s).at k low room) s.at k (low ++ junk) t g.0.0 h
        (λ u y. name_run code ev n sc env low junk (s.at + 1) k u f.agree (few m sc low env room f junk e) g.0.1.0
        (landed code ev (after (TName i j n) s).at k low junk room e _ y))
    runs (NullOf i j w) m sc low env room f s k junk t r e g h =
        tick_run code ev (give TNull) (Lands code ev (after (NullOf i j w) s).at k low room) s.at k (low ++ junk) t g.0.0 h
        (λ u y. one code ev _ (s.at + 1) k (low ++ junk) u g.0.1.0 (y junk e))
    runs (TEmpty i j w) m sc low env room f s k junk t r e g h =
        tick_run code ev (give (TList NoVal)) (Lands code ev (after (TEmpty i j w) s).at k low room) s.at k (low ++ junk) t g.0.0 h
        (λ u y. one code ev _ (s.at + 1) k (low ++ junk) u g.0.1.0 (y junk e))
    runs (TCompare i j c a b) m sc low env room f s k junk t r e g h =
        tick_run code ev (then_do (value_of a env) (λ v. then_do (value_of b env) (λ w. by_answer (binary_answer (comparison_of c) v w))))
        (Lands code ev (after (TCompare i j c a b) s).at k low room) s.at k (low ++ junk) t g.0.0 h
        (λ u y. runs a m sc low env room f (next s) k junk u (omega (arith, r)) e
        (has_prefix _ _ (code_of a (next s) m sc) _ g.0.1, has_prefix _ _ (texts_of a) _ g.1)
        (seq code ev _ (Lands code ev (after (TCompare i j c a b) s).at k low room) (Lands code ev (after a (next s)).at k low room)
        (λ v w z js d. let g2 = behind _ _ g.0.1 (ends_at a (next s) m sc) in
        runs b m sc low env room f (after a (next s)) (v ∷ k) js w (omega (arith, r)) d
        (has_prefix _ _ (code_of b (after a (next s)) m sc) _ g2, behind _ _ g.1 (texts_end a (next s)))
        (seq code ev _ (Lands code ev (after (TCompare i j c a b) s).at k low room) (Lands code ev (after b (after a (next s))).at (v ∷ k) low room)
        (λ x w' z' is d'. let g3 = behind _ _ g2 (ends_at b (after a (next s)) m sc) in
        one code ev _ (after b (after a (next s))).at (x ∷ v ∷ k) (low ++ is) w' g3.0
        (into code ev (by_answer (binary_answer (comparison_of c) v x) w') (at _ k (low ++ is) w')
        (landed code ev (after (TCompare i j c a b) s).at k low is room d' _ z')))
        (value_of b env w) z))
        (value_of a env u) y))
    runs (TPrefix i j p a) m sc low env room f s k junk t r e g h =
        tick_run code ev (then_do (value_of a env) (λ v. by_answer (unary_answer (prefix_of p) v)))
        (Lands code ev (after (TPrefix i j p a) s).at k low room) s.at k (low ++ junk) t g.0.0 h
        (λ u y. runs a m sc low env room f (next s) k junk u r e (has_prefix _ _ (code_of a (next s) m sc) _ g.0.1, g.1)
        (seq code ev _ (Lands code ev (after (TPrefix i j p a) s).at k low room) (Lands code ev (after a (next s)).at k low room)
        (λ v w z js d. let g2 = behind _ _ g.0.1 (ends_at a (next s) m sc) in
        one code ev _ (after a (next s)).at (v ∷ k) (low ++ js) w g2.0
        (into code ev (by_answer (unary_answer (prefix_of p) v) w) (at _ k (low ++ js) w) (landed code ev (after (TPrefix i j p a) s).at k low js room d _ z)))
        (value_of a env u) y))
    runs (TProject i j a ns) m sc low env room f s k junk t r e g h =
        tick_run code ev (then_do (value_of a env) (projected ns)) (Lands code ev (after (TProject i j a ns) s).at k low room) s.at k (low ++ junk) t g.0.0 h
        (λ u y. runs a m sc low env room f (next s) k junk u r e (has_prefix _ _ (code_of a (next s) m sc) _ g.0.1, g.1)
        (seq code ev _ (Lands code ev (after (TProject i j a ns) s).at k low room) (Lands code ev (after a (next s)).at k low room)
        (λ v w z js d. indices_run code ev ns v (after a (next s)) k (low ++ js) w (behind _ _ g.0.1 (ends_at a (next s) m sc))
        (few m sc low env room f js d) (landed code ev (after (TProject i j a ns) s).at k low js room d _ z))
        (value_of a env u) y))
    runs (TEffect i j c a) m sc low env room f s k junk t r e g h =
        tick_run code ev (then_do (value_of a env) (effect_of c)) (Lands code ev (after (TEffect i j c a) s).at k low room) s.at k (low ++ junk) t g.0.0 h
        (λ u y. runs a m sc low env room f (next s) k junk u r e (has_prefix _ _ (code_of a (next s) m sc) _ g.0.1, g.1)
        (seq code ev _ (Lands code ev (after (TEffect i j c a) s).at k low room) (Lands code ev (after a (next s)).at k low room)
        (λ v w z js d. let g2 = behind _ _ g.0.1 (ends_at a (next s) m sc) in
        effect_run code ev c v (after a (next s)).at k (low ++ js) w g2.0 (landed code ev (after (TEffect i j c a) s).at k low js room d _ z))
        (value_of a env u) y))
    runs (TWrite i j a b) m sc low env room f s k junk t r e g h =
        tick_run code ev (then_do (value_of a env) (λ v. then_do (value_of b env) (write v))) (Lands code ev (after (TWrite i j a b) s).at k low room) s.at k
        (low ++ junk) t g.0.0 h
        (λ u y. runs a m sc low env room f (next s) k junk u (omega (arith, r)) e
        (has_prefix _ _ (code_of a (next s) m sc) _ g.0.1, has_prefix _ _ (texts_of a) _ g.1)
        (seq code ev _ (Lands code ev (after (TWrite i j a b) s).at k low room) (Lands code ev (after a (next s)).at k low room)
        (λ v w z js d. let g2 = behind _ _ g.0.1 (ends_at a (next s) m sc) in
        runs b m sc low env room f (after a (next s)) (v ∷ k) js w (omega (arith, r)) d
        (has_prefix _ _ (code_of b (after a (next s)) m sc) _ g2, behind _ _ g.1 (texts_end a (next s)))
        (seq code ev _ (Lands code ev (after (TWrite i j a b) s).at k low room) (Lands code ev (after b (after a (next s))).at (v ∷ k) low room)
        (λ x w' z' is d'. let g3 = behind _ _ g2 (ends_at b (after a (next s)) m sc) in
        one code ev _ (after b (after a (next s))).at (x ∷ v ∷ k) (low ++ is) w' g3.0
        (into code ev (write v x w') (at _ k (low ++ is) w') (landed code ev (after (TWrite i j a b) s).at k low is room d' _ z')))
        (value_of b env w) z))
        (value_of a env u) y))
    runs (TFail i j w a) m sc low env room f s k junk t r e g h =
        tick_run code ev (then_do (value_of a env) fail) (Lands code ev (after (TFail i j w a) s).at k low room) s.at k (low ++ junk) t g.0.0 h
        (λ u y. runs a m sc low env room f (next s) k junk u r e (has_prefix _ _ (code_of a (next s) m sc) _ g.0.1, g.1)
        (seq code ev _ (Lands code ev (after (TFail i j w a) s).at k low room) (Lands code ev (after a (next s)).at k low room)
        (λ v x z js d. let g2 = behind _ _ g.0.1 (ends_at a (next s) m sc) in
        one code ev _ (after a (next s)).at (v ∷ k) (low ++ js) x g2.0
        (one code ev _ ((after a (next s)).at + 1) (TBool true ∷ v ∷ k) (low ++ js) x g2.1.0
        (one code ev _ ((after a (next s)).at + 1 + 1) (v ∷ k) (low ++ js) x g2.1.1.0
        (into code ev (fail v x) (at _ k (low ++ js) x) (landed code ev (after (TFail i j w a) s).at k low js room d _ z)))))
        (value_of a env u) y))
    runs (TupleOf i j es) m sc low env room f s k junk t r e g h =
        tick_run code ev (items_onto tuple_with es env (TTuple NoVal)) (Lands code ev (after (TupleOf i j es) s).at k low room) s.at k (low ++ junk) t g.0.0 h
        (λ u y. one code ev _ (s.at + 1) k (low ++ junk) u g.0.1.0
        (items_run es tuple_with TuplePush (λ b w all l x ks. refl) m sc low env room f (next (next s)) (TTuple NoVal) k junk u r e (g.0.1.1, g.1) y))
    runs (ListOf i j es) m sc low env room f s k junk t r e g h =
        tick_run code ev (items_onto list_with es env (TList NoVal)) (Lands code ev (after (ListOf i j es) s).at k low room) s.at k (low ++ junk) t g.0.0 h
        (λ u y. one code ev _ (s.at + 1) k (low ++ junk) u g.0.1.0
        (items_run es list_with ListPush (λ b w all l x ks. refl) m sc low env room f (next (next s)) (TList NoVal) k junk u r e (g.0.1.1, g.1) y))
    runs (TCall i j c n es) m sc low env room f s k junk t r e g h =
        tick_run code ev (then_do (values_of es env []) (λ vs. called c n.text (reverse vs)))
        (Lands code ev (after (TCall i j c n es) s).at k low room) s.at k (low ++ junk) t g.0.0 h
        (λ u y. args_run es m sc low env room f (next s) k [] (count es) junk u r e (omega arith)
        (has_prefix _ _ (args_code es (next s) m sc) _ g.0.1, has_prefix _ _ (trees_texts es) _ g.1)
        (seq code ev _ (Lands code ev (after (TCall i j c n es) s).at k low room)
        (λ vs w. length vs ≡ count es → (js : List Val) → length js ≡ room → Comes code ev (after_args es (next s)).at (vs ++ k) (low ++ js) w)
        (λ vs w z q js d. let g2 = behind _ _ g.0.1 (args_end es (next s) m sc) in
        call_run code ev c n.text (count es) vs (after_args es (next s)) k (low ++ js) w g2.0 (behind _ _ g.1 (args_text es (next s))) q
        (few m sc low env room f js d) (landed code ev (after (TCall i j c n es) s).at k low js room d _ z))
        (values_of es env [] u) y))
    runs (TIf i j a b o) m sc low env room f s k junk t r e g h =
        tick_run code ev (then_do (value_of a env) (λ v. branch v (block_value b env) (else_value o env)))
        (Lands code ev (after (TIf i j a b o) s).at k low room)
        s.at k (low ++ junk) t g.0.0 h
        (λ u y. runs a m sc low env room f (next s) k junk u (omega (arith, r)) e
        (has_prefix _ _ (code_of a (next s) m sc) _ g.0.1, has_prefix _ _ (texts_of a) _ g.1)
        (seq code ev _ (Lands code ev (after (TIf i j a b o) s).at k low room) (Lands code ev (after a (next s)).at k low room)
        (λ v w z js d.
        let g2 = behind _ _ g.0.1 (ends_at a (next s) m sc) in
        let g3 = behind _ _ g2.1 (block_end b (next (after a (next s))) m sc) in
        let x2 = behind _ _ g.1 (texts_end a (next s)) in
        branch_run code ev v (block_value b env) (else_value o env) (Lands code ev (after (TIf i j a b o) s).at k low room)
        ((after_block b (next (after a (next s)))).at + 1) (after a (next s)).at k (low ++ js) w g2.0 z
        (λ z1. block_run b m sc low env room f (next (after a (next s))) k js w (omega (arith, r)) d
        (has_prefix _ _ (block_code b (next (after a (next s))) m sc) _ g2.1, has_prefix _ _ (block_texts b) _ x2)
        (mono code ev (Lands code ev (after (TIf i j a b o) s).at k low room) (Lands code ev (after_block b (next (after a (next s)))).at k low room)
        (λ v' s' q is d'. one code ev _ (after_block b (next (after a (next s)))).at (v' ∷ k) (low ++ is) s' g3.0 (q is d')) (block_value b env w) z1))
        (λ z2. else_run o m sc low env room f (next (after_block b (next (after a (next s))))) k js w (omega (arith, r)) d
        (g3.1, behind _ _ x2 (block_text b (next (after a (next s))))) z2))
        (value_of a env u) y))
    runs (TChain i j a ss) m sc low env room f s k junk t r e g h =
        tick_run code ev (then_do (value_of a env) (by_logic (logic_of ss) (either_value ss env) (both_value ss env) (steps_value ss env)))
        (Lands code ev (after (TChain i j a ss) s).at k low room) s.at k (low ++ junk) t g.0.0 h
        (λ u y. runs a m sc low env room f (next s) k junk u (omega (arith, r)) e
        (has_prefix _ _ (code_of a (next s) m sc) _ g.0.1, has_prefix _ _ (texts_of a) _ g.1)
        (seq code ev (by_logic (logic_of ss) (either_value ss env) (both_value ss env) (steps_value ss env))
        (Lands code ev (after (TChain i j a ss) s).at k low room)
        (Lands code ev (after a (next s)).at k low room)
        (λ v w z js d.
        let x2 = behind _ _ g.1 (texts_end a (next s)) in
        chain_case (logic_of ss) (after a (next s)).at _ _ _ k low room _ _ _ (either_value ss env) (both_value ss env) (steps_value ss env) v w
        (Comes code ev (after a (next s)).at (v ∷ k) (low ++ js) w) (behind _ _ g.0.1 (ends_at a (next s) m sc)) z
        (λ g' z'. let g3 = behind _ _ g' (either_end ss (after a (next s)) (after_either ss (after a (next s))).at m sc) in
        either_run ss m sc low env room f (after a (next s)) (after_either ss (after a (next s))).at refl v k js w (omega (arith, r)) d
        (has_prefix _ _ (either_code ss (after a (next s)) (after_either ss (after a (next s))).at m sc) _ g', x2) g3.0 g3.1.0 z')
        (λ g' z'. let g3 = behind _ _ g' (both_end ss (after a (next s)) (after_both ss (after a (next s))).at m sc) in
        both_run ss m sc low env room f (after a (next s)) (after_both ss (after a (next s))).at refl v k js w (omega (arith, r)) d
        (has_prefix _ _ (both_code ss (after a (next s)) (after_both ss (after a (next s))).at m sc) _ g', x2) g3.0 g3.1.0 z')
        (λ g' z'. steps_run ss m sc low env room f (after a (next s)) v k js w (omega (arith, r)) d (g', x2) z'))
        (value_of a env u) y))
    runs (TEach i j a x b) m sc low env room f s k junk t r e g h =
        tick_run code ev (then_do (value_of b env) (λ v. over v (λ vs. turns (λ w. value_of a ((x.text, w) ∷ env)) vs (TList NoVal))))
        (Lands code ev (after (TEach i j a x b) s).at k low room) s.at k (low ++ junk) t g.0.0 h
        (λ u y. runs b m sc low env room f (next s) k junk u (omega (arith, r)) e
        (has_prefix _ _ (code_of b (next s) m sc) _ g.0.1, has_prefix _ _ (texts_of b) _ g.1)
        (seq code ev (λ v. over v (λ vs. turns (λ w. value_of a ((x.text, w) ∷ env)) vs (TList NoVal)))
        (Lands code ev (after (TEach i j a x b) s).at k low room)
        (Lands code ev (after b (next s)).at k low room)
        (λ v w z js d.
        let g2 = behind _ _ g.0.1 (ends_at b (next s) m sc) in
        let g3 = g2.1.1.1.1.1 in
        let g4 = behind _ _ g3 (ends_at a (next (loop_at (after b (next s)))) (m + 3) ((x.text, m + 2) ∷ sc)) in
        three js (omega (arith, d, r)) (λ js'. Comes code ev (after b (next s)).at (v ∷ k) (low ++ js') w)
        (λ x0 x1 x2 is q.
        store_run code ev m low (x1 ∷ x2 ∷ is) x0 v (after b (next s)).at k w f.size g2.0
        (one code ev _ ((after b (next s)).at + 1) k ((low ++ v ∷ []) ++ x1 ∷ x2 ∷ is) w g2.1.0
        (store_run code ev (m + 1) (low ++ v ∷ []) (x2 ∷ is) x1 (TInt (pos 0)) ((after b (next s)).at + 1 + 1) k w
        (omega (arith, f.size, length-append low (v ∷ []))) g2.1.1.0
        (one code ev _ ((after b (next s)).at + 1 + 1 + 1) k (((low ++ v ∷ []) ++ TInt (pos 0) ∷ []) ++ x2 ∷ is) w g2.1.1.1.0
        (subst (λ l. Comes code ev (loop_at (after b (next s))).at (TList NoVal ∷ k) l w) (sym (two_more low v (TInt (pos 0)) (x2 ∷ is)))
        (over_run code ev low k m (loop_at (after b (next s))).at ((after a (next (loop_at (after b (next s))))).at + 1 + 1) f.size g2.1.1.1.1.0 room
        (after a (next (loop_at (after b (next s))))).at g4.0 g4.1.0 (λ y'. value_of a ((x.text, y') ∷ env))
        (λ list n y' all is' t' q' h'.
        subst (λ l. Comes code ev ((loop_at (after b (next s))).at + 1) (all ∷ k) l t') (append_assoc low (list ∷ TInt (pos n) ∷ y' ∷ []) is')
        (runs a (m + 3) ((x.text, m + 2) ∷ sc) (low ++ list ∷ TInt (pos n) ∷ y' ∷ []) ((x.text, y') ∷ env) (room - 3)
        (in_loop m sc low env room x.text list (TInt (pos n)) y' f (omega (arith, r))) (next (loop_at (after b (next s)))) (all ∷ k) is' t'
        (omega (arith, r)) (omega (arith, q')) (
          has_prefix _ _ (code_of a (next (loop_at (after b (next s)))) (m + 3) ((x.text, m + 2) ∷ sc)) _ g3,
          behind _ _ g.1 (texts_end b (next s)),
        )
        (mono code ev
        (λ y2 s2. (is2 : List Val) → length is2 + 3 ≡ room
        → Comes code ev (after a (next (loop_at (after b (next s))))).at (y2 ∷ all ∷ k) (slots code ev low k m _ _ f.size g2.1.1.1.1.0 list n y' is2) s2)
        (Lands code ev (after a (next (loop_at (after b (next s))))).at (all ∷ k) (low ++ list ∷ TInt (pos n) ∷ y' ∷ []) (room - 3))
        (λ y2 s2 q2 is2 d2. subst (λ l. Comes code ev (after a (next (loop_at (after b (next s))))).at (y2 ∷ all ∷ k) l s2)
        (sym (append_assoc low (list ∷ TInt (pos n) ∷ y' ∷ []) is2)) (q2 is2 (omega (arith, d2, r))))
        (value_of a ((x.text, y') ∷ env) t') h')))
        v x2 (TList NoVal) is w (omega (arith, q, d)) z)))))))
        (value_of b env u) y))

    -- operands of `||`
    either_run : (ss : Steps) (m : ℕ) (sc : Scope) (low : List Val) (env : Env) (room : ℕ) → Fits m sc low env room → (s : Spot) (to : ℕ)
        → (after_either ss s).at ≡ to → (v : Val) (k js : List Val) (w : State) → steps_room ss ≤ room → length js ≡ room
        → Here (either_code ss s to m sc) (steps_texts ss) s → slice_get code.instrs.items to ≡ Some (Jump (to + 1 + 1))
        → slice_get code.instrs.items (to + 1) ≡ Some (Push (constants.Bool true))
        → Then code ev (Lands code ev (to + 1 + 1) k low room) (either_value ss env v w) → Comes code ev s.at (v ∷ k) (low ++ js) w
    either_run NoStep m sc low env room f s to q v k js w r d g out last h =
        one code ev (Jump (to + 1 + 1)) s.at (v ∷ k) (low ++ js) w (subst (λ i. slice_get code.instrs.items i ≡ Some (Jump (to + 1 + 1))) (sym q) out) (h js d)
    either_run (AStep o a ss) m sc low env room f s to q v k js w r d g out last h =
        not_run code ev v (give (TBool true)) (then_do (value_of a env) (either_value ss env)) (Lands code ev (to + 1 + 1) k low room) (to + 1) s.at k
        (low ++ js) w
        g.0.0 g.0.1.0 h
        (λ z. one code ev _ (to + 1) k (low ++ js) w last (z js d))
        (λ z. runs a m sc low env room f (next (next s)) k js w (omega (arith, r)) d
        (has_prefix _ _ (code_of a (next (next s)) m sc) _ g.0.1.1, has_prefix _ _ (texts_of a) _ g.1)
        (seq code ev (either_value ss env) (Lands code ev (to + 1 + 1) k low room) (Lands code ev (after a (next (next s))).at k low room)
        (λ x w' z' is d'. either_run ss m sc low env room f (after a (next (next s))) to q x k is w' (omega (arith, r)) d'
        (behind _ _ g.0.1.1 (ends_at a (next (next s)) m sc), behind _ _ g.1 (texts_end a (next (next s)))) out last z')
        (value_of a env w) z))

    -- operands of `&&`
    both_run : (ss : Steps) (m : ℕ) (sc : Scope) (low : List Val) (env : Env) (room : ℕ) → Fits m sc low env room → (s : Spot) (to : ℕ)
        → (after_both ss s).at ≡ to → (v : Val) (k js : List Val) (w : State) → steps_room ss ≤ room → length js ≡ room
        → Here (both_code ss s to m sc) (steps_texts ss) s → slice_get code.instrs.items to ≡ Some (Jump (to + 1 + 1))
        → slice_get code.instrs.items (to + 1) ≡ Some (Push (constants.Bool false))
        → Then code ev (Lands code ev (to + 1 + 1) k low room) (both_value ss env v w) → Comes code ev s.at (v ∷ k) (low ++ js) w
    both_run NoStep m sc low env room f s to q v k js w r d g out last h =
        one code ev (Jump (to + 1 + 1)) s.at (v ∷ k) (low ++ js) w (subst (λ i. slice_get code.instrs.items i ≡ Some (Jump (to + 1 + 1))) (sym q) out) (h js d)
    both_run (AStep o a ss) m sc low env room f s to q v k js w r d g out last h =
        branch_run code ev v (then_do (value_of a env) (both_value ss env)) (give (TBool false)) (Lands code ev (to + 1 + 1) k low room) (to + 1) s.at k
        (low ++ js) w
        g.0.0 h
        (λ z. runs a m sc low env room f (next s) k js w (omega (arith, r)) d
        (has_prefix _ _ (code_of a (next s) m sc) _ g.0.1, has_prefix _ _ (texts_of a) _ g.1)
        (seq code ev (both_value ss env) (Lands code ev (to + 1 + 1) k low room) (Lands code ev (after a (next s)).at k low room)
        (λ x w' z' is d'. both_run ss m sc low env room f (after a (next s)) to q x k is w' (omega (arith, r)) d'
        (behind _ _ g.0.1 (ends_at a (next s) m sc), behind _ _ g.1 (texts_end a (next s))) out last z')
        (value_of a env w) z))
        (λ z. one code ev _ (to + 1) k (low ++ js) w last (z js d))

    -- operands, each with its operator
    steps_run : (ss : Steps) (m : ℕ) (sc : Scope) (low : List Val) (env : Env) (room : ℕ) → Fits m sc low env room
        → (s : Spot) (v : Val) (k js : List Val) (w : State)
        → steps_room ss ≤ room → length js ≡ room → Here (steps_code ss s m sc) (steps_texts ss) s
        → Then code ev (Lands code ev (after_steps ss s).at k low room) (steps_value ss env v w) → Comes code ev s.at (v ∷ k) (low ++ js) w
    steps_run NoStep m sc low env room f s v k js w r d g h = h js d
    steps_run (AStep o a ss) m sc low env room f s v k js w r d g h =
        runs a m sc low env room f s (v ∷ k) js w (omega (arith, r)) d (has_prefix _ _ (code_of a s m sc) _ g.0, has_prefix _ _ (texts_of a) _ g.1)
        (seq code ev (λ x. then_do (by_answer (binary_answer (infix_of o) v x)) (steps_value ss env))
        (Lands code ev (after_steps ss (next (after a s))).at k low room)
        (Lands code ev (after a s).at (v ∷ k) low room)
        (λ x w' z is d'. let g2 = behind _ _ g.0 (ends_at a s m sc) in
        one code ev (Binary (infix_of o)) (after a s).at (x ∷ v ∷ k) (low ++ is) w' g2.0
        (into code ev (by_answer (binary_answer (infix_of o) v x) w') (at (after a s).at k (low ++ is) w')
        (seq code ev (steps_value ss env) (Lands code ev (after_steps ss (next (after a s))).at k low room)
        (λ y w2. Comes code ev ((after a s).at + 1) (y ∷ k) (low ++ is) w2)
        (λ y w2 z2. steps_run ss m sc low env room f (next (after a s)) y k is w2 (omega (arith, r)) d' (g2.1, behind _ _ g.1 (texts_end a s)) z2)
        (by_answer (binary_answer (infix_of o) v x) w') z)))
        (value_of a env w) h)

    -- a block
    pub block_run : (b : BlockTree) (m : ℕ) (sc : Scope) (low : List Val) (env : Env) (room : ℕ) → Fits m sc low env room
        → (s : Spot) (k junk : List Val) (t : State)
        → block_room b ≤ room → length junk ≡ room → Here (block_code b s m sc) (block_texts b) s
        → Then code ev (Lands code ev (after_block b s).at k low room) (block_value b env t) → Comes code ev s.at k (low ++ junk) t
    block_run (TBlock i j ls l) m sc low env room f s k junk t r e g h =
        lines_run ls (last_code l) (after_last l) (last_value l) (last_texts l) (last_room l) (last_run l) m sc low env room f s k junk t r e g h

    -- lines, and then more
    lines_run : (ls : LineTrees) (rest : Spot → ℕ → Scope → List Instr) (to : Spot → Spot) (go : Env → Act Val) (ts : List (List ℕ)) (n : ℕ)
        → ((m : ℕ) (sc : Scope) (low : List Val) (env : Env) (room : ℕ) → Fits m sc low env room → (s : Spot) (k junk : List Val) (t : State)
        → n ≤ room → length junk ≡ room → Here (rest s m sc) ts s
        → Then code ev (Lands code ev (to s).at k low room) (go env t) → Comes code ev s.at k (low ++ junk) t)
        → (m : ℕ) (sc : Scope) (low : List Val) (env : Env) (room : ℕ) → Fits m sc low env room → (s : Spot) (k junk : List Val) (t : State)
        → lines_room ls n ≤ room → length junk ≡ room → Here (lines_code ls s m sc rest) (lines_texts ls ++ ts) s
        → Then code ev (Lands code ev (to (after_lines ls s)).at k low room) (lines_value ls env go t) → Comes code ev s.at k (low ++ junk) t
    lines_run NoLine rest to go ts n c m sc low env room f s k junk t r e g h = c m sc low env room f s k junk t r e g h
    lines_run (ExprLine a ls) rest to go ts n c m sc low env room f s k junk t r e g h =
        let x = assoc_here code.texts.items s.text (texts_of a) (lines_texts ls) ts g.1 in
        runs a m sc low env room f s k junk t (omega (arith, r)) e (has_prefix _ _ (code_of a s m sc) _ g.0, has_prefix _ _ (texts_of a) _ x)
        (seq code ev (λ v. lines_value ls env go) (Lands code ev (to (after_lines ls (next (after a s)))).at k low room)
        (Lands code ev (after a s).at k low room)
        (λ v w z js d. let g2 = behind _ _ g.0 (ends_at a s m sc) in
        one code ev Drop (after a s).at (v ∷ k) (low ++ js) w g2.0
        (lines_run ls rest to go ts n c m sc low env room f (next (after a s)) k js w (omega (arith, r)) d (g2.1, behind _ _ x (texts_end a s)) z))
        (value_of a env t) h)
    lines_run (ValLine i j y a ls) rest to go ts n c m sc low env room f s k junk t r e g h =
        let x = assoc_here code.texts.items s.text (texts_of a) (lines_texts ls) ts g.1 in
        runs a m sc low env room f s k junk t (omega (arith, r)) e (has_prefix _ _ (code_of a s m sc) _ g.0, has_prefix _ _ (texts_of a) _ x)
        (seq code ev (λ v. lines_value ls ((y.text, v) ∷ env) go) (Lands code ev (to (after_lines ls (next (after a s)))).at k low room)
        (Lands code ev (after a s).at k low room)
        (λ v w z js d. let g2 = behind _ _ g.0 (ends_at a s m sc) in
        stored m low js room v (after a s).at k w f.size d (omega (arith, r)) g2.0
        (λ is q. lines_run ls rest to go ts n c (m + 1) ((y.text, m) ∷ sc) (low ++ v ∷ []) ((y.text, v) ∷ env) (room - 1)
        (grown m sc low env room y.text v f (omega (arith, r))) (next (after a s)) k is w (omega (arith, r)) q (g2.1, behind _ _ x (texts_end a s))
        (mono code ev (Lands code ev (to (after_lines ls (next (after a s)))).at k low room)
        (Lands code ev (to (after_lines ls (next (after a s)))).at k (low ++ v ∷ []) (room - 1))
        (λ v' s' p is' d'. subst (λ l. Comes code ev (to (after_lines ls (next (after a s)))).at (v' ∷ k) l s')
        (sym (append_assoc low (v ∷ []) is')) (p (v ∷ is') (omega (arith, d', r))))
        (lines_value ls ((y.text, v) ∷ env) go w) z)))
        (value_of a env t) h)

    last_run : (l : LastTree) (m : ℕ) (sc : Scope) (low : List Val) (env : Env) (room : ℕ) → Fits m sc low env room → (s : Spot) (k junk : List Val) (t : State)
        → last_room l ≤ room → length junk ≡ room → Here (last_code l s m sc) (last_texts l) s
        → Then code ev (Lands code ev (after_last l s).at k low room) (last_value l env t) → Comes code ev s.at k (low ++ junk) t
    last_run NoLast m sc low env room f s k junk t r e g h = one code ev _ s.at k (low ++ junk) t g.0.0 (h junk e)
    last_run (ALast a) m sc low env room f s k junk t r e g h = runs a m sc low env room f s k junk t r e g h

    else_run : (o : ElseTree) (m : ℕ) (sc : Scope) (low : List Val) (env : Env) (room : ℕ) → Fits m sc low env room → (s : Spot) (k junk : List Val) (t : State)
        → else_room o ≤ room → length junk ≡ room → Here (else_code o s m sc) (else_texts o) s
        → Then code ev (Lands code ev (after_else o s).at k low room) (else_value o env t) → Comes code ev s.at k (low ++ junk) t
    else_run NoElse m sc low env room f s k junk t r e g h = one code ev _ s.at k (low ++ junk) t g.0.0 (h junk e)
    else_run (AnElse b) m sc low env room f s k junk t r e g h = block_run b m sc low env room f s k junk t r e g h

    -- items, each put onto what is on the stack
    items_run : (es : Trees) (grow : Val → Val → Answered) (i : Instr)
        → ((b : ℕ) (w all : Val) (l : List Val) (x : State) → (ks : List Val)
        → act code.texts.items i (at b (w ∷ all ∷ ks) l x) ≡ settle (by_answer (grow all w) x) (at b ks l x))
        → (m : ℕ) (sc : Scope) (low : List Val) (env : Env) (room : ℕ) → Fits m sc low env room → (s : Spot) (all : Val) (k junk : List Val) (t : State)
        → trees_room es ≤ room → length junk ≡ room → Here (items_code i es s m sc) (trees_texts es) s
        → Then code ev (Lands code ev (after_items es s).at k low room) (items_onto grow es env all t) → Comes code ev s.at (all ∷ k) (low ++ junk) t
    items_run Nil grow i q m sc low env room f s all k junk t r e g h = h junk e
    items_run (Cons a es) grow i q m sc low env room f s all k junk t r e g h =
        runs a m sc low env room f s (all ∷ k) junk t (omega (arith, r)) e (has_prefix _ _ (code_of a s m sc) _ g.0, has_prefix _ _ (texts_of a) _ g.1)
        (seq code ev _ (Lands code ev (after_items es (next (after a s))).at k low room) (Lands code ev (after a s).at (all ∷ k) low room)
        (λ v w z js d. let g2 = behind _ _ g.0 (ends_at a s m sc) in
        one code ev i (after a s).at (v ∷ all ∷ k) (low ++ js) w g2.0
        (subst (Leads code ev) (sym (q (after a s).at v all (low ++ js) w k))
        (into code ev (by_answer (grow all v) w) (at (after a s).at k (low ++ js) w)
        (seq code ev _ (Lands code ev (after_items es (next (after a s))).at k low room) (λ x w'. Comes code ev ((after a s).at + 1) (x ∷ k) (low ++ js) w')
        (λ x w' z'. items_run es grow i q m sc low env room f (next (after a s)) x k js w' (omega (arith, r)) d (g2.1, behind _ _ g.1 (texts_end a s)) z')
        (by_answer (grow all v) w) z))))
        (value_of a env t) h)

    -- arguments, which stay on the stack
    args_run : (es : Trees) (m : ℕ) (sc : Scope) (low : List Val) (env : Env) (room : ℕ) → Fits m sc low env room → (s : Spot) (k ws : List Val) (n : ℕ)
        (junk : List Val) (t : State) → trees_room es ≤ room → length junk ≡ room → length ws + count es ≡ n → Here (args_code es s m sc) (trees_texts es) s
        → Then code ev (λ vs w. length vs ≡ n → (js : List Val) → length js ≡ room → Comes code ev (after_args es s).at (vs ++ k) (low ++ js) w)
        (values_of es env ws t)
        → Comes code ev s.at (ws ++ k) (low ++ junk) t
    args_run Nil m sc low env room f s k ws n junk t r e q g h = h (omega (arith, q)) junk e
    args_run (Cons a es) m sc low env room f s k ws n junk t r e q g h =
        runs a m sc low env room f s (ws ++ k) junk t (omega (arith, r)) e (has_prefix _ _ (code_of a s m sc) _ g.0, has_prefix _ _ (texts_of a) _ g.1)
        (seq code ev _ _ (Lands code ev (after a s).at (ws ++ k) low room)
        (λ v w z js d. args_run es m sc low env room f (after a s) k (v ∷ ws) n js w (omega (arith, r)) d (omega (arith, q))
        (behind _ _ g.0 (ends_at a s m sc), behind _ _ g.1 (texts_end a s)) z)
        (value_of a env t) h)
