-- The forms of code whose parts are values already: literals, operators, projections, calls and effects, and a loop over a list.
use Rattle.std.proofs.Common.{◌≡◌, ℕ, zero, suc, ◌+◌, ◌-◌, ◌<◌, ◌≤◌, Bool, true, false, cond, ◌==◌, nat_lt, nat_le, List, [], ◌∷◌, ◌++◌, length, reverse}
use Rattle.std.proofs.Common.{slice_get, slice_set, Option, Some, None, Result, Ok, Err, refl, sym, subst, ap, ◌∙◌, arith, append_assoc, ℤ, pos, negsuc}
use Rattle.std.proofs.lemmas.List.{length-append, length-reverse}
use Rattle.std.proofs.lemmas.Bool.{lt-ltb, eqb-true}
use Rattle.pie_base.specs.declared.fault.FaultKind.TheVariants.{Unknown}
use Rattle.pie_value.specs.declared.builtin.Builtin.TheVariants.{Path as PathOf}
use Rattle.pie_value.specs.declared.event.By.TheVariants.{Hash, Mark, Raw}
use Rattle.pie_value.specs.declared.event.How.TheVariants.{Whole, Hashed, Ran}
use Rattle.pie_value.specs.Tree.{TUnit, TBool, TInt, TText, TPath, TList, TTuple, TNull, TBytes, list_of, Trees as Vals, Nil as NoVal, Cons as ConsVal}
use Rattle.pie_value.specs.Tree.{Tree as Val}
use Rattle.pie_value.specs.BuiltinForms.{Answered, made}
use Rattle.pie_value.specs.Builtins.{answer_of}
use Rattle.pie_signature.specs.Signatures.{arity_of}
use Rattle.pie_operators.specs.declared.asking.Observation.TheVariants as observations
use Rattle.pie_operators.specs.Operators.{binary_answer, item_at, list_with}
use Rattle.pie_operators.specs.Domain.{Outcome, done, fails, wants, State, Act, give, fault, pass, then_do, by_answer}
use Rattle.pie_operators.specs.Effects.{observe, require, fail}
use Rattle.pie_code.specs.declared.instr.Constant.TheVariants as constants
use Rattle.pie_code.specs.declared.instr.Each.{Each as EachLoop}
use Rattle.pie_code.specs.declared.instr.Instr.{Instr}
use Rattle.pie_code.specs.declared.instr.Instr.TheVariants.{Push, PushText, Load, Binary, Proj, Call, Observe, Require, Each, ListPush, Jump}
use Rattle.pie_code.specs.declared.code.Code.{Code}
use Rattle.pie_code.specs.Running.{Config, Turn, act, act_on, settle, push_text, require_named, number_in, item_found, next_item, each_turn, each_from, onward}
use Rattle.pie_code.specs.Running.{misfit as misfit_turn}
use Rattle.pie_parser.specs.declared.tree.Literal.{Literal}
use Rattle.pie_parser.specs.declared.tree.Literal.TheVariants as literals
use Rattle.pie_parser.specs.declared.tree.Index.{Index}
use Rattle.pie_parser.specs.declared.tree.CallKind.{CallKind}
use Rattle.pie_parser.specs.declared.tree.CallKind.TheVariants as calls
use Rattle.pie_parser.specs.declared.tree.EffectKind.{EffectKind}
use Rattle.pie_parser.specs.declared.tree.EffectKind.TheVariants as effects
use Rattle.pie_semantics.specs.Words.{literal_value, item_numbered, projected, over, Callee, ABuiltin, ReadBytes, NoCallee, callee_of, callee_arity}
use Rattle.pie_semantics.specs.Words.{callee_answer, bytes_read, called_plainly, called, effect_of}
use Rattle.pie_semantics.specs.Meaning.{turns}
use Rattle.pie_codegen.specs.declared.spot.Spot.{Spot}
use Rattle.pie_codegen.specs.Spots.{next, after_literal, after_indices, after_call}
use Rattle.pie_codegen.specs.Texts.{literal_texts, call_texts}
use Rattle.pie_codegen.specs.Compiled.{literal_code, index_code, indices_code, callee_code, call_code, effect_code, each_code, misfit}
use Rattle.pie_codegen.proofs.Base.{HasAt, at, Comes, Then, Leads, one, into, seq, mono, no_slot}
use Rattle.pie_codegen.proofs.Steps.{at_low, set_low, pop_run}

module _ (code : Code) (ev : Outcome Val × State) where
  -- a value lands on the stack, whatever stands in the slots above
  abbrev pub Lands : ℕ → List Val → List Val → ℕ → Val → State → Type 0
  Lands a k low room v s = (junk : List Val) → length junk ≡ room → Comes code ev a (v ∷ k) (low ++ junk) s

  pub landed : (a : ℕ) (k low junk : List Val) (room : ℕ) → length junk ≡ room → (o : Outcome Val × State)
      → Then code ev (Lands a k low room) o → Then code ev (λ v s. Comes code ev a (v ∷ k) (low ++ junk) s) o
  landed a k low junk room e o h = mono code ev (Lands a k low room) (λ v s. Comes code ev a (v ∷ k) (low ++ junk) s) (λ v s x. x junk e) o h

  -- an instruction that no operand fits
  pub misfit_run : (a : ℕ) (k l : List Val) (s : State) → slice_get code.instrs.items a ≡ Some misfit → length l ≤ 65535 → (fails Unknown, s) ≡ ev
      → Comes code ev a k l s
  misfit_run a k l s e h x = no_slot code ev 65535 a k l s e h x

  pub literal_run : (x : Literal) (s : Spot) (k l : List Val) (t : State) → slice_get code.instrs.items (s.at + 1) ≡ Some (literal_code x s)
      → HasAt code.texts.items s.text (literal_texts x)
      → Then code ev (λ v u. Comes code ev (after_literal x (next s)).at (v ∷ k) l u) (by_answer (literal_value x) t) → Comes code ev (s.at + 1) k l t
  literal_run (literals.Int n) s k l t e g h = one code ev (Push (constants.Int n)) (s.at + 1) k l t e h
  literal_run (literals.Bool b) s k l t e g h = one code ev (Push (constants.Bool b)) (s.at + 1) k l t e h
  literal_run literals.Unit s k l t e g h = one code ev (Push constants.Unit) (s.at + 1) k l t e h
  literal_run (literals.Text w) s k l t e g h =
      one code ev (PushText s.text) (s.at + 1) k l t e
      (subst (λ o. Leads code ev (push_text o (at (s.at + 1) k l t))) (sym g.0)
      (into code ev (by_answer (made (TText w)) t) (at (s.at + 1) k l t) h))

  index_run : (n : ℤ) (v : Val) (a : ℕ) (k l : List Val) (t : State) → slice_get code.instrs.items a ≡ Some (index_code n) → length l ≤ 65535
      → Then code ev (λ x u. Comes code ev (a + 1) (x ∷ k) l u) (by_answer (item_numbered n v) t) → Comes code ev a (v ∷ k) l t
  index_run (pos n) v a k l t e h x = one code ev (Proj n) a (v ∷ k) l t e (into code ev (by_answer (item_at n v) t) (at a k l t) x)
  index_run (negsuc n) v a k l t e h x = misfit_run a (v ∷ k) l t e h x

  pub indices_run : (ns : List Index) (v : Val) (s : Spot) (k l : List Val) (t : State) → HasAt code.instrs.items s.at (indices_code ns) → length l ≤ 65535
      → Then code ev (λ x u. Comes code ev (after_indices ns s).at (x ∷ k) l u) (projected ns v t) → Comes code ev s.at (v ∷ k) l t
  indices_run [] v s k l t g h x = x
  indices_run (n ∷ ns) v s k l t g h x =
      index_run n.number v s.at k l t g.0 h
      (seq code ev (projected ns) (λ y u. Comes code ev (after_indices ns (next s)).at (y ∷ k) l u) (λ y u. Comes code ev (s.at + 1) (y ∷ k) l u)
      (λ y u z. indices_run ns y (next s) k l u g.1 h z) (by_answer (item_numbered n.number v) t) x)

  -- a call by a plain name, whose arguments stand on the stack, the last one on top
  callee_run : (c : Callee) (vs : List Val) (a : ℕ) (k l : List Val) (t : State) → slice_get code.instrs.items a ≡ Some (callee_code c)
      → length vs ≡ callee_arity c
      → length l ≤ 65535 → Then code ev (λ x u. Comes code ev (a + 1) (x ∷ k) l u) (callee_answer c (reverse vs) t) → Comes code ev a (vs ++ k) l t
  callee_run (ABuiltin which) vs a k l t e n h x =
      one code ev (Call which) a (vs ++ k) l t e
      (pop_run code ev vs k (arity_of which) a l t (λ ts d. act_on (by_answer (answer_of which ts)) d) n
      (into code ev (by_answer (answer_of which (reverse vs)) t) (at a k l t) x))
  callee_run ReadBytes [] a k l t e n h x = absurd cc
  callee_run ReadBytes (v ∷ []) a k l t e n h x =
      one code ev (Observe (observations.Read Raw)) a (v ∷ k) l t e (into code ev (observe (observations.Read Raw) v t) (at a k l t) x)
  callee_run ReadBytes (v ∷ w ∷ vs) a k l t e n h x = absurd (omega arith)
  callee_run NoCallee vs a k l t e n h x = misfit_run a (vs ++ k) l t e h x

  plain_run : (b : Bool) (c : Callee) (vs : List Val) (a : ℕ) (k l : List Val) (t : State)
      → slice_get code.instrs.items a ≡ Some (cond b (callee_code c) misfit)
      → (b ≡ true → length vs ≡ callee_arity c) → length l ≤ 65535
      → Then code ev (λ x u. Comes code ev (a + 1) (x ∷ k) l u) (cond b (callee_answer c (reverse vs)) (fault Unknown) t) → Comes code ev a (vs ++ k) l t
  plain_run true c vs a k l t e n h x = callee_run c vs a k l t e (n refl) h x
  plain_run false c vs a k l t e n h x = misfit_run a (vs ++ k) l t e h x

  pub call_run : (c : CallKind) (n : List ℕ) (i : ℕ) (vs : List Val) (s : Spot) (k l : List Val) (t : State)
      → slice_get code.instrs.items s.at ≡ Some (call_code c n i s)
      → HasAt code.texts.items s.text (call_texts c n) → length vs ≡ i → length l ≤ 65535
      → Then code ev (λ x u. Comes code ev (after_call c s).at (x ∷ k) l u) (called c n (reverse vs) t) → Comes code ev s.at (vs ++ k) l t
  call_run calls.Plain n i vs s k l t e g z h x =
      plain_run (i == callee_arity (callee_of n)) (callee_of n) vs s.at k l t e (λ p. z ∙ eqb-true i (callee_arity (callee_of n)) p) h
      (subst (λ j. Then code ev (λ y u. Comes code ev (s.at + 1) (y ∷ k) l u)
      (cond (j == callee_arity (callee_of n)) (callee_answer (callee_of n) (reverse vs)) (fault Unknown) t))
      (length-reverse vs ∙ z) x)
  call_run calls.Require n i vs s k l t e g z h x =
      one code ev _ s.at (vs ++ k) l t e
      (subst (λ o. Leads code ev (require_named (record { func = s.text; count = i; how = Whole }) o (at s.at (vs ++ k) l t))) (sym g.0)
      (pop_run code ev vs k i s.at l t (λ ts d. act_on (require Whole n ts) d) z (into code ev (require Whole n (reverse vs) t) (at s.at k l t) x)))
  call_run calls.RequireByHash n i vs s k l t e g z h x =
      one code ev _ s.at (vs ++ k) l t e
      (subst (λ o. Leads code ev (require_named (record { func = s.text; count = i; how = Hashed }) o (at s.at (vs ++ k) l t))) (sym g.0)
      (pop_run code ev vs k i s.at l t (λ ts d. act_on (require Hashed n ts) d) z (into code ev (require Hashed n (reverse vs) t) (at s.at k l t) x)))
  call_run calls.Run n i vs s k l t e g z h x =
      one code ev _ s.at (vs ++ k) l t e
      (subst (λ o. Leads code ev (require_named (record { func = s.text; count = i; how = Ran }) o (at s.at (vs ++ k) l t))) (sym g.0)
      (pop_run code ev vs k i s.at l t (λ ts d. act_on (require Ran n ts) d) z (into code ev (require Ran n (reverse vs) t) (at s.at k l t) x)))

  pub effect_run : (c : EffectKind) (v : Val) (a : ℕ) (k l : List Val) (t : State) → slice_get code.instrs.items a ≡ Some (effect_code c)
      → Then code ev (λ x u. Comes code ev (a + 1) (x ∷ k) l u) (effect_of c v t) → Comes code ev a (v ∷ k) l t
  effect_run effects.Path v a k l t e x =
      one code ev (Call PathOf) a (v ∷ k) l t e
      (pop_run code ev (v ∷ []) k (arity_of PathOf) a l t (λ ts d. act_on (by_answer (answer_of PathOf ts)) d) refl
      (into code ev (by_answer (answer_of PathOf (v ∷ [])) t) (at a k l t) x))
  effect_run effects.Exists v a k l t e x = one code ev (Observe observations.Exists) a (v ∷ k) l t e
      (into code ev (observe observations.Exists v t) (at a k l t) x)
  effect_run effects.Digest v a k l t e x = one code ev (Observe observations.Digest) a (v ∷ k) l t e
      (into code ev (observe observations.Digest v t) (at a k l t) x)
  effect_run effects.List v a k l t e x = one code ev (Observe observations.List) a (v ∷ k) l t e (into code ev (observe observations.List v t) (at a k l t) x)
  effect_run effects.Read v a k l t e x =
      one code ev (Observe (observations.Read Hash)) a (v ∷ k) l t e (into code ev (observe (observations.Read Hash) v t) (at a k l t) x)
  effect_run effects.ReadByHash v a k l t e x =
      one code ev (Observe (observations.Read Hash)) a (v ∷ k) l t e (into code ev (observe (observations.Read Hash) v t) (at a k l t) x)
  effect_run effects.ReadByMark v a k l t e x =
      one code ev (Observe (observations.Read Mark)) a (v ∷ k) l t e (into code ev (observe (observations.Read Mark) v t) (at a k l t) x)
