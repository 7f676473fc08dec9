-- The loop of a comprehension: one turn for each item that is left.
use Rattle.std.proofs.Common.{◌≡◌, ℕ, zero, suc, ◌+◌, ◌-◌, ◌<◌, ◌≤◌, Bool, true, false, cond, nat_lt, List, [], ◌∷◌, ◌++◌, length, slice_get, slice_set, Option}
use Rattle.std.proofs.Common.{Some, None, Ok, Err, refl, sym, subst, ap, ◌∙◌, arith, append_assoc, ℤ, pos, negsuc}
use Rattle.std.proofs.lemmas.List.{length-append}
use Rattle.std.proofs.lemmas.Bool.{lt-ltb}
use Rattle.pie_base.specs.declared.fault.FaultKind.TheVariants.{Unknown}
use Rattle.pie_value.specs.Tree.{TUnit, TBool, TInt, TText, TPath, TList, TTuple, TNull, TBytes, list_of, Trees as Vals, Nil as NoVal, Cons as ConsVal}
use Rattle.pie_value.specs.Tree.{Tree as Val}
use Rattle.pie_operators.specs.Operators.{list_with}
use Rattle.pie_operators.specs.Domain.{Outcome, done, fails, wants, State, Act, give, fault, then_do, by_answer}
use Rattle.pie_code.specs.declared.instr.Each.{Each as EachLoop}
use Rattle.pie_code.specs.declared.instr.Instr.TheVariants.{Each, ListPush, Jump}
use Rattle.pie_code.specs.declared.code.Code.{Code}
use Rattle.pie_code.specs.Running.{Config, Turn, act, act_on, settle, number_in, item_found, next_item, each_turn, each_from, onward, misfit as misfit_turn}
use Rattle.pie_semantics.specs.Words.{over}
use Rattle.pie_semantics.specs.Meaning.{turns}
use Rattle.pie_codegen.specs.Compiled.{each_code}
use Rattle.pie_codegen.proofs.Base.{at, Comes, Then, Leads, one, into, seq, mono}
use Rattle.pie_codegen.proofs.Steps.{at_low, set_low}
use Rattle.pie_codegen.proofs.Forms.{Lands}

plus_one : (n : ℕ) → n + 1 ≡ suc n
plus_one n = omega arith

-- the items of a list from one on
abbrev pub rest_at : ℕ → Vals → Vals
rest_at zero vs = vs
rest_at (suc n) NoVal = NoVal
rest_at (suc n) (ConsVal v vs) = rest_at n vs

rest_none : (n : ℕ) (vs : Vals) → rest_at n vs ≡ NoVal → slice_get (list_of vs) n ≡ None
rest_none zero NoVal e = refl
rest_none zero (ConsVal v vs) e = absurd cc
rest_none (suc n) NoVal e = refl
rest_none (suc n) (ConsVal v vs) e = rest_none n vs e

rest_some : (n : ℕ) (vs : Vals) (w : Val) (ws : Vals) → rest_at n vs ≡ ConsVal w ws → slice_get (list_of vs) n ≡ Some w
rest_some zero NoVal w ws e = absurd cc
rest_some zero (ConsVal v vs) w ws e = cc
rest_some (suc n) NoVal w ws e = absurd cc
rest_some (suc n) (ConsVal v vs) w ws e = rest_some n vs w ws e

rest_next : (n : ℕ) (vs : Vals) (w : Val) (ws : Vals) → rest_at n vs ≡ ConsVal w ws → rest_at (suc n) vs ≡ ws
rest_next zero NoVal w ws e = absurd cc
rest_next zero (ConsVal v vs) w ws e = cc
rest_next (suc n) NoVal w ws e = absurd cc
rest_next (suc n) (ConsVal v vs) w ws e = rest_next n vs w ws e

module _ (code : Code) (ev : Outcome Val × State) (low : List Val) (k : List Val) (m loop to : ℕ) (size : length low ≡ m)
    (each_at : slice_get code.instrs.items loop ≡ Some (each_code m to)) where
  -- the three slots of the loop, and what stands above them
  abbrev pub slots : Val → ℕ → Val → List Val → List Val
  slots list n x js = low ++ list ∷ TInt (pos n) ∷ x ∷ js

  list_is : (list : Val) (n : ℕ) (x : Val) (js : List Val) → slice_get (slots list n x js) m ≡ Some list
  list_is list n x js = ap (slice_get (slots list n x js)) (sym size ∙ omega arith) ∙ at_low low (list ∷ TInt (pos n) ∷ x ∷ js) 0

  number_is : (list : Val) (n : ℕ) (x : Val) (js : List Val) → number_in (slice_get (slots list n x js) (m + 1)) ≡ Some n
  number_is list n x js =
      ap (λ i. number_in (slice_get (slots list n x js) (i + 1))) (sym size) ∙ ap number_in (at_low low (list ∷ TInt (pos n) ∷ x ∷ js) 1)

  -- a turn, by what is found
  turn_by : (list : Val) (n : ℕ) (x : Val) (js : List Val) (all : Val) (t : State) (o : Option (Option Val)) → item_found (Some list) n ≡ o
      → Leads code ev (each_turn (record { list = m; at = m + 1; item = m + 2; end = to }) o n (at loop (all ∷ k) (slots list n x js) t))
      → Comes code ev loop (all ∷ k) (slots list n x js) t
  turn_by list n x js all t o e h =
      one code ev (each_code m to) loop (all ∷ k) (slots list n x js) t each_at
      (subst (λ i. Leads code ev (each_from (record { list = m; at = m + 1; item = m + 2; end = to }) i (at loop (all ∷ k) (slots list n x js) t)))
      (sym (number_is list n x js))
      (subst (λ i. Leads code ev (each_turn (record { list = m; at = m + 1; item = m + 2; end = to }) i n (at loop (all ∷ k) (slots list n x js) t)))
      (sym (ap (λ i. item_found i n) (list_is list n x js) ∙ e)) h))

  -- the slots of the next turn
  turned : (list : Val) (n : ℕ) (x w : Val) (js : List Val)
      → slice_set (slice_set (slots list n x js) (m + 2) w) (m + 1) (TInt (pos (n + 1))) ≡ slots list (n + 1) w js
  turned list n x w js =
      ap (λ i. slice_set (slice_set (slots list n x js) (i + 2) w) (i + 1) (TInt (pos (n + 1)))) (sym size)
      ∙ ap (λ l. slice_set l (length low + 1) (TInt (pos (n + 1)))) (set_low low (list ∷ TInt (pos n) ∷ x ∷ js) 2 w)
      ∙ set_low low (list ∷ TInt (pos n) ∷ w ∷ js) 1 (TInt (pos (n + 1)))

  item_goes : (list : Val) (n : ℕ) (x w : Val) (js : List Val) (all : Val) (t : State)
      → Comes code ev (loop + 1) (all ∷ k) (slots list (n + 1) w js) t
      → Leads code ev (next_item (record { list = m; at = m + 1; item = m + 2; end = to }) w n (at loop (all ∷ k) (slots list n x js) t))
  item_goes list n x w js all t h =
      subst (λ b. Leads code ev (cond b (onward (at loop (all ∷ k) (slice_set (slice_set (slots list n x js) (m + 2) w) (m + 1) (TInt (pos (n + 1)))) t))
      (misfit_turn (at loop (all ∷ k) (slots list n x js) t))))
      (sym (lt-ltb (m + 2) (length (slots list n x js)) (omega (arith, size, length-append low (list ∷ TInt (pos n) ∷ x ∷ js)))))
      (subst (λ l. Comes code ev (loop + 1) (all ∷ k) l t) (sym (turned list n x w js)) h)

  module _ (room u : ℕ) (push_at : slice_get code.instrs.items u ≡ Some ListPush) (jump_at : slice_get code.instrs.items (u + 1) ≡ Some (Jump loop))
      (value : Val → Act Val)
      (body : (list : Val) (n : ℕ) (w all : Val) (js : List Val) (t : State) → length js + 3 ≡ room
      → Then code ev (λ x s. (is : List Val) → length is + 3 ≡ room → Comes code ev u (x ∷ all ∷ k) (slots list n w is) s) (value w t)
      → Comes code ev (loop + 1) (all ∷ k) (slots list n w js) t) where
    -- the turns that are left
    pub turns_run : (left vs : Vals) (n : ℕ) (x all : Val) (js : List Val) (t : State) → rest_at n vs ≡ left → length js + 3 ≡ room
        → Then code ev (Lands code ev to k low room) (turns value left all t) → Comes code ev loop (all ∷ k) (slots (TList vs) n x js) t
    turns_run NoVal vs n x all js t r e h =
        turn_by (TList vs) n x js all t (Some None) (ap (λ o. Some o) (rest_none n vs r)) (h (TList vs ∷ TInt (pos n) ∷ x ∷ js) (omega arith))
    turns_run (ConsVal w ws) vs n x all js t r e h =
        turn_by (TList vs) n x js all t (Some (Some w)) (ap (λ o. Some o) (rest_some n vs w ws r))
        (item_goes (TList vs) n x w js all t
        (body (TList vs) (n + 1) w all js t e
        (seq code ev (λ y. then_do (by_answer (list_with all y)) (turns value ws)) (Lands code ev to k low room)
        (λ y s. (is : List Val) → length is + 3 ≡ room → Comes code ev u (y ∷ all ∷ k) (slots (TList vs) (n + 1) w is) s)
        (λ y s z is f.
        one code ev ListPush u (y ∷ all ∷ k) (slots (TList vs) (n + 1) w is) s push_at
        (into code ev (by_answer (list_with all y) s) (at u k (slots (TList vs) (n + 1) w is) s)
        (seq code ev (turns value ws) (Lands code ev to k low room) (λ more s'. Comes code ev (u + 1) (more ∷ k) (slots (TList vs) (n + 1) w is) s')
        (λ more s' y'. one code ev (Jump loop) (u + 1) (more ∷ k) (slots (TList vs) (n + 1) w is) s' jump_at
        (turns_run ws vs (n + 1) w more is s' (ap (λ i. rest_at i vs) (plus_one n) ∙ rest_next n vs w ws r) f y'))
        (by_answer (list_with all y) s) z)))
        (value w t) h)))

    -- from the first item on, where it is a list
    pub over_run : (v : Val) (x all : Val) (js : List Val) (t : State) → length js + 3 ≡ room
        → Then code ev (Lands code ev to k low room) (over v (λ vs. turns value vs all) t) → Comes code ev loop (all ∷ k) (slots v 0 x js) t
    over_run (TList vs) x all js t e h = turns_run vs vs 0 x all js t refl e h
    over_run TUnit x all js t e h = turn_by TUnit 0 x js all t None refl h
    over_run (TBool b) x all js t e h = turn_by (TBool b) 0 x js all t None refl h
    over_run (TInt i) x all js t e h = turn_by (TInt i) 0 x js all t None refl h
    over_run (TText s) x all js t e h = turn_by (TText s) 0 x js all t None refl h
    over_run (TPath p) x all js t e h = turn_by (TPath p) 0 x js all t None refl h
    over_run (TTuple ts) x all js t e h = turn_by (TTuple ts) 0 x js all t None refl h
    over_run TNull x all js t e h = turn_by TNull 0 x js all t None refl h
    over_run (TBytes s) x all js t e h = turn_by (TBytes s) 0 x js all t None refl h
