-- Functions and whole pipelines are read alike in two texts.
use Rattle.std.proofs.Common.{◌≡◌, ℕ, ◌-◌, ◌≤◌, suc, Bool, true, false, cond, List, [], ◌∷◌, refl, subst, ap, arith}
use Rattle.pie_parser.specs.declared.kind.Kind.TheVariants as kinds
use Rattle.pie_parser.specs.declared.tree.Param.{Param}
use Rattle.pie_parser.specs.declared.reader.Room.{Room}
use Rattle.pie_parser.specs.Kinds.{is}
use Rattle.pie_parser.specs.At.{At}
use Rattle.pie_parser.specs.Places.{Got, next}
use Rattle.pie_parser.specs.inner.Turns.{Stop, Part}
use Rattle.pie_parser.specs.FunctionTrees.{FunctionTree}
use Rattle.pie_parser.specs.FunctionReading as reads
use Rattle.pie_parser.proofs.Readings.{is_same}
use Rattle.pie_grammar_laws.specs.Brackets.{closes}
use Rattle.pie_grammar_laws.proofs.Twins.{Texts, Twin, next_is, start_is, past_is, Alike, then_alike, any_alike, got_alike, wrong_alike, cond_alike}
use Rattle.pie_grammar_laws.proofs.Tokens.{is_plain, passing, closing_by, plain_alike, close_alike, open_alike, name_alike}
use Rattle.pie_grammar_laws.proofs.Loops.{TurnsAlike, both_stop, both_part, cond_turn, all_alike}
use Rattle.pie_grammar_laws.proofs.TypesAlike.{type_is_alike}
use Rattle.pie_grammar_laws.proofs.ExprAlike.{block_is_alike}

module _ (z : Texts) where
  param_alike : (d : ℕ) → d ≤ z.limit → (s t : At) → Twin z s t → Alike Param z 1 d d s.rest (reads.param d s) (reads.param d t)
  param_alike d f s t w = then_alike (name_alike w) (λ n _ _ u _.
      then_alike (plain_alike kinds.Colon u refl) (λ _ a b u _. then_alike (type_is_alike z d f a b u) (λ x _ _ u _. got_alike u (let p = past_is u in cc))))

  more_alike : (d : ℕ) → d ≤ z.limit → (p : Param) (s t : At) → Twin z s t
      → Alike (List Param) z 0 d d s.rest (reads.more_params d p s) (reads.more_params d p t)
  more_alike d f p s t w = all_alike z d (reads.another_param d) another (p ∷ []) s t w
    where
      another : (s t : At) → Twin z s t → TurnsAlike Param z d s.rest (reads.another_param d s) (reads.another_param d t)
      another s t w = cond_turn (ap (λ k. is k kinds.Comma) (next_is w))
          (λ h. passing d (reads.param d) (reads.param d) w (ap is_plain (is_same (next s) kinds.Comma h)) (λ a b u. any_alike (param_alike d f a b u)))

  params_in_alike : (d e : ℕ) → e ≡ suc d → e ≤ z.limit → (s t : At) → Twin z s t
      → Alike (List Param) z 1 d e s.rest (reads.params_in d s) (reads.params_in d t)
  params_in_alike d e n f s t w = cond_alike (ap (λ k. is k kinds.CloseRound) (next_is w))
      (λ h. closing_by d (Got []) (Got []) w (ap closes (is_same (next s) kinds.CloseRound h)) n f (λ m k v. got_alike v refl))
      (λ h. then_alike (param_alike d (omega arith) s t w) (λ p a b u _.
      then_alike (more_alike d (omega arith) p a b u) (λ ps _ _ u _. then_alike (close_alike kinds.CloseRound u refl n f) (λ _ _ _ u _. got_alike u refl))))

  params_alike : (d : ℕ) → d ≤ z.limit → (s t : At) → Twin z s t → Alike (List Param) z 1 d d s.rest (reads.params d s) (reads.params d t)
  params_alike d f s t w = open_alike _ _ kinds.OpenRound d w refl (λ e n a b u.
      let less : e ≡ d - 1 = omega arith in
      subst (λ i. Alike (List Param) z 1 e d a.rest (reads.params_in i a) (reads.params_in i b)) less (params_in_alike e d n f a b u))

  function_alike : (r : Room) → r.brackets ≤ z.limit → (s t : At) → Twin z s t
      → Alike FunctionTree z 1 r.brackets r.brackets s.rest (reads.function r s) (reads.function r t)
  function_alike r f s t w = then_alike (plain_alike kinds.Func w refl)
      (λ _ _ _ u _. then_alike (name_alike u) (λ n a b u _. then_alike (params_alike r.brackets f a b u) (λ ps _ _ u _.
      then_alike (plain_alike kinds.Arrow u refl) (λ _ a b u _.
      then_alike (type_is_alike z r.brackets f a b u) (λ x a b u _. then_alike (block_is_alike z r f a b u) (λ y _ _ u _.
      got_alike u (let q = start_is w in let p = past_is u in cc)))))))

  another_alike : (r : Room) → r.brackets ≤ z.limit → (s t : At) → Twin z s t
      → TurnsAlike FunctionTree z r.brackets s.rest (reads.another_function r s) (reads.another_function r t)
  another_alike r f s t w = by_end (is (next s) kinds.End) (is (next t) kinds.End) (ap (λ k. is k kinds.End) (next_is w))
    where
      by_end : (x y : Bool) → x ≡ y → TurnsAlike FunctionTree z r.brackets s.rest (cond x Stop (Part (reads.function r s)))
          (cond y Stop (Part (reads.function r t)))
      by_end true true e = both_stop
      by_end false false e = both_part _ _ (function_alike r f s t w)
      by_end true false e = cc
      by_end false true e = cc

  -- a pipeline is read alike
  pub pipeline_alike : (r : Room) → r.brackets ≤ z.limit → (s t : At) → Twin z s t
      → Alike (List FunctionTree) z 0 r.brackets r.brackets s.rest (reads.pipeline r s) (reads.pipeline r t)
  pipeline_alike r f s t w = then_alike (all_alike z r.brackets (reads.another_function r) (another_alike r f) [] s t w) (λ fs m k u _.
      cond_alike (ap (λ j. is j kinds.End) (next_is u)) (λ h. got_alike u refl) (λ h. wrong_alike u))
