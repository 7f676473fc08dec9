-- The code of a function whose body is formed is accepted.
use Rattle.std.proofs.Common.{◌≡◌, inl, inr, ℕ, zero, suc, ◌+◌, ◌-◌, ◌<◌, ◌≤◌, Bool, true, false, List, [], ◌∷◌, ◌++◌, length, slice_get, Option, Some, None}
use Rattle.std.proofs.Common.{refl, sym, subst, ap, ◌∙◌, arith}
use Rattle.std.proofs.lemmas.Option.{slice_get_within, same_Some}
use Rattle.std.proofs.lemmas.List.{length-append}
use Rattle.pie_code.specs.declared.instr.Each.{Each as EachLoop}
use Rattle.pie_code.specs.declared.instr.Instr.{Instr}
use Rattle.pie_code.specs.declared.instr.Instr.TheVariants.{Tick, Each, Return}
use Rattle.pie_code.specs.declared.code.Code.{Code}
use Rattle.pie_code.specs.Ways.{target, goes_on, Leads, Fits, Reaches, JumpsTo, after as height_after}
use Rattle.pie_code.specs.Ways.Reaches.{begin, step}
use Rattle.pie_code.specs.Checked.{IsLoop, JumpsWell, HeightsFit, SlotsFit, IsSound, IsAccepted, HasEnd}
use Rattle.pie_parser.specs.declared.tree.Param.{Param}
use Rattle.pie_parser.specs.FunctionTrees.{FunctionTree}
use Rattle.pie_codegen.specs.Spots.{after_block}
use Rattle.pie_codegen.specs.Rooms.{block_room}
use Rattle.pie_codegen.specs.Texts.{block_texts}
use Rattle.pie_codegen.specs.Compiled.{Scope, block_code}
use Rattle.pie_codegen.specs.Functions.{scope_onto, scope_of, origin, IsCodeOf}
use Rattle.pie_codegen.specs.Formed.{BlockFormed}
use Rattle.pie_codegen.specs.Names.{names_onto, names_of}
use Rattle.pie_codegen.proofs.Base.{HasAt, has_prefix}
use Rattle.pie_codegen.proofs.Places.{Sized, behind, block_end}
use Rattle.pie_codegen.proofs.Heights.{block_heights, block_places}
use Rattle.pie_codegen.proofs.Flow.{Right, AllRight, right_both, Goes}
use Rattle.pie_codegen.proofs.Accepted.{ScopeFits, block_start, block_right}
use Rattle.pie_codegen.proofs.Whole.{has_whole}

-- parameters have slots
params_fit : (code : Code) (all : List ℕ) (ps : List Param) (n : ℕ) (sc : Scope) (ns : List (List ℕ)) → n + length ps ≤ code.slots → ScopeFits code all ns sc
    → ScopeFits code all (names_onto ps ns) (scope_onto n ps sc)
params_fit code all [] n sc ns h f = f
params_fit code all (p ∷ ps) n sc ns h f = params_fit code all ps (n + 1) ((p.name.text, n) ∷ sc) (p.name.text ∷ ns) (omega (arith, h))
    (refl, omega (arith, h), f)

-- the instruction at a place is right
right_here : (code : Code) (all : List ℕ) (is : List Instr) (a k : ℕ) (i : Instr) → AllRight code all a is → slice_get is k ≡ Some i → Right code all (a + k) i
right_here code all [] a k i g e = absurd cc
right_here code all (j ∷ is) a zero i g e =
    let same : j ≡ i = cc in subst (λ n. Right code all n i) (omega arith) (subst (λ (x : Instr). Right code all a x) same g.0)
right_here code all (j ∷ is) a (suc k) i g e = subst (λ n. Right code all n i) (omega arith) (right_here code all is (a + 1) k i g.1 e)

module _ (code : Code) (all : List ℕ) (right : AllRight code all 0 code.instrs.items) (many : length all ≡ length code.instrs.items)
    (first : slice_get all 0 ≡ Some 0) where
  there : (a : ℕ) (i : Instr) → slice_get code.instrs.items a ≡ Some i → Right code all a i
  there a i e = subst (λ n. Right code all n i) (omega arith) (right_here code all code.instrs.items 0 a i right e)

  -- the height of each way is the one
  height_is : (a n : ℕ) → Reaches code.instrs.items a n → slice_get all a ≡ Some n
  height_is a n begin = first
  height_is a n (step {at = at} {height = height} {i = i} r e p l) =
      let w = there at i e in
      let same : w.height ≡ height = same_Some w.height height (sym w.here ∙ height_is at height r) in
      w.leads a l ∙ ap (λ k. Some (height_after i k)) same

  jumps_well : (a : ℕ) → JumpsWell code.instrs.items a
  jumps_well a = record {
    inside = λ to j. subst (λ n. to < n) many (slice_get_within all to _ ((there a j.0 j.1).leads to (inr j.2)));
    back = λ to j l. let b = (there a j.0 j.1).back to j.2 l in (b.0, b.1);
    ticks = λ e l. ((there a (Each e) l).loop e refl).0;
    ends = λ e l. ((there a (Each e) l).loop e refl).1;
    closes = λ e from l j k. closed e from l (there from j.0 j.1) (j.2) k;
  }
    where
      closed : (e : EachLoop) (from : ℕ) → IsLoop code.instrs.items a e → {i : Instr} → Right code all from i → target i ≡ Some a → a ≤ from → from < e.end
      closed e from l w t k =
          let b = w.back a t k in
          let same : Each b.0 ≡ Each e = same_Some (Each b.0) (Each e) (sym b.1 ∙ l) in
          let x : b.0 ≡ e = cc in
          subst (λ (y : EachLoop). from < y.end) x b.2

  heights_fit : (a : ℕ) → HeightsFit code.instrs.items a
  heights_fit a = record {
    one = λ l m n r q. same_Some m n (sym (height_is a m r) ∙ height_is a n q);
    reached = λ i n e r. let w = there a i e in subst (Fits i) (same_Some w.height n (sym w.here ∙ height_is a n r)) w.fits;
    alone = λ i e never. absurd (never (there a i e).height (there a i e).reach);
  }

  slots_fit : (a : ℕ) → code.params ≤ code.slots → SlotsFit code a
  slots_fit a p = record {
    slots = λ i e. (there a i e).slots;
    texts = λ i e. (there a i e).texts;
    params = λ _. p;
  }

  pub accepted : code.params ≤ code.slots → HasEnd code.instrs.items → IsAccepted code
  accepted p h = record { sound = λ a. record { jumps = jumps_well a; heights = heights_fit a; slots = slots_fit a p }; ends = h }

-- a return, with one value on the stack
returns : (code : Code) (all : List ℕ) (a : ℕ) → slice_get all a ≡ Some 1 → Reaches code.instrs.items a 1 → Right code all a Return
returns code all a k r = record {
  height = 1;
  here = k;
  reach = r;
  fits = (omega arith, λ _. refl);
  leads = λ to z. nowhere to z;
  back = λ to z y. absurd cc;
  loop = λ x z. absurd cc;
  slots = tt;
  texts = tt;
}
  where
    nowhere : (to : ℕ) → Leads a Return to → slice_get all to ≡ Some (height_after Return 1)
    nowhere to (inl z) = let w = z.0 in absurd cc
    nowhere to (inr z) = absurd cc

last_of : (is : List Instr) → slice_get (is ++ Return ∷ []) (length (is ++ Return ∷ []) - 1) ≡ Some Return
last_of is = ap (slice_get (is ++ Return ∷ [])) (omega (arith, length-append is (Return ∷ []))) ∙ at_end is
  where
    at_end : (is : List Instr) → slice_get (is ++ Return ∷ []) (length is + 0) ≡ Some Return
    at_end [] = refl
    at_end (i ∷ is) = let e : length (i ∷ is) + 0 ≡ suc (length is + 0) = omega arith in ap (slice_get (i ∷ (is ++ Return ∷ []))) e ∙ at_end is

-- the code of a function whose body is formed is accepted
pub verified : (f : FunctionTree) (code : Code) → IsCodeOf f code → BlockFormed (names_of f.params) f.body → IsAccepted code
verified f code is w =
    let all = block_heights f.body 0 ++ 1 ∷ [] in
    let whole = block_code f.body origin (length f.params) (scope_of f.params) in
    let i0 : HasAt code.instrs.items 0 (whole ++ Return ∷ []) = subst (HasAt code.instrs.items 0) is.instrs (has_whole code.instrs.items) in
    let h0 : HasAt all 0 all = has_whole all in
    let size = (block_end f.body origin (length f.params) (scope_of f.params)).is in
    let high = (block_places f.body 0 origin).is in
    let i1 = behind _ _ i0 (block_end f.body origin (length f.params) (scope_of f.params)) in
    let h1 = behind _ _ h0 (block_places f.body 0 origin) in
    let B = block_right code all f.body (length f.params) (scope_of f.params) (names_of f.params)
    (params_fit code all f.params 0 [] [] (omega (arith, is.slots)) tt) origin 0 w (omega (arith, is.slots)) (
      has_prefix _ _ whole _ i0,
      subst (HasAt code.texts.items 0) is.texts (has_whole code.texts.items),
      has_prefix _ _ (block_heights f.body 0) _ h0,
    ) h1.0 begin in
    accepted code all
    (subst (AllRight code all 0) (sym is.instrs)
    (right_both code all whole (Return ∷ []) 0 (after_block f.body origin).at B.right (block_end f.body origin (length f.params) (scope_of f.params))
    (returns code all (after_block f.body origin).at h1.0 B.out, tt)))
    (length-append (block_heights f.body 0) (1 ∷ []) ∙ sym (ap (λ (xs : List Instr). length xs) is.instrs ∙ length-append whole (Return ∷ [])
    ∙ omega (arith, size, high)))
    (block_start code all f.body 0 0 (1 ∷ []) h0)
    (omega (arith, is.slots, is.params))
    (Return, subst (λ (xs : List Instr). slice_get xs (length xs - 1) ≡ Some Return) (sym is.instrs) (last_of whole), refl)
