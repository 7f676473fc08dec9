-- Worked cases: code that is accepted, and one refusal of each kind.
use Rattle.std.proofs.Common.{◌≡◌, ◌⊎◌, inl, inr, ℕ, zero, suc, ◌-◌, ◌≤◌, List, [], ◌∷◌, length, slice_get, Some, None, refl, sym, ap, ◌∙◌, subst, arith}
use Rattle.std.proofs.lemmas.Option.{none-some, same_Some}
use Rattle.pie_code.specs.declared.code.Code.{Code}
use Rattle.pie_code.specs.declared.error.CodeError.TheVariants as errors
use Rattle.pie_code.specs.declared.instr.Constant.TheVariants.{Unit}
use Rattle.pie_code.specs.declared.instr.Each.{Each as EachLoop}
use Rattle.pie_code.specs.declared.instr.Instr.{Instr}
use Rattle.pie_code.specs.declared.instr.Instr.TheVariants.{Push, Load, Drop, Jump, Each, Return}
use Rattle.pie_code.specs.Effects.{pops, pushes}
use Rattle.pie_code.specs.Ways.{target, slots_of, texts_of, JumpsTo, Fits, Reaches}
use Rattle.pie_code.specs.Ways.Reaches.{begin, step}
use Rattle.pie_code.specs.Checked.{AreBelow, IsLoop, JumpsWell, HeightsFit, IsAccepted, IsRefusal}

-- an instruction that is a jump nowhere and begins no loop makes no jump wrong, where none jumps to it
still : (code : List Instr) (at : ℕ) → ((to : ℕ) → JumpsTo code at to → ⊥) → ((e : EachLoop) → IsLoop code at e → ⊥) → JumpsWell code at
still code at no_jump no_loop = record {
  inside = λ to j. absurd (no_jump to j);
  back = λ to j l. absurd (no_jump to j);
  ticks = λ e is. absurd (no_loop e is);
  ends = λ e is. absurd (no_loop e is);
  closes = λ e from is j l. absurd (no_loop e is);
}

two_still : (a b : Instr) → target a ≡ None → target b ≡ None → ((e : EachLoop) → a ≡ Each e → ⊥) → ((e : EachLoop) → b ≡ Each e → ⊥) → (at : ℕ)
    → JumpsWell (a ∷ b ∷ []) at
two_still a b no_a no_b a_plain b_plain zero = still (a ∷ b ∷ []) 0
    (λ to j. none-some to (sym no_a ∙ ap target (same_Some a j.0 j.1) ∙ j.2)) (λ e is. a_plain e (same_Some a (Each e) is))
two_still a b no_a no_b a_plain b_plain (suc zero) = still (a ∷ b ∷ []) 1
    (λ to j. none-some to (sym no_b ∙ ap target (same_Some b j.0 j.1) ∙ j.2)) (λ e is. b_plain e (same_Some b (Each e) is))
two_still a b no_a no_b a_plain b_plain (suc (suc n)) = still (a ∷ b ∷ []) (suc (suc n)) (λ to j. none-some j.0 j.1) (λ e is. none-some (Each e) is)

-- a value is pushed and returned
unit_jumps : (at : ℕ) → JumpsWell (Push Unit ∷ Return ∷ []) at
unit_jumps = two_still (Push Unit) Return refl refl (λ e h. cc) (λ e h. cc)

unit_ways : (at height : ℕ) → Reaches (Push Unit ∷ Return ∷ []) at height → ((at ≡ 0) × (height ≡ 0)) ⊎ ((at ≡ 1) × (height ≡ 1))
unit_ways at height begin = inl (refl, refl)
unit_ways at height (step {at = from} {height = low} {to = to} {i = i} way is le leads) =
    elim (unit_ways from low way) [
      | inl start ↦
          let push : Push Unit ≡ i = same_Some (Push Unit) i (subst (λ (k : ℕ). slice_get (Push Unit ∷ Return ∷ []) k ≡ Some i) start.0 is) in
          elim leads [
            | inl next ↦ inr (omega (arith, next.1, start.0), omega (arith, ap pushes (sym push), ap pops (sym push), start.1))
            | inr jump ↦ absurd (none-some to (ap target push ∙ jump))
          ]
      | inr last ↦
          let return : Return ≡ i = same_Some Return i (subst (λ (k : ℕ). slice_get (Push Unit ∷ Return ∷ []) k ≡ Some i) last.0 is) in
          elim leads [
            | inl next ↦ let on = next.0 in absurd (cc)
            | inr jump ↦ absurd (none-some to (ap target return ∙ jump))
          ]
    ]

unit_heights : (at : ℕ) → HeightsFit (Push Unit ∷ Return ∷ []) at
unit_heights zero = record {
  one = λ l m n way other. height way ∙ sym (height other);
  reached = λ i n is way. fits i n (same_Some (Push Unit) i is);
  alone = λ i is none. absurd (none 0 begin);
}
  where
    height : {n : ℕ} → Reaches (Push Unit ∷ Return ∷ []) 0 n → n ≡ 0
    height {n = n} way = elim (unit_ways 0 n way) [ inl start ↦ start.1 | inr last ↦ let e = last.0 in absurd (omega arith) ]

    fits : (i : Instr) (n : ℕ) → Push Unit ≡ i → Fits i n
    fits i n same = subst (λ (j : Instr). Fits j n) same ((omega arith, (λ e. absurd (cc))))
unit_heights (suc zero) = record {
  one = λ l m n way other. height way ∙ sym (height other);
  reached = λ i n is way. fits i n (same_Some Return i is) (height way);
  alone = λ i is none. absurd (none 1 second);
}
  where
    height : {n : ℕ} → Reaches (Push Unit ∷ Return ∷ []) 1 n → n ≡ 1
    height {n = n} way = elim (unit_ways 1 n way) [ inl start ↦ let e = start.0 in absurd (omega arith) | inr last ↦ last.1 ]

    fits : (i : Instr) (n : ℕ) → Return ≡ i → n ≡ 1 → Fits i n
    fits i n same one = subst (λ (j : Instr). Fits j n) same ((omega (arith, one), (λ e. one)))

    second : Reaches (Push Unit ∷ Return ∷ []) 1 1
    second = step begin refl (omega arith) (inl (refl, refl))
unit_heights (suc (suc n)) = record {
  one = λ l m n way other. absurd (omega arith);
  reached = λ i n is way. absurd (none-some i is);
  alone = λ i is none. absurd (none-some i is);
}

unit_is_accepted : (code : Code) → code.instrs.items ≡ Push Unit ∷ Return ∷ [] → code.params ≤ code.slots → IsAccepted code
unit_is_accepted code e enough = record {
  sound = λ at. record {
    jumps = subst (λ (is : List Instr). JumpsWell is at) (sym e) (unit_jumps at);
    heights = subst (λ (is : List Instr). HeightsFit is at) (sym e) (unit_heights at);
    slots = record { slots = λ i is. none_named at i (there at i is); texts = λ i is. no_text at i (there at i is); params = λ z. enough };
  };
  ends = (Return, subst (λ (is : List Instr). slice_get is (length is - 1) ≡ Some Return) (sym e) refl, refl);
}
  where
    there : (at : ℕ) (i : Instr) → slice_get code.instrs.items at ≡ Some i → slice_get (Push Unit ∷ Return ∷ []) at ≡ Some i
    there at i is = subst (λ (is : List Instr). slice_get is at ≡ Some i) e is

    none_named : (at : ℕ) (i : Instr) → slice_get (Push Unit ∷ Return ∷ []) at ≡ Some i → AreBelow code.slots (slots_of i)
    none_named zero i is = subst (λ (j : Instr). AreBelow code.slots (slots_of j)) (same_Some (Push Unit) i is) (tt)
    none_named (suc zero) i is = subst (λ (j : Instr). AreBelow code.slots (slots_of j)) (same_Some Return i is) (tt)
    none_named (suc (suc n)) i is = absurd (none-some i is)

    no_text : (at : ℕ) (i : Instr) → slice_get (Push Unit ∷ Return ∷ []) at ≡ Some i → AreBelow (length code.texts.items) (texts_of i)
    no_text zero i is = subst (λ (j : Instr). AreBelow (length code.texts.items) (texts_of j)) (same_Some (Push Unit) i is) (tt)
    no_text (suc zero) i is = subst (λ (j : Instr). AreBelow (length code.texts.items) (texts_of j)) (same_Some Return i is) (tt)
    no_text (suc (suc n)) i is = absurd (none-some i is)

-- an operand is missing
drop_is_refused : (code : Code) → code.instrs.items ≡ Drop ∷ Return ∷ [] → IsRefusal code (errors.Height 0)
drop_is_refused code e = (
  (λ p l. absurd (omega arith)),
  subst (λ (is : List Instr). JumpsWell is 0) (sym e) (two_still Drop Return refl refl (λ e h. cc) (λ e h. cc) 0),
  (λ fit. let h = ((subst (λ (is : List Instr). HeightsFit is 0) e fit).reached Drop 0 refl begin).0 in absurd (omega arith)),
)

-- a jump leaves the code
jump_is_refused : (code : Code) → code.instrs.items ≡ Jump 9 ∷ Return ∷ [] → IsRefusal code (errors.Jump 0)
jump_is_refused code e = (
  (λ p l. absurd (omega arith)),
  (λ well. let h = (subst (λ (is : List Instr). JumpsWell is 0) e well).inside 9 (Jump 9, refl, refl) in absurd (omega arith)),
)

-- a slot is out of range
load_ways : (n : ℕ) → Reaches (Load 3 ∷ Return ∷ []) 0 n → n ≡ 0
load_ways n begin = refl
load_ways n (step {at = from} {height = low} {to = to} {i = i} way is le leads) = elim leads [
  | inl next ↦ let e = next.1 in absurd (omega arith)
  | inr jump ↦ absurd (none-some 0 (nowhere from i is ∙ jump))
]
  where
    nowhere : (at : ℕ) (i : Instr) → slice_get (Load 3 ∷ Return ∷ []) at ≡ Some i → None ≡ target i
    nowhere zero i is = ap target (same_Some (Load 3) i is)
    nowhere (suc zero) i is = ap target (same_Some Return i is)
    nowhere (suc (suc n)) i is = absurd (none-some i is)

load_is_refused : (code : Code) → code.instrs.items ≡ Load 3 ∷ Return ∷ [] → code.slots ≡ 0 → IsRefusal code (errors.Slot 0)
load_is_refused code e none = (
  (λ p l. absurd (omega arith)),
  subst (λ (is : List Instr). JumpsWell is 0) (sym e) (two_still (Load 3) Return refl refl (λ e h. cc) (λ e h. cc) 0),
  subst (λ (is : List Instr). HeightsFit is 0) (sym e) (record {
    one = λ l m n way other. load_ways m way ∙ sym (load_ways n other);
    reached = λ i n is way. fits i n (same_Some (Load 3) i is);
    alone = λ i is none. absurd (none 0 begin);
  }),
  (λ fit. let h = (fit.slots (Load 3) (subst (λ (is : List Instr). slice_get is 0 ≡ Some (Load 3)) (sym e) refl)).0 in absurd (omega (arith, h, none))),
)
  where
    fits : (i : Instr) (n : ℕ) → Load 3 ≡ i → Fits i n
    fits i n same = subst (λ (j : Instr). Fits j n) same ((omega arith, (λ e. absurd (cc))))

-- there is no instruction
nothing_is_refused : (code : Code) → code.instrs.items ≡ [] → code.params ≤ code.slots → IsRefusal code errors.NoEnd
nothing_is_refused code e enough = (
  (λ at. record {
    jumps = still code.instrs.items at (λ to j. nowhere at j.0 j.1) (λ l is. nowhere at (Each l) is);
    heights = record {
      one = λ l m n way other. absurd (omega (arith, l, ap (λ (is : List Instr). length is) e));
      reached = λ i n is way. absurd (nowhere at i is);
      alone = λ i is none. absurd (nowhere at i is);
    };
    slots = record { slots = λ i is. absurd (nowhere at i is); texts = λ i is. absurd (nowhere at i is); params = λ z. enough };
  }),
  (λ ends. nowhere (length code.instrs.items - 1) ends.0 ends.1),
)
  where
    nowhere : (at : ℕ) (i : Instr) → slice_get code.instrs.items at ≡ Some i → ⊥
    nowhere at i is = none-some i (subst (λ (is : List Instr). slice_get is at ≡ Some i) e is)
