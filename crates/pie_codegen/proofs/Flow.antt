-- What is right at each instruction of compiled code: its height, its operands, where it leads, its slots and texts.
use Rattle.std.proofs.Common.{◌≡◌, ◌⊎◌, inl, inr, ℕ, zero, suc, ◌+◌, ◌-◌, ◌<◌, ◌≤◌, Bool, true, false, List, [], ◌∷◌, ◌++◌, length, slice_get, Option, Some}
use Rattle.std.proofs.Common.{None, refl, sym, subst, ap, ◌∙◌, arith}
use Rattle.std.proofs.lemmas.Option.{slice_get_within, same_Some}
use Rattle.std.proofs.lemmas.List.{length-append}
use Rattle.pie_code.specs.declared.instr.Each.{Each as EachLoop}
use Rattle.pie_code.specs.declared.instr.Instr.{Instr}
use Rattle.pie_code.specs.declared.instr.Instr.TheVariants.{Tick, Jump, JumpIfNot, Each, Return}
use Rattle.pie_code.specs.declared.code.Code.{Code}
use Rattle.pie_code.specs.Effects.{pops, pushes}
use Rattle.pie_code.specs.Ways.{target, goes_on, slots_of, texts_of, Leads, Fits, Reaches, JumpsTo, after as height_after}
use Rattle.pie_code.specs.Ways.Reaches.{begin, step}
use Rattle.pie_code.specs.Checked.{IsLoop, JumpsWell, HeightsFit, SlotsFit, IsSound, IsAccepted, HasEnd, AreBelow}
use Rattle.pie_codegen.proofs.Base.{HasAt}
use Rattle.pie_codegen.proofs.Places.{Sized}

module _ (code : Code) (all : List ℕ) where
  -- all is right at an instruction
  pub record Right (a : ℕ) (i : Instr) : Type 0 where
    pub height : ℕ
    pub here : slice_get all a ≡ Some height
    pub reach : Reaches code.instrs.items a height
    pub fits : Fits i height
    pub leads : (to : ℕ) → Leads a i to → slice_get all to ≡ Some (height_after i height)
    pub back : (to : ℕ) → target i ≡ Some to → to ≤ a → (e : EachLoop) × IsLoop code.instrs.items to e × (a < e.end)
    pub loop : (e : EachLoop) → i ≡ Each e → (slice_get code.instrs.items (a + 1) ≡ Some Tick) × (a < e.end)
    pub slots : AreBelow code.slots (slots_of i)
    pub texts : AreBelow (length code.texts.items) (texts_of i)

  -- at each of some instructions
  abbrev pub AllRight : ℕ → List Instr → Type 0
  AllRight a [] = Unit {0}
  AllRight a (i ∷ is) = Right a i × AllRight (a + 1) is

  pub right_both : (is js : List Instr) (a b : ℕ) → AllRight a is → Sized is a b → AllRight b js → AllRight a (is ++ js)
  right_both [] js a b g z h = let e = z.is in subst (λ n. AllRight n js) (omega arith) h
  right_both (i ∷ is) js a b g z h = let e = z.is in (g.0, right_both is js (a + 1) b g.1 (record { is = omega arith }) h)

  -- instructions that are right, and the height behind them
  pub record Goes (a : ℕ) (is : List Instr) (b n : ℕ) : Type 0 where
    pub right : AllRight a is
    pub out : Reaches code.instrs.items b n

  -- an instruction behind which running goes on
  pub plain : (i : Instr) (a n m : ℕ) → goes_on i ≡ true → target i ≡ None → AreBelow code.slots (slots_of i) → AreBelow (length code.texts.items) (texts_of i)
      → slice_get code.instrs.items a ≡ Some i → slice_get all a ≡ Some n → slice_get all (a + 1) ≡ Some m → height_after i n ≡ m → pops i ≤ n
      → Reaches code.instrs.items a n → Right a i × Reaches code.instrs.items (a + 1) m
  plain i a n m g f s t e h k q p r = (
    record {
      height = n;
      here = h;
      reach = r;
      fits = (p, λ z. absurd (apart z));
      leads = λ to l. leads_to to l;
      back = λ to z l. absurd (flat to z);
      loop = λ x z. absurd (flat x.end (ap target z));
      slots = s;
      texts = t;
    },
    subst (Reaches code.instrs.items (a + 1)) q (step r e p (inl (g, refl))),
  )
    where
      flat : (to : ℕ) → target i ≡ Some to → ⊥
      flat to z = let w = sym f ∙ z in cc

      apart : i ≡ Return → ⊥
      apart z = let w = sym g ∙ ap goes_on z in cc

      leads_to : (to : ℕ) → Leads a i to → slice_get all to ≡ Some (height_after i n)
      leads_to to (inl l) = ap (slice_get all) l.1 ∙ k ∙ ap (λ x. Some x) (sym q)
      leads_to to (inr l) = absurd (flat to l)

  -- a jump forward where a value is false
  pub fork : (b a n : ℕ) → slice_get code.instrs.items a ≡ Some (JumpIfNot b) → slice_get all a ≡ Some (n + 1) → slice_get all (a + 1) ≡ Some n
      → slice_get all b ≡ Some n → a < b → Reaches code.instrs.items a (n + 1)
      → Right a (JumpIfNot b) × Reaches code.instrs.items (a + 1) n × Reaches code.instrs.items b n
  fork b a n e h k l o r = (
    record {
      height = n + 1;
      here = h;
      reach = r;
      fits = (omega arith, λ z. absurd cc);
      leads = λ to z. leads_to to z;
      back = λ to z y. let w : b ≡ to = cc in absurd (omega arith);
      loop = λ x z. absurd cc;
      slots = tt;
      texts = tt;
    },
    subst (Reaches code.instrs.items (a + 1)) height (step r e (omega arith) (inl (refl, refl))),
    subst (Reaches code.instrs.items b) height (step r e (omega arith) (inr refl)),
  )
    where
      height : height_after (JumpIfNot b) (n + 1) ≡ n
      height = omega arith

      leads_to : (to : ℕ) → Leads a (JumpIfNot b) to → slice_get all to ≡ Some (height_after (JumpIfNot b) (n + 1))
      leads_to to (inl z) = ap (slice_get all) z.1 ∙ k ∙ ap (λ x. Some x) (sym height)
      leads_to to (inr z) = let w : b ≡ to = cc in ap (slice_get all) (sym w) ∙ l ∙ ap (λ x. Some x) (sym height)

  -- a jump
  jump : (b a n : ℕ) → slice_get code.instrs.items a ≡ Some (Jump b) → slice_get all a ≡ Some n → slice_get all b ≡ Some n
      → ((to : ℕ) → b ≡ to → to ≤ a → (e : EachLoop) × IsLoop code.instrs.items to e × (a < e.end)) → Reaches code.instrs.items a n
      → Right a (Jump b) × Reaches code.instrs.items b n
  jump b a n e h k o r = (
    record {
      height = n;
      here = h;
      reach = r;
      fits = (omega arith, λ z. absurd cc);
      leads = λ to z. leads_to to z;
      back = λ to z y. let w : b ≡ to = cc in o to w y;
      loop = λ x z. absurd cc;
      slots = tt;
      texts = tt;
    },
    subst (Reaches code.instrs.items b) height (step r e (omega arith) (inr refl)),
  )
    where
      height : height_after (Jump b) n ≡ n
      height = omega arith

      leads_to : (to : ℕ) → Leads a (Jump b) to → slice_get all to ≡ Some (height_after (Jump b) n)
      leads_to to (inl z) = let w = z.0 in absurd cc
      leads_to to (inr z) = let w : b ≡ to = cc in ap (slice_get all) (sym w) ∙ k ∙ ap (λ x. Some x) (sym height)

  -- a jump forward
  pub hop : (b a n : ℕ) → slice_get code.instrs.items a ≡ Some (Jump b) → slice_get all a ≡ Some n → slice_get all b ≡ Some n → a < b
      → Reaches code.instrs.items a n → Right a (Jump b) × Reaches code.instrs.items b n
  hop b a n e h k o r = jump b a n e h k (λ to w y. absurd (omega arith)) r

  -- a jump back to a loop
  pub turn : (b a n : ℕ) (x : EachLoop) → slice_get code.instrs.items a ≡ Some (Jump b) → slice_get all a ≡ Some n → slice_get all b ≡ Some n
      → IsLoop code.instrs.items b x → a < x.end → Reaches code.instrs.items a n → Right a (Jump b)
  turn b a n x e h k l o r = (jump b a n e h k (λ to w y. (x, subst (λ z. IsLoop code.instrs.items z x) w l, o)) r).0

  -- a loop
  pub around : (x : EachLoop) (a n : ℕ) → slice_get code.instrs.items a ≡ Some (Each x) → slice_get all a ≡ Some n → slice_get all (a + 1) ≡ Some n
      → slice_get all x.end ≡ Some n → a < x.end → slice_get code.instrs.items (a + 1) ≡ Some Tick → AreBelow code.slots (slots_of (Each x))
      → Reaches code.instrs.items a n → Right a (Each x) × Reaches code.instrs.items (a + 1) n × Reaches code.instrs.items x.end n
  around x a n e h k l o t s r = (
    record {
      height = n;
      here = h;
      reach = r;
      fits = (omega arith, λ z. absurd cc);
      leads = λ to z. leads_to to z;
      back = λ to z y. let w : x.end ≡ to = cc in absurd (omega arith);
      loop = λ y z. let w : x ≡ y = cc in (t, subst (λ (v : EachLoop). a < v.end) w o);
      slots = s;
      texts = tt;
    },
    subst (Reaches code.instrs.items (a + 1)) height (step r e (omega arith) (inl (refl, refl))),
    subst (Reaches code.instrs.items x.end) height (step r e (omega arith) (inr refl)),
  )
    where
      height : height_after (Each x) n ≡ n
      height = omega arith

      leads_to : (to : ℕ) → Leads a (Each x) to → slice_get all to ≡ Some (height_after (Each x) n)
      leads_to to (inl z) = ap (slice_get all) z.1 ∙ k ∙ ap (λ v. Some v) (sym height)
      leads_to to (inr z) = let w : x.end ≡ to = cc in ap (slice_get all) (sym w) ∙ l ∙ ap (λ v. Some v) (sym height)
