-- Why code is refused: the least place of the three.
use Rattle.std.proofs.Common.{◌≡◌, ℕ, ◌+◌, ◌<◌, ◌≤◌, inl, inr, Bool, true, false, cond, nat_lt, List, length, Option, Some, None, refl, sym, ap, subst, arith}
use Rattle.std.proofs.lemmas.Bool.{cases_lt, ltb-true, lt-ltb}
use Rattle.std.proofs.lemmas.Option.{none-some, same_Some}
use Rattle.pie_code.specs.declared.instr.Instr.{Instr}
use Rattle.pie_code.specs.declared.code.Code.{Code}
use Rattle.pie_code.specs.declared.error.CodeError.TheVariants.{Height, Slot}
use Rattle.pie_code.specs.Checked.{JumpsWell, HeightsFit, SlotsFit, IsSound, IsRefusal}
use Rattle.pie_code.specs.Scans.{IsFirst, limit_of, limit_up_to, or_count}
use Rattle.pie_code.specs.Searches.{IsFirstBefore}
use Rattle.pie_code.proofs.Covering.{fit_past}

-- the limit lies before the first wrong jump, and at most one behind the first wrong slot
limit_le : (jump : ℕ) (slot : Option ℕ) → limit_up_to jump slot ≤ jump
limit_le jump None = omega arith
limit_le jump (Some slot) = by_test (nat_lt slot jump) refl
  where
    by_test : (b : Bool) → nat_lt slot jump ≡ b → cond b (slot + 1) jump ≤ jump
    by_test true e = omega (arith, ltb-true slot jump e)
    by_test false e = omega arith

limit_le_slot : (jump slot : ℕ) → limit_up_to jump (Some slot) ≤ slot + 1
limit_le_slot jump slot = by_test (nat_lt slot jump) refl
  where
    not_less : nat_lt slot jump ≡ false → jump ≤ slot
    not_less e = elim (cases_lt slot jump) [ inl l ↦ let f = lt-ltb slot jump l in absurd (cc) | inr r ↦ r ]

    by_test : (b : Bool) → nat_lt slot jump ≡ b → cond b (slot + 1) jump ≤ slot + 1
    by_test true e = omega arith
    by_test false e = omega (arith, not_less e)

limit_with : (jump slot : ℕ) → slot < jump → limit_up_to jump (Some slot) ≡ slot + 1
limit_with jump slot l = ap (λ (b : Bool). cond b (slot + 1) jump) (lt-ltb slot jump l)

limit_without : (jump slot : ℕ) → jump ≤ slot → limit_up_to jump (Some slot) ≡ jump
limit_without jump slot le = by_test (nat_lt slot jump) refl
  where
    by_test : (b : Bool) → nat_lt slot jump ≡ b → cond b (slot + 1) jump ≡ jump
    by_test true e = absurd (omega (arith, ltb-true slot jump e))
    by_test false e = refl

jumps_before : (code : Code) (jump : Option ℕ) (count at : ℕ) → IsFirst (JumpsWell code.instrs.items) jump → at < or_count count jump
    → JumpsWell code.instrs.items at
jumps_before code None count at all l = all at
jumps_before code (Some m) count at first l = first.0 at l

slots_before : (code : Code) (jump at : ℕ) (slot : Option ℕ) → IsFirst (SlotsFit code) slot → at + 1 < limit_up_to jump slot → SlotsFit code at
slots_before code jump at None all l = all at
slots_before code jump at (Some s) first l = first.0 at (omega (arith, l, limit_le_slot jump s))

-- heights are wrong there
pub height_refused : (code : Code) (count : ℕ) (jump slot : Option ℕ) (at : ℕ) → IsFirst (JumpsWell code.instrs.items) jump → IsFirst (SlotsFit code) slot
    → IsFirstBefore (HeightsFit code.instrs.items) (limit_of count jump slot) (Some at) → IsRefusal code (Height at)
height_refused code count jump slot at jumps slots (before, right, wrong) =
    let le = limit_le (or_count count jump) slot in (
      (λ p l. record {
        jumps = jumps_before code jump count p jumps (omega arith);
        heights = right p l;
        slots = slots_before code (or_count count jump) p slot slots (omega arith);
      }),
      jumps_before code jump count at jumps (omega arith),
      wrong,
    )

-- heights are right as far as that matters
pub slot_refused : (code : Code) (at : ℕ) → ((p : ℕ) → p < at + 1 → JumpsWell code.instrs.items p) → ((p : ℕ) → p < at + 1 → HeightsFit code.instrs.items p)
    → IsFirst (SlotsFit code) (Some at) → IsRefusal code (Slot at)
slot_refused code at jumps heights slots = (
  (λ p l. record { jumps = jumps p (omega arith); heights = heights p (omega arith); slots = slots.0 p l }),
  jumps at (omega arith),
  heights at (omega arith),
  slots.1,
)

heights_all : (code : Code) (slot : Option ℕ) → ((p : ℕ) → p < limit_up_to (length code.instrs.items) slot → HeightsFit code.instrs.items p)
    → ((s : ℕ) → slot ≡ Some s → length code.instrs.items ≤ s)
    → (p : ℕ) → HeightsFit code.instrs.items p
heights_all code None heights far p = elim (cases_lt p (length code.instrs.items)) [ inl l ↦ heights p l | inr past ↦ fit_past code.instrs.items p past ]
heights_all code (Some s) heights far p =
    elim (cases_lt p (length code.instrs.items)) [
      | inl l ↦ heights p (omega (arith, limit_without (length code.instrs.items) s (far s refl)))
      | inr past ↦ fit_past code.instrs.items p past
    ]

pub only_slot : (code : Code) (at : ℕ) → IsFirst (JumpsWell code.instrs.items) None → IsFirst (SlotsFit code) (Some at)
    → ((p : ℕ) → p < limit_of (length code.instrs.items) None (Some at) → HeightsFit code.instrs.items p) → IsRefusal code (Slot at)
only_slot code at jumps slots heights =
    slot_refused code at (λ p q. jumps p)
    (elim (cases_lt at (length code.instrs.items)) [
      | inl l ↦ λ p q. heights p (omega (arith, limit_with (length code.instrs.items) at l))
      | inr past ↦ λ p q. heights_all code (Some at) heights (λ s e. subst (λ o. length code.instrs.items ≤ at_of o) e past) p
    ])
    slots
  where
    at_of : Option ℕ → ℕ
    at_of None = 0
    at_of (Some n) = n

pub all_sound : (code : Code) → IsFirst (JumpsWell code.instrs.items) None → IsFirst (SlotsFit code) None
    → ((p : ℕ) → p < limit_of (length code.instrs.items) None None → HeightsFit code.instrs.items p) → (at : ℕ) → IsSound code at
all_sound code jumps slots heights at = record {
  jumps = jumps at;
  heights = heights_all code None heights (λ s e. absurd (none-some s e)) at;
  slots = slots at;
}

pub only_slot_at : (code : Code) (jump slot : Option ℕ) (at : ℕ) → jump ≡ None → slot ≡ Some at → IsFirst (JumpsWell code.instrs.items) jump
    → IsFirst (SlotsFit code) slot
    → ((p : ℕ) → p < limit_of (length code.instrs.items) jump slot → HeightsFit code.instrs.items p) → IsRefusal code (Slot at)
only_slot_at code (Some j) slot at none some jumps slots heights = absurd (none-some j (sym none))
only_slot_at code None None at none some jumps slots heights = absurd (none-some at some)
only_slot_at code None (Some s) at none some jumps slots heights = subst (λ (k : ℕ). IsRefusal code (Slot k)) (same_Some s at some)
    (only_slot code s jumps slots heights)

pub all_sound_at : (code : Code) (jump slot : Option ℕ) → jump ≡ None → slot ≡ None → IsFirst (JumpsWell code.instrs.items) jump → IsFirst (SlotsFit code) slot
    → ((p : ℕ) → p < limit_of (length code.instrs.items) jump slot → HeightsFit code.instrs.items p) → (at : ℕ) → IsSound code at
all_sound_at code (Some j) slot none no_slot jumps slots heights = absurd (none-some j (sym none))
all_sound_at code None (Some s) none no_slot jumps slots heights = absurd (none-some s (sym no_slot))
all_sound_at code None None none no_slot jumps slots heights = all_sound code jumps slots heights

pub not_ended : (b : Bool) → b ≡ false → b ≡ true → ⊥
not_ended b e f = cc

pub height_refused_at : (code : Code) (count limit : ℕ) (a b : List Instr) (jump slot found : Option ℕ) (at : ℕ) → a ≡ code.instrs.items
    → b ≡ code.instrs.items → IsFirst (JumpsWell a) jump
    → IsFirst (SlotsFit code) slot → limit ≡ limit_of count jump slot → IsFirstBefore (HeightsFit b) limit found → found ≡ Some at → IsRefusal code (Height at)
height_refused_at code count limit a b jump slot found at same other jumps slots is heights e =
    height_refused code count jump slot at (subst (λ (c : List Instr). IsFirst (JumpsWell c) jump) same jumps) slots
    (subst (λ (c : List Instr). IsFirstBefore (HeightsFit c) (limit_of count jump slot) (Some at)) other
    (subst (λ (l : ℕ). IsFirstBefore (HeightsFit b) l (Some at)) is (subst (λ (o : Option ℕ). IsFirstBefore (HeightsFit b) limit o) e heights)))
