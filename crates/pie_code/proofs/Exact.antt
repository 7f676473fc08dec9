-- At most one refusal is due, and none where code is accepted: so the answer of verify is exact, except when out of memory.
use Rattle.std.proofs.Common.{◌≡◌, ◌≢◌, ℕ, inl, inr, refl, sym, ap, subst, arith}
use Rattle.std.proofs.lemmas.Bool.{cases_lt}
use Rattle.pie_code.specs.declared.code.Code.{Code}
use Rattle.pie_code.specs.declared.error.CodeError.{CodeError}
use Rattle.pie_code.specs.declared.error.CodeError.TheVariants.{Jump, Height, Slot, NoEnd, OutOfMemory}
use Rattle.pie_code.specs.Checked.{JumpsWell, HeightsFit, IsSound, IsSoundBefore, IsAccepted, IsRefusal}

-- accepted code is refused only when out of memory
pub only_memory : (code : Code) (e : CodeError) → IsAccepted code → IsRefusal code e → e ≡ OutOfMemory
only_memory code (Jump at) accepted refused = absurd (refused.1 (accepted.sound at).jumps)
only_memory code (Height at) accepted refused = absurd (refused.2 (accepted.sound at).heights)
only_memory code (Slot at) accepted refused = absurd (refused.3 (accepted.sound at).slots)
only_memory code NoEnd accepted refused = absurd (refused.1 accepted.ends)
only_memory code OutOfMemory accepted refused = refl

-- the place at which something is wrong, and nothing before it
abbrev pub IsWrongAt : Code → ℕ → Type 0
IsWrongAt code at = IsSoundBefore code at × (IsSound code at → ⊥)

jump_wrong : (code : Code) (at : ℕ) → IsRefusal code (Jump at) → IsWrongAt code at
jump_wrong code at refused = (refused.0, (λ sound. refused.1 sound.jumps))

height_wrong : (code : Code) (at : ℕ) → IsRefusal code (Height at) → IsWrongAt code at
height_wrong code at refused = (refused.0, (λ sound. refused.2 sound.heights))

slot_wrong : (code : Code) (at : ℕ) → IsRefusal code (Slot at) → IsWrongAt code at
slot_wrong code at refused = (refused.0, (λ sound. refused.3 sound.slots))

same_place : (code : Code) (a b : ℕ) → IsWrongAt code a → IsWrongAt code b → a ≡ b
same_place code a b one other =
    elim (cases_lt a b) [
      | inl l ↦ absurd (one.1 (other.0 a l))
      | inr le ↦ elim (cases_lt b a) [
        | inl l ↦ absurd (other.1 (one.0 b l))
        | inr ge ↦ omega arith
      ]
    ]

jump_not_height : (code : Code) (a b : ℕ) → IsRefusal code (Jump a) → IsRefusal code (Height b) → ⊥
jump_not_height code a b one other =
    one.1 (subst (JumpsWell code.instrs.items) (sym (same_place code a b (jump_wrong code a one) (height_wrong code b other))) other.1)

jump_not_slot : (code : Code) (a b : ℕ) → IsRefusal code (Jump a) → IsRefusal code (Slot b) → ⊥
jump_not_slot code a b one other =
    one.1 (subst (JumpsWell code.instrs.items) (sym (same_place code a b (jump_wrong code a one) (slot_wrong code b other))) other.1)

height_not_slot : (code : Code) (a b : ℕ) → IsRefusal code (Height a) → IsRefusal code (Slot b) → ⊥
height_not_slot code a b one other =
    one.2 (subst (HeightsFit code.instrs.items) (sym (same_place code a b (height_wrong code a one) (slot_wrong code b other))) other.2)

wrong_has_no_end : (code : Code) (at : ℕ) → IsWrongAt code at → IsRefusal code NoEnd → ⊥
wrong_has_no_end code at wrong none = wrong.1 (none.0 at)

-- two refusals that are due are one
pub one_refusal : (code : Code) (d e : CodeError) → IsRefusal code d → IsRefusal code e → d ≢ OutOfMemory → e ≢ OutOfMemory → d ≡ e
one_refusal code (Jump a) (Jump b) one other x y = ap Jump (same_place code a b (jump_wrong code a one) (jump_wrong code b other))
one_refusal code (Jump a) (Height b) one other x y = absurd (jump_not_height code a b one other)
one_refusal code (Jump a) (Slot b) one other x y = absurd (jump_not_slot code a b one other)
one_refusal code (Jump a) NoEnd one other x y = absurd (wrong_has_no_end code a (jump_wrong code a one) other)
one_refusal code (Height a) (Jump b) one other x y = absurd (jump_not_height code b a other one)
one_refusal code (Height a) (Height b) one other x y = ap Height (same_place code a b (height_wrong code a one) (height_wrong code b other))
one_refusal code (Height a) (Slot b) one other x y = absurd (height_not_slot code a b one other)
one_refusal code (Height a) NoEnd one other x y = absurd (wrong_has_no_end code a (height_wrong code a one) other)
one_refusal code (Slot a) (Jump b) one other x y = absurd (jump_not_slot code b a other one)
one_refusal code (Slot a) (Height b) one other x y = absurd (height_not_slot code b a other one)
one_refusal code (Slot a) (Slot b) one other x y = ap Slot (same_place code a b (slot_wrong code a one) (slot_wrong code b other))
one_refusal code (Slot a) NoEnd one other x y = absurd (wrong_has_no_end code a (slot_wrong code a one) other)
one_refusal code NoEnd (Jump b) one other x y = absurd (wrong_has_no_end code b (jump_wrong code b other) one)
one_refusal code NoEnd (Height b) one other x y = absurd (wrong_has_no_end code b (height_wrong code b other) one)
one_refusal code NoEnd (Slot b) one other x y = absurd (wrong_has_no_end code b (slot_wrong code b other) one)
one_refusal code NoEnd NoEnd one other x y = refl
one_refusal code OutOfMemory e one other x y = absurd (x refl)
one_refusal code d OutOfMemory one other x y = absurd (y refl)
