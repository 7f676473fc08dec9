-- What is read inside a bracket or a condition, as an expression of its own.
use Rattle.std.proofs.Common.{◌≡◌, ℕ, ◌-◌, ◌<◌, zero, suc, Bool, true, false, refl, ap, ◌∙◌, arith}
use Rattle.pie_parser.specs.declared.reader.Room.{Room}
use Rattle.pie_parser.specs.At.{At}
use Rattle.pie_parser.specs.ExprReading.{expr, around, expr_at, inner_at, test_at}
use Rattle.pie_parser.specs.TypeReading.{written_type, type_at, inner_type}

abbrev pub room_of : ℕ → ℕ → Bool → Room
room_of d c r = record { brackets = d; conditions = c; in_read = r }

expr_is : (d c : ℕ) (r : Bool) (s : At) → expr_at d c r s ≡ expr (around (room_of d c r)) s
expr_is zero zero r s = refl
expr_is zero (suc c) r s = refl
expr_is (suc d) zero r s = refl
expr_is (suc d) (suc c) r s = refl

pub inner_is : (b c : ℕ) (r : Bool) (s : At) → 0 < b → inner_at b c r s ≡ expr (around (room_of (b - 1) c r)) s
inner_is zero c r s h = absurd (omega arith)
inner_is (suc d) c r s h = let e : d ≡ suc d - 1 = omega arith in expr_is d c r s ∙ ap (λ k. expr (around (room_of k c r)) s) e

pub test_is : (d b : ℕ) (s : At) → 0 < b → test_at d b s ≡ expr (around (room_of d (b - 1) false)) s
test_is d zero s h = absurd (omega arith)
test_is d (suc c) s h = let e : c ≡ suc c - 1 = omega arith in expr_is d c false s ∙ ap (λ k. expr (around (room_of d k false)) s) e

type_is : (d : ℕ) (s : At) → type_at d s ≡ written_type d (inner_type d) s
type_is zero s = refl
type_is (suc d) s = refl

pub inner_type_is : (b : ℕ) (s : At) → 0 < b → inner_type b s ≡ written_type (b - 1) (inner_type (b - 1)) s
inner_type_is zero s h = absurd (omega arith)
inner_type_is (suc d) s h = let e : d ≡ suc d - 1 = omega arith in type_is d s ∙ ap (λ k. written_type k (inner_type k) s) e
