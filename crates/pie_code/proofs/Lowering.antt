-- Bounds of the places to which ways lead.
use Rattle.std.proofs.Common.{◌≡◌, ℕ, ◌+◌, ◌<◌, inl, inr, List, length, slice_index, subst, arith}
use Rattle.std.proofs.lemmas.Bool.{cases_lt}
use Rattle.pie_code.specs.declared.instr.Instr.{Instr}
use Rattle.pie_code.specs.Searches.{IsLow, AreLows}

pub low_more : (code : List Instr) (lows : List ℕ) (at : ℕ) → IsLow code lows at → ((p : ℕ) → p < at → IsLow code lows p) → (p : ℕ) → p < at + 1
    → IsLow code lows p
low_more code lows at low before p l =
    elim (cases_lt p at) [
      | inl earlier ↦ before p earlier
      | inr late ↦ subst (IsLow code lows) (omega arith) low
    ]

-- without bounds
pub zeros_low : (code : List Instr) (lows : List ℕ) → length lows ≡ length code → ((at : ℕ) → slice_index lows at ≡ 0) → AreLows code lows
zeros_low code lows sized zero = record {
  sized = sized;
  low = λ at l. record { itself = omega (arith, zero at); led = λ i to is leads inside. omega (arith, zero at) };
}
