-- Where slots are wrong, one place after another.
use Rattle.std.proofs.Common.{◌≡◌, inl, inr, ℕ, ◌+◌, ◌<◌, ◌≤◌, length, subst, arith}
use Rattle.std.proofs.lemmas.Bool.{cases_lt}
use Rattle.std.proofs.lemmas.Option.{slice_get_within}
use Rattle.pie_code.specs.declared.code.Code.{Code}
use Rattle.pie_code.specs.Checked.{SlotsFit}
use Rattle.pie_code.specs.Scans.{NamesFit}

pub slots_at : (code : Code) (at : ℕ) → (at ≡ 0 → code.params ≤ code.slots) → NamesFit code at → SlotsFit code at
slots_at code at enough names = record {
  slots = λ i is. (names i is).0;
  texts = λ i is. (names i is).1;
  params = enough;
}

pub slots_more : (code : Code) (at : ℕ) → code.params ≤ code.slots → NamesFit code at → ((place : ℕ) → place < at → SlotsFit code place)
    → (place : ℕ) → place < at + 1 → SlotsFit code place
slots_more code at enough names before place l =
    elim (cases_lt place at) [
      | inl earlier ↦ before place earlier
      | inr past ↦ subst (SlotsFit code) (omega arith) (slots_at code at (λ e. enough) names)
    ]

pub slots_all : (code : Code) (end : ℕ) → length code.instrs.items ≤ end → code.params ≤ code.slots → ((place : ℕ) → place < end → SlotsFit code place)
    → (at : ℕ) → SlotsFit code at
slots_all code end past enough before at =
    elim (cases_lt at end) [
      | inl earlier ↦ before at earlier
      | inr out ↦ slots_at code at (λ e. enough) (λ i is. let l : at < length code.instrs.items = slice_get_within code.instrs.items at i is in
          absurd (omega arith))
    ]
