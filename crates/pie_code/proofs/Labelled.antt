-- Code whose places are labelled with heights, as a compiler labels them, has right heights.
use Rattle.std.proofs.Common.{◌≡◌, ℕ, ◌<◌, List, length, Some, slice_get, sym, ap, ◌∙◌, subst}
use Rattle.std.proofs.lemmas.Option.{slice_get_within}
use Rattle.pie_code.specs.declared.instr.Instr.{Instr}
use Rattle.pie_code.specs.Ways.{Leads, Fits, Reaches, after}
use Rattle.pie_code.specs.Ways.Reaches.{begin, step}
use Rattle.pie_code.specs.Checked.{HeightsFit}

-- labels that each instruction hands on, and that give each its operands
pub record AreLabels (code : List Instr) (label : ℕ → ℕ) : Type 0 where
  pub starts : label 0 ≡ 0
  pub handed_on : (at to : ℕ) (i : Instr) → slice_get code at ≡ Some i → Leads at i to → label to ≡ after i (label at)
  pub fits : (at : ℕ) (i : Instr) → slice_get code at ≡ Some i → Fits i (label at)

-- all ways have the height of the label
pub label_is : (code : List Instr) (label : ℕ → ℕ) → AreLabels code label → (at height : ℕ) → Reaches code at height → height ≡ label at
label_is code label labels at height begin = sym labels.starts
label_is code label labels at height (step {at = from} {height = low} {to = to} {i = i} way is le leads) =
    ap (after i) (label_is code label labels from low way) ∙ sym (labels.handed_on from to i is leads)

-- where a way comes to each instruction, heights are right
pub labelled_fit : (code : List Instr) (label : ℕ → ℕ) → AreLabels code label → ((at : ℕ) → at < length code → Reaches code at (label at)) → (at : ℕ)
    → HeightsFit code at
labelled_fit code label labels reached at = record {
  one = λ l m n way other. label_is code label labels at m way ∙ sym (label_is code label labels at n other);
  reached = λ i n is way. subst (Fits i) (sym (label_is code label labels at n way)) (labels.fits at i is);
  alone = λ i is none. absurd (none (label at) (reached at (slice_get_within code at i is)));
}
