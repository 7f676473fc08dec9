-- A scan over required tasks.
use Rattle.std.proofs.Common.{◌≡◌, ℕ, ◌<◌, ◌≤◌, ◌+◌, List, length, get_or, ◌∙◌, subst, inl, inr, arith}
use Rattle.std.specs.Prelude.{slice_index}
use Rattle.std.proofs.lemmas.Bool.{cases_lt}
use Rattle.std.proofs.lemmas.List.{get_or_default, length-map}
use Rattle.std.proofs.Math.ListN as at
use Rattle.pie_graph.specs.declared.edges.TaskNo.{TaskNo}
use Rattle.pie_graph.specs.Numbers.{numbers}
use Rattle.pie_walk.specs.declared.marks.Mark.{Mark}
use Rattle.pie_walk.specs.Marks.{IsSettled}
use Rattle.pie_walk.specs.inner.Scans.{AreSettled}

pub length_numbers : (nos : List TaskNo) → length (numbers nos) ≡ length nos
length_numbers nos = length-map nos (λ (t : TaskNo). t.0)

-- the number of a task in a list
pub number_at : (nos : List TaskNo) (i : ℕ) (d : TaskNo) → i < length nos → slice_index (numbers nos) i ≡ (get_or nos i d).0
number_at nos i d l = get_or_default (numbers nos) i 0 d.0 (omega (arith, l, length_numbers nos)) ∙ at.get_or-map (λ (t : TaskNo). t.0) nos i d

-- one more is settled
pub scan_on : (needs : List ℕ) (marks : List Mark) (from at : ℕ) → AreSettled needs marks from at → IsSettled marks (slice_index needs at)
    → AreSettled needs marks from (at + 1)
scan_on needs marks from at so_far here i low high =
    elim (cases_lt i at) [
      | inl before ↦ so_far i low before
      | inr same ↦ subst (λ (j : ℕ). IsSettled marks (slice_index needs j)) (omega arith) here
    ]
