-- Stamps and rounds, seen as marks.
use Rattle.std.proofs.Common.{◌≡◌, ℕ, zero, suc, ◌<◌, ◌≤◌, true, false, List, [], ◌∷◌, length, get_or, set, map, replicate, refl, ap, inl, inr, arith, ◌==◌}
use Rattle.std.proofs.lemmas.Bool.{cases_lt}
use Rattle.std.proofs.lemmas.List.Elements.{All-head, All-tail}
use Rattle.std.proofs.Common.{ne_eqb, eq-eqb}
use Rattle.pie_graph.specs.Numbers.{AllBelow, IsMarked}
use Rattle.pie_reach.specs.inner.Walks.{unmarked}

-- stamps of earlier rounds are no marks
pub no_marks : (stamps : List ℕ) (round : ℕ) → AllBelow round stamps → map (λ stamp. stamp == round) stamps ≡ replicate (length stamps) false
no_marks [] round below = refl
no_marks (s ∷ stamps) round below =
    let old : s < round = All-head (λ n. n < round) s stamps below in
    let ne : (s == round) ≡ false = ne_eqb s round (λ e. omega (arith, e)) in
    rw ne (ap (λ rest. false ∷ rest) (no_marks stamps round (All-tail (λ n. n < round) s stamps below)))

pub unmarked-none : (count : ℕ) → unmarked (replicate count false) ≡ count
unmarked-none zero = refl
unmarked-none (suc n) = omega (arith, unmarked-none n)

pub none_marked : (count n : ℕ) → IsMarked (replicate count false) n → ⊥
none_marked zero n is = cc
none_marked (suc count) zero is = cc
none_marked (suc count) (suc n) is = none_marked count n is

pub resized_below : (bound count : ℕ) (old new : List ℕ) → 0 < bound → length new ≡ count
    → ((k d : ℕ) → k < count → k < length old → get_or new k d ≡ get_or old k d)
    → ((k d : ℕ) → length old ≤ k → k < count → get_or new k d ≡ 0) → AllBelow bound old → AllBelow bound new
resized_below bound count old new some size kept filled below k d l = elim (cases_lt k (length old)) [
  | inl there ↦ omega (arith, kept k d (omega (arith, l, size)) there, below k d there)
  | inr past ↦ omega (arith, filled k d past (omega (arith, l, size)), some)
]

pub mark_set : (round : ℕ) (stamps : List ℕ) (n : ℕ) → map (λ stamp. stamp == round) (set stamps n round) ≡ set (map (λ stamp. stamp == round) stamps) n true
mark_set round [] n = refl
mark_set round (s ∷ stamps) zero = let e : (round == round) ≡ true = eq-eqb round round refl in rw e refl
mark_set round (s ∷ stamps) (suc n) = ap (λ rest. (s == round) ∷ rest) (mark_set round stamps n)

pub none_below : (bound : ℕ) (ns : List ℕ) → ns ≡ [] → AllBelow bound ns
none_below bound ns e k d l = absurd (omega (arith, ap length e, l))
