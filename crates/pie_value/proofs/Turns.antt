-- Reading values one after another.
use Rattle.std.proofs.Common.{◌≡◌, ℕ, zero, suc, ◌+◌, ◌-◌, ◌<◌, List, [], ◌∷◌, ◌++◌, Ok, Err, refl, ap, ◌∙◌, arith}
use Rattle.pie_value.specs.declared.value_fault.ValueFault.{ValueFault}
use Rattle.pie_value.specs.declared.reader.Tag.{Tag}
use Rattle.pie_value.specs.Tree.{Tree}
use Rattle.pie_value.specs.Reading.{Parsed, then_on, tag_of, tagged, values_of, value_within}

left_is : (n i : ℕ) → i < n → n - i ≡ suc (n - (i + 1))
left_is n i h = omega arith

-- a value more
pub one_more : (value : List ℕ → Parsed Tree) (n i : ℕ) (ts : List Tree) (bs : List ℕ) (t : Tree) (rest : List ℕ) → i < n
    → value bs ≡ Ok (t, rest) → values_of value (n - i) ts bs ≡ values_of value (n - (i + 1)) (ts ++ t ∷ []) rest
one_more value n i ts bs t rest h e =
    ap (λ (k : ℕ). values_of value k ts bs) (left_is n i h)
    ∙ ap (λ (p : Parsed Tree). then_on p (λ u after. values_of value (n - (i + 1)) (ts ++ u ∷ []) after)) e

-- a value that can't be read
pub one_fails : (value : List ℕ → Parsed Tree) (n i : ℕ) (ts : List Tree) (bs : List ℕ) (d : ValueFault) → i < n
    → value bs ≡ Err d → values_of value (n - i) ts bs ≡ Err d
one_fails value n i ts bs d h e =
    ap (λ (k : ℕ). values_of value k ts bs) (left_is n i h)
    ∙ ap (λ (p : Parsed Tree). then_on p (λ u after. values_of value (n - (i + 1)) (ts ++ u ∷ []) after)) e

-- a value that may have items
pub value_goes : (d : ℕ) (bs : List ℕ) (tag : Tag) (rest : List ℕ) → (d ≡ 0 → ⊥) → tag_of bs ≡ Ok (tag, rest)
    → value_within d bs ≡ tagged (value_within (d - 1)) tag rest
value_goes zero bs tag rest h e = absurd (h refl)
value_goes (suc d) bs tag rest h e =
    let p : d ≡ suc d - 1 = omega arith in
    ap (λ (q : Parsed Tag). then_on q (tagged (value_within d))) e ∙ ap (λ (k : ℕ). tagged (value_within k) tag rest) p
