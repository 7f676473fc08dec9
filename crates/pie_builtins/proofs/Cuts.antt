-- Parts of texts and of bytes.
use Rattle.std.proofs.Common.{◌≡◌, ℕ, ◌≤◌, ◌-◌, ◌+◌, List, take, drop, length, refl, ap, sym, ◌∙◌, arith, Bool, true, false, ◌&&◌}
use Rattle.std.specs.Prelude.{nat_le}
use Rattle.std.specs.Prelude.{pos}
use Rattle.std.proofs.lemmas.List.{drop-take}
use Rattle.pie_value.specs.Tree.{TText}
use Rattle.pie_value.specs.BuiltinTexts.{is_between_characters}
use Rattle.pie_value.specs.BuiltinForms.{made, cut_out}

-- what stands between two places
pub between : (s : List ℕ) (i j : ℕ) → i ≤ j → drop i (take j s) ≡ take (j - i) (drop i s)
between s i j h =
    let e : i + (j - i) ≡ j = omega arith in
    ap (λ n. drop i (take n s)) (sym e) ∙ drop-take i (j - i) s

cases_true : (a b c d e : Bool) → a ≡ true → (e && c) ≡ true → (b && d) ≡ true → (a && b && c && d) ≡ true
cases_true true true true true true p q r = refl
cases_true false b c d e p q r = cc
cases_true a b c d false p q r = cc
cases_true a b false d e p q r = cc
cases_true a false c d e p q r = cc
cases_true a b c false e p q r = cc

-- a part of a text where both places may be cut
pub cut_there : (s : List ℕ) (i j : ℕ) → i ≤ j → (nat_le i (length s) && is_between_characters s i) ≡ true
    → (nat_le j (length s) && is_between_characters s j) ≡ true
    → cut_out (λ t. TText t) (is_between_characters s) s (pos i) (pos j) ≡ made (TText (take (j - i) (drop i s)))
cut_there s i j h p q =
    let all : (nat_le i j && nat_le j (length s) && is_between_characters s i && is_between_characters s j) ≡ true =
    cases_true (nat_le i j) _ _ _ _ (grind arith) p q in
    rw all (ap (λ t. made (TText t)) (between s i j h))
