-- Writing things one after another.
use Rattle.std.proofs.Common.{◌≡◌, ℕ, ◌+◌, ◌<◌, ◌≤◌, List, ◌++◌, length, get_or, drop, sym, ap, subst, ◌∙◌, append_assoc, arith, inl, inr}
use Rattle.std.specs.Prelude.{All}
use Rattle.std.specs.List.{flat_map}
use Rattle.std.proofs.lemmas.Bool.{cases_lt}
use Rattle.std.proofs.lemmas.List.{drop_more, get_or_default}

-- a fact holds of each element before a place
pub record AllBelow {X : Type 0} (P : X → Type 0) (xs : List X) (n : ℕ) : Type 0 where
  pub holds : (k : ℕ) (d : X) → k < n → P (get_or xs k d)

pub left_more : {X : Type 0} (bytes : X → List ℕ) (xs : List X) (i : ℕ) (x : X) → i < length xs → x ≡ get_or xs i x
    → flat_map bytes (drop i xs) ≡ bytes x ++ flat_map bytes (drop (i + 1) xs)
left_more {X} bytes xs i x h e = ap (flat_map bytes) (drop_more xs i x h) ∙ ap (λ (y : X). bytes y ++ flat_map bytes (drop (i + 1) xs)) (sym e)

pub all_more : {X : Type 0} (P : X → Type 0) (xs : List X) (i : ℕ) (x : X) → i < length xs → x ≡ get_or xs i x → P x → AllBelow P xs i
    → AllBelow P xs (i + 1)
all_more {X} P xs i x h e p a = record {
  holds = λ k d lt.
      elim (cases_lt k i) [
        | inl below ↦ a.holds k d below
        | inr above ↦
            let same : k ≡ i = omega arith in
            let y : x ≡ get_or xs k d = e ∙ get_or_default xs i x d h ∙ ap (λ (j : ℕ). get_or xs j d) (sym same) in
            subst P y p
      ];
}

pub all_done : {X : Type 0} (P : X → Type 0) (xs : List X) (i : ℕ) → length xs ≤ i → AllBelow P xs i → All P xs
all_done P xs i h a k d lt = a.holds k d (omega arith)

pub grown : {X : Type 0} (bytes : X → List ℕ) (xs : List X) (i : ℕ) (x : X) (a b c : List ℕ) → i < length xs → x ≡ get_or xs i x
    → b ≡ a ++ bytes x → a ++ flat_map bytes (drop i xs) ≡ c → b ++ flat_map bytes (drop (i + 1) xs) ≡ c
grown bytes xs i x a b c h e w inv =
    ap (λ (t : List ℕ). t ++ flat_map bytes (drop (i + 1) xs)) w
    ∙ append_assoc a (bytes x) (flat_map bytes (drop (i + 1) xs))
    ∙ ap (λ (t : List ℕ). a ++ t) (sym (left_more bytes xs i x h e)) ∙ inv
