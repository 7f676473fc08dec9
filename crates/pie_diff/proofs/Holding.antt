-- What is held already stays.
use Rattle.std.proofs.Common.{◌≡◌, ◌&&◌, ℕ, Bool, true, false, cond, List, Option, Some, None, is_some, refl, subst}
use Rattle.std.proofs.lemmas.Bool.{false≢true}
use Rattle.std.specs.Ordering.{nat_cmp, is_eq}
use Rattle.std.specs.Cmp.Lexicographic.{slice_cmp}
use Rattle.std.proofs.lemmas.Map.Lookups.{exact_bytes}
use Rattle.std.proofs.lemmas.Map.Views.{tells_apart}
use Rattle.pie_base.specs.Path.{is_out}
use Rattle.pie_diff.specs.Hashes.{held_at}
use Rattle.pie_diff.specs.inner.Held.{first, SetsOut}

first_of : (o : Option (List ℕ)) (hash : List ℕ) → is_some o ≡ true → o ≡ first o hash
first_of None hash there = absurd (false≢true there)
first_of (Some h) hash there = refl

pub stays : (held : List (List ℕ × List ℕ)) (path hash : List ℕ) → is_some (held_at held path) ≡ true → SetsOut held held path (first (held_at held path) hash)
stays held path hash there q = by (is_out path) (is_eq (slice_cmp nat_cmp path q)) refl
  where
    by : (t s : Bool) → is_eq (slice_cmp nat_cmp path q) ≡ s → held_at held q ≡ cond (t && s) (first (held_at held path) hash) (held_at held q)
    by true true e =
        subst (λ p. held_at held p ≡ first (held_at held path) hash) (tells_apart exact_bytes path q e) (first_of (held_at held path) hash there)
    by true false e = refl
    by false s e = refl
