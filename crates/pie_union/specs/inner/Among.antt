-- Numbers in lists, and callers in lists of callers, told by a test.
use Rattle.std.specs.Prelude.{ℕ, Bool, List, [], ◌==◌, slice_index_or}
use Rattle.std.specs.List.{list_any}

-- whether a number stands in a list
abbrev pub among : List ℕ → ℕ → Bool
among ns k = list_any (λ n. n == k) ns

-- whether one task is told among the callers of another
abbrev pub calls : List (List ℕ) → ℕ → ℕ → Bool
calls lists caller callee = among (slice_index_or lists callee []) caller
