-- Whether a path stands in a list.
use Rattle.std.specs.Prelude.{ℕ, Bool, List}
use Rattle.std.specs.Ordering.{is_eq}
use Rattle.std.specs.List.{list_any}
use Rattle.pie_reach.specs.Plan.{path_cmp}

-- whether a path stands in a list
abbrev pub listed : List ℕ → List (List ℕ) → Bool
listed path paths = list_any (λ p. is_eq (path_cmp path p)) paths
