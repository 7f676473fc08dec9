-- Texts that begin with a place.
use Rattle.std.proofs.Common.{ℕ, List, ◌++◌, ap, ◌∙◌, append_assoc}
use Rattle.pie_explain.specs.Places.{BeginsWith}

-- what is put behind a text leaves its beginning
pub more : (front bytes added : List ℕ) → BeginsWith front bytes → BeginsWith front (bytes ++ added)
more front bytes added b = (b.0 ++ added, ap (λ (l : List ℕ). l ++ added) b.1 ∙ append_assoc front b.0 added)
