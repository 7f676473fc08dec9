-- What is said of one answer alone.
use Rattle.std.specs.Prelude.{◌≡◌}

-- this holds of the answer, and of no other
pub record IsOnly {A : Type 0} (P : A → Type 0) (x : A) : Type 0 where
  pub holds : P x
  pub only : (y : A) → P y → y ≡ x
