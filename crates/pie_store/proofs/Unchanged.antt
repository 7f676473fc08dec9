-- A call that does nothing leaves what a crash may leave as it is.
use Rattle.std.proofs.Common.{ℕ, Option, Some, None, refl, arith, inl}
use Rattle.std.specs.Prelude.{IfSome}
use Rattle.pie_files.specs.Directory.{Directory}
use Rattle.pie_files.specs.Images.{MayLeave, Stays, Elapses}

pub nothing_happens : {S : Type 0} (holds : S → Option Directory) (moment : S → ℕ) (left_since : S → ℕ → Directory → Type 0)
    (images : S → Directory → Type 0) (s : S) → MayLeave holds moment left_since images Stays s s
nothing_happens holds moment left_since images s = by (holds s)
  where
    by : (o : Option Directory) → IfSome o (λ d. Elapses Stays (moment s) (moment s) (left_since s) (left_since s) (images s) (images s))
    by None = tt
    by (Some d) = record {
      follows = λ c i. (c, i, refl);
      later = omega arith;
      nothing_else = λ t c le since. inl since;
      keeps = λ t c le past. past;
    }
