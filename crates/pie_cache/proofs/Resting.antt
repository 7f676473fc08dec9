-- Nothing is pending once the cache was opened, or something was kept.
use Rattle.std.proofs.Common.{◌≡◌, ◌∙◌, ℕ, refl, subst}
use Rattle.std.specs.Prelude.{Option, None, Some, Result, Ok, Err, IfSome, OnOk}
use Rattle.pie_commit.proofs.Standing.{Told}
use Rattle.pie_commit.specs.Outcomes.{IsAtRest}
use Rattle.pie_files.proofs.Reading.{if_each}
use Rattle.pie_files.specs.Directory.{Directory}
use Rattle.pie_files.specs.Images.{Elapses, MayLeave, Only, Stays}
use Rattle.pie_files.specs.declared.files.FilesError.{FilesError}
use Rattle.pie_cache.specs.inner.Changes.{EndsAtRest, StaysAtRest}

-- from a directory that is told to one before it
pub rests_from : (A : Type 0) (o m : Option Directory) (result : Result (Unit {0}) FilesError) → Told o m → OnOk result (IfSome m (λ d. A))
    → OnOk result (IfSome o (λ d. A))
rests_from A None m (Ok u) told h = tt
rests_from A (Some d) m (Ok u) told h = subst (λ x. IfSome x (λ e. A)) told.1 h
rests_from A o m (Err e) told h = tt

module _ {S : Type 0} (holds : S → Option Directory) (moment : S → ℕ) (left_since : S → ℕ → Directory → Type 0) (images : S → Directory → Type 0) where
  -- no call
  pub rests_none : (old : S) → StaysAtRest holds images old old
  rests_none old = by (holds old) refl
    where
      by : (o : Option Directory) → holds old ≡ o → IfSome o (λ d. Only d (images old) → IsAtRest (holds old) (images old))
      by None told = tt
      by (Some d) told = λ only. (d, told, only)

  -- it was looked
  pub rests_looked : (old new : S) → holds new ≡ holds old → MayLeave holds moment left_since images Stays old new → StaysAtRest holds images old new
  rests_looked old new same may = by (holds old) same may
    where
      by : (o : Option Directory) → holds new ≡ o
          → IfSome o (λ d. Elapses Stays (moment old) (moment new) (left_since old) (left_since new) (images old) (images new))
          → IfSome o (λ d. Only d (images old) → IsAtRest (holds new) (images new))
      by None told time = tt
      by (Some d) told time = λ only. (d, told, λ c left. let from = time.follows c left in from.2 ∙ only from.0 from.1)

  -- it was looked, and then all was made last
  pub rests_then : (old mid new : S) (result : Result (Unit {0}) FilesError) → holds mid ≡ holds old → OnOk result (EndsAtRest holds images mid new)
      → OnOk result (StaysAtRest holds images old new)
  rests_then old mid new (Err e) same rest = tt
  rests_then old mid new (Ok u) same rest =
      if_each (λ d. IsAtRest (holds new) (images new)) (λ d. Only d (images old) → IsAtRest (holds new) (images new)) (holds old) (λ d is only. is)
      (subst (λ o. IfSome o (λ d. IsAtRest (holds new) (images new))) same rest)
