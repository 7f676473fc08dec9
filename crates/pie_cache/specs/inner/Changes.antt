-- What calls leave that change no file outside the cache, at their end and at each moment.
use Rattle.std.specs.Prelude.{◌≡◌, ℕ, false, List, Option, Some, IfSome}
use Rattle.pie_commit.specs.Outcomes.{IsAtRest}
use Rattle.pie_files.specs.Directory.{Directory, file_at}
use Rattle.pie_files.specs.Images.{Only}
use Rattle.pie_files.specs.Reading.{Leaves}
use Rattle.pie_cache.specs.inner.Places.{is_in_cache}

-- outside the cache two directories have the same files
abbrev pub AlikeOutside : Directory → Directory → Type 0
AlikeOutside before after = (q : List ℕ) → is_in_cache q ≡ false → file_at after q ≡ file_at before q

-- where the directory is told, it is told still, and every file outside the cache is as it was
abbrev pub KeepsOutside : Option Directory → Option Directory → Type 0
KeepsOutside before after = IfSome before (λ d. (e : Directory) × (after ≡ Some e) × AlikeOutside d e)

-- a directory that has the same files outside the cache as one of these
abbrev pub IsAlikeOneOf : (Directory → Type 0) → Directory → Type 0
IsAlikeOneOf images c = (b : Directory) × images b × AlikeOutside b c

-- a crash leaves nothing else outside the cache than it might have left before
abbrev pub LeavesAlike : {S : Type 0} → (S → Option Directory) → (S → ℕ) → (S → ℕ → Directory → Type 0) → (S → Directory → Type 0) → S → S → Type 0
LeavesAlike holds moment left_since images old new = IfSome (holds old) (λ d. Leaves moment left_since images (IsAlikeOneOf (images old)) old new)

-- where nothing was pending, nothing is
abbrev pub StaysAtRest : {S : Type 0} → (S → Option Directory) → (S → Directory → Type 0) → S → S → Type 0
StaysAtRest holds images old new = IfSome (holds old) (λ d. Only d (images old) → IsAtRest (holds new) (images new))

-- nothing is pending
abbrev pub EndsAtRest : {S : Type 0} → (S → Option Directory) → (S → Directory → Type 0) → S → S → Type 0
EndsAtRest holds images old new = IfSome (holds old) (λ d. IsAtRest (holds new) (images new))

-- whatever was answered, calls changed files of the cache alone, at their end and at each moment
pub record ChangesCacheOnly {S : Type 0} (holds : S → Option Directory) (moment : S → ℕ) (left_since : S → ℕ → Directory → Type 0)
    (images : S → Directory → Type 0) (old new : S) : Type 0 where
  pub kept : KeepsOutside (holds old) (holds new)
  pub crash : LeavesAlike holds moment left_since images old new
