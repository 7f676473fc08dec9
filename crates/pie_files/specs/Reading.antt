-- What calls that only read leave, at their end and at each moment.
use Rattle.std.specs.Prelude.{◌≡◌, ◌⊎◌, ◌≤◌, ℕ, Option, Result, IfSome}
use Rattle.pie_files.specs.declared.files.FilesError.{FilesError}
use Rattle.pie_files.specs.declared.files.FilesError.TheVariants.{Failed}
use Rattle.pie_files.specs.Directory.{Directory}
use Rattle.pie_files.specs.Streams.{Counted}

-- a crash now, or at a moment since old, leaves only what has P, or what was left before
pub record Leaves {S : Type 0} (moment : S → ℕ) (left_since : S → ℕ → Directory → Type 0) (images : S → Directory → Type 0)
    (P : Directory → Type 0) (old new : S) : Type 0 where
  pub now : (c : Directory) → images new c → P c
  pub later : moment old ≤ moment new
  pub since : (t : ℕ) (c : Directory) → t ≤ moment old → left_since new t c → left_since old t c ⊎ P c

-- a crash leaves only what it might have left before
abbrev pub LeavesAsBefore : {S : Type 0} → (S → Option Directory) → (S → ℕ) → (S → ℕ → Directory → Type 0) → (S → Directory → Type 0) → S → S → Type 0
LeavesAsBefore holds moment left_since images old new = IfSome (holds old) (λ d. Leaves moment left_since images (images old) old new)

-- calls that only read: the files are as before, a crash leaves nothing new, and the count of faults tells exactly whether one failed
pub record ReadsOnly {S T : Type 0} (holds : S → Option Directory) (moment : S → ℕ) (left_since : S → ℕ → Directory → Type 0)
    (images : S → Directory → Type 0) (faults : S → ℕ) (old new : S) (result : Result T FilesError) : Type 0 where
  pub same : holds new ≡ holds old
  pub crash : LeavesAsBefore holds moment left_since images old new
  pub counted : Counted faults Failed old new result
