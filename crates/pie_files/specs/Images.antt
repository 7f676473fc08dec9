-- What a crash may leave of a directory: its images, now and since an earlier moment.
use Rattle.std.specs.Prelude.{◌≡◌, ◌⊎◌, ◌≤◌, ℕ, List, Option, IfSome}
use Rattle.pie_files.specs.Directory.{Directory, with_file, without_file}

-- nothing happened
abbrev pub Stays : Directory → Directory → Type 0
Stays before after = after ≡ before

-- a file was set
abbrev pub Sets : List ℕ → List ℕ → ℕ → Directory → Directory → Type 0
Sets path bytes mark before after = after ≡ with_file before path bytes mark

-- a write happened or not, or left any bytes in its file
abbrev pub MayWrite : List ℕ → Directory → Directory → Type 0
MayWrite path before after = (after ≡ before) ⊎ ((bytes : List ℕ) × (mark : ℕ) × (after ≡ with_file before path bytes mark))

-- a removal happened or not
abbrev pub MayRemove : List ℕ → Directory → Directory → Type 0
MayRemove path before after = (after ≡ before) ⊎ (after ≡ without_file before path)

-- a crash leaves this directory and nothing else
abbrev pub Only : Directory → (Directory → Type 0) → Type 0
Only d images = (c : Directory) → images c → c ≡ d

-- each image is an earlier one after a step
abbrev pub Follows : (Directory → Directory → Type 0) → (Directory → Type 0) → (Directory → Type 0) → Type 0
Follows step earlier images = (c : Directory) → images c → (d : Directory) × earlier d × step d c

-- what a crash may leave goes on by a step, and since an earlier moment it left nothing but what it might have left before and what it may leave now
pub record Elapses (step : Directory → Directory → Type 0) (before now : ℕ) (past since : ℕ → Directory → Type 0)
    (earlier images : Directory → Type 0) : Type 0 where
  pub follows : Follows step earlier images
  pub later : before ≤ now
  pub nothing_else : (t : ℕ) (c : Directory) → t ≤ before → since t c → past t c ⊎ images c
  pub keeps : (t : ℕ) (c : Directory) → t ≤ before → past t c → since t c

-- the same of a call on files that tell their directory
abbrev pub MayLeave : {S : Type 0} → (S → Option Directory) → (S → ℕ) → (S → ℕ → Directory → Type 0) → (S → Directory → Type 0)
    → (Directory → Directory → Type 0) → S → S → Type 0
MayLeave holds moment left_since images step old new =
    IfSome (holds old) (λ d. Elapses step (moment old) (moment new) (left_since old) (left_since new) (images old) (images new))

-- a crash at any moment since old leaves a directory that has P
pub record LeavesOnly {S : Type 0} (moment : S → ℕ) (left_since : S → ℕ → Directory → Type 0) (old new : S) (P : Directory → Type 0) : Type 0 where
  pub later : moment old ≤ moment new
  pub each : (c : Directory) → left_since new (moment old) c → P c
  -- for a run that began earlier
  pub before : (t : ℕ) (c : Directory) → t ≤ moment old → left_since new t c → left_since old t c ⊎ P c
