-- What a commit leaves, at its end and at each moment.
use Rattle.std.specs.Prelude.{◌≡◌, ◌⊎◌, ℕ, false, List, Option, Some, IfSome}
use Rattle.pie_base.specs.Path.{same_text}
use Rattle.pie_files.specs.Directory.{Directory, file_at, without_file}
use Rattle.pie_files.specs.Images.{Only}
use Rattle.pie_files.specs.Reading.{Leaves}
use Rattle.pie_commit.specs.declared.plan.Plan.{Plan}
use Rattle.pie_commit.specs.inner.Plans.{Wanted, Meets, Brings, wanted_by, is_own}

-- where the directory is observable, it is told still, and each path has what was wanted
abbrev pub HasBrought : (List ℕ → Wanted) → Option Directory → Option Directory → Type 0
HasBrought wants before after = IfSome before (λ d. (e : Directory) × (after ≡ Some e) × Brings wants d e)

-- where the directory is observable, it is told still, and every path that isn't the plan's own is as it was
pub record KeepsOthers (p : Plan) (before after : Option Directory) : Type 0 where
  pub kept : IfSome before (λ d. (e : Directory) × (after ≡ Some e) × ((q : List ℕ) → is_own p q ≡ false → file_at e q ≡ file_at d q))

-- there is a file at this path
abbrev pub HasFile : Directory → List ℕ → Type 0
HasFile d path = (file : List ℕ × ℕ) × (file_at d path ≡ Some file)

-- the marker stands, and every path that isn't the plan's own is as before
pub record Underway (p : Plan) (before c : Directory) : Type 0 where
  pub marked : HasFile c p.marker
  pub others : (q : List ℕ) → is_own p q ≡ false → file_at c q ≡ file_at before q

-- the plan is done, with or without the marker
abbrev pub IsDone : Plan → Directory → Directory → Type 0
IsDone p before c = (q : List ℕ) → same_text q p.marker ≡ false → Meets (wanted_by p q) (file_at before q) (file_at c q)

-- a commit is under way, hasn't begun, or is done
abbrev pub IsOfThree : Plan → Directory → Directory → Type 0
IsOfThree p before c = Underway p before c ⊎ ((c ≡ before) ⊎ IsDone p before c)

-- in every image a commit is under way
abbrev pub Stands : Plan → Directory → (Directory → Type 0) → Type 0
Stands p before images = (c : Directory) → images c → Underway p before c

-- in every image the plan is done
abbrev pub AllDone : Plan → Directory → (Directory → Type 0) → Type 0
AllDone p before images = (c : Directory) → images c → IsDone p before c

-- what a call that failed leaves: the marker stands in every image unless nothing else changed, or the plan is done in every image
abbrev pub LeavesMarked : Plan → Directory → (Directory → Type 0) → Type 0
LeavesMarked p before images = ((c : Directory) → images c → HasFile c p.marker ⊎ (c ≡ before)) ⊎ AllDone p before images

-- before the first change: a commit is under way or hasn't begun
abbrev pub IsEarly : Plan → Directory → Directory → Type 0
IsEarly p before c = Underway p before c ⊎ (c ≡ before)

-- after the last change: as it was then, with or without this file
abbrev pub IsEnding : List ℕ → Directory → Directory → Type 0
IsEnding path before c = (c ≡ before) ⊎ (c ≡ without_file before path)

-- while a commit is under way in every image, a crash leaves nothing else
abbrev pub KeepsMarked : {S : Type 0} → (S → Option Directory) → (S → ℕ) → (S → ℕ → Directory → Type 0) → (S → Directory → Type 0)
    → Plan → S → S → Type 0
KeepsMarked holds moment left_since images p old new = IfSome (holds old) (λ e. (d : Directory) → Stands p d (images old)
    → Leaves moment left_since images (Underway p d) old new)

-- nothing is pending: a crash leaves what is there
abbrev pub IsAtRest : Option Directory → (Directory → Type 0) → Type 0
IsAtRest holds images = (e : Directory) × (holds ≡ Some e) × Only e images

-- where nothing was pending, a crash leaves only what has P
abbrev pub LeavesFromRest : {S : Type 0} → (S → Option Directory) → (S → ℕ) → (S → ℕ → Directory → Type 0) → (S → Directory → Type 0)
    → (Directory → Directory → Type 0) → S → S → Type 0
LeavesFromRest holds moment left_since images P old new = IfSome (holds old) (λ d. Only d (images old)
    → Leaves moment left_since images (P d) old new)
