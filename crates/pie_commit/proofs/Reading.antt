-- Calls that change no file, before a commit.
use Rattle.std.proofs.Common.{◌≡◌, ℕ, Option, sym, subst}
use Rattle.std.specs.Prelude.{IfSome}
use Rattle.pie_files.specs.Directory.{Directory}
use Rattle.pie_files.specs.Images.{Only}
use Rattle.pie_files.specs.Reading.{Leaves, LeavesAsBefore}
use Rattle.pie_files.proofs.Reading.{in_turn, weaker, if_two, if_each}
use Rattle.pie_commit.specs.Outcomes.{LeavesFromRest}

module _ {S : Type 0} (holds : S → Option Directory) (moment : S → ℕ) (left_since : S → ℕ → Directory → Type 0) (images : S → Directory → Type 0) where
  -- from rest a crash leaves what is there
  pub before_rest : (P : Directory → Directory → Type 0) → ((d : Directory) → P d d) → (old new : S) → LeavesAsBefore holds moment left_since images old new
      → LeavesFromRest holds moment left_since images P old new
  before_rest P at_first old new leaves = if_each
      (λ d. Leaves moment left_since images (images old) old new)
      (λ d. Only d (images old) → Leaves moment left_since images (P d) old new) (holds old)
      (λ d a only. weaker moment left_since images (images old) (P d) old new (λ c is. subst (P d) (sym (only c is)) (at_first d)) a) leaves

  -- before calls that may change files
  pub then_rest : (P : Directory → Directory → Type 0) → ((d : Directory) → P d d) → (old mid new : S) → holds mid ≡ holds old
      → LeavesAsBefore holds moment left_since images old mid → LeavesFromRest holds moment left_since images P mid new
      → LeavesFromRest holds moment left_since images P old new
  then_rest P at_first old mid new same first second = if_two
      (λ d. Leaves moment left_since images (images old) old mid)
      (λ d. Only d (images mid) → Leaves moment left_since images (P d) mid new)
      (λ d. Only d (images old) → Leaves moment left_since images (P d) old new) (holds old)
      (λ d a b only. in_turn moment left_since images (P d) old mid new
      (weaker moment left_since images (images old) (P d) old mid (λ c is. subst (P d) (sym (only c is)) (at_first d)) a)
      (b (λ c is. only c (a.now c is))))
      first (subst (λ o. IfSome o (λ d. Only d (images mid) → Leaves moment left_since images (P d) mid new)) same second)

  -- what holds from rest after them holds from rest before them
  pub still_rest : (Q : Directory → Type 0) (old mid : S) → holds mid ≡ holds old → LeavesAsBefore holds moment left_since images old mid
      → IfSome (holds mid) (λ d. Only d (images mid) → Q d) → IfSome (holds old) (λ d. Only d (images old) → Q d)
  still_rest Q old mid same first second = if_two
      (λ d. Leaves moment left_since images (images old) old mid)
      (λ d. Only d (images mid) → Q d)
      (λ d. Only d (images old) → Q d) (holds old)
      (λ d a b only. b (λ c is. only c (a.now c is)))
      first (subst (λ o. IfSome o (λ d. Only d (images mid) → Q d)) same second)
