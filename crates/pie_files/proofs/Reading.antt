-- Calls that change no file, alone and one after another.
use Rattle.std.proofs.Common.{◌≡◌, ℕ, Option, Some, None, sym, subst, inl, inr, ⊎_elim, arith}
use Rattle.std.specs.Prelude.{IfSome}
use Rattle.pie_files.specs.Directory.{Directory}
use Rattle.pie_files.specs.Images.{Elapses, MayLeave, Stays}
use Rattle.pie_files.specs.Reading.{Leaves, LeavesAsBefore}

pub if_always : {A : Type 0} (o : Option Directory) → A → IfSome o (λ d. A)
if_always None a = tt
if_always (Some d) a = a

pub if_each : (A B : Directory → Type 0) (o : Option Directory) → ((d : Directory) → A d → B d) → IfSome o A → IfSome o B
if_each A B None f h = tt
if_each A B (Some d) f h = f d h

pub if_two : (A B C : Directory → Type 0) (o : Option Directory) → ((d : Directory) → A d → B d → C d) → IfSome o A → IfSome o B → IfSome o C
if_two A B C None f a b = tt
if_two A B C (Some d) f a b = f d a b

module _ {S : Type 0} (moment : S → ℕ) (left_since : S → ℕ → Directory → Type 0) (images : S → Directory → Type 0) where
  pub starts : (P : Directory → Type 0) (old : S) → ((c : Directory) → images old c → P c) → Leaves moment left_since images P old old
  starts P old here = record { now = here; later = omega arith; since = λ t c le left. inl left }

  pub one_call : (P : Directory → Type 0) (step : Directory → Directory → Type 0) (old new : S) → ((b c : Directory) → step b c → P b → P c)
      → ((c : Directory) → images old c → P c)
      → Elapses step (moment old) (moment new) (left_since old) (left_since new) (images old) (images new) → Leaves moment left_since images P old new
  one_call P step old new keeps here time =
      let now : (c : Directory) → images new c → P c = λ c left. let from = time.follows c left in keeps from.0 c from.2 (here from.0 from.1) in
      record {
        now = now;
        later = time.later;
        since = λ t c le left. ⊎_elim (λ past. inl past) (λ is. inr (now c is)) (time.nothing_else t c le left);
      }

  pub in_turn : (P : Directory → Type 0) (old mid new : S) → Leaves moment left_since images P old mid → Leaves moment left_since images P mid new
      → Leaves moment left_since images P old new
  in_turn P old mid new first second = record {
    now = second.now;
    later = omega (arith, first.later, second.later);
    since = λ t c le left. ⊎_elim (first.since t c le) (λ is. inr is) (second.since t c (omega (arith, le, first.later)) left);
  }

  pub weaker : (P Q : Directory → Type 0) (old new : S) → ((c : Directory) → P c → Q c) → Leaves moment left_since images P old new
      → Leaves moment left_since images Q old new
  weaker P Q old new implies leaves = record {
    now = λ c left. implies c (leaves.now c left);
    later = leaves.later;
    since = λ t c le left. ⊎_elim (λ past. inl past) (λ is. inr (implies c is)) (leaves.since t c le left);
  }

module _ {S : Type 0} (holds : S → Option Directory) (moment : S → ℕ) (left_since : S → ℕ → Directory → Type 0) (images : S → Directory → Type 0) where
  -- no call
  pub none_before : (old : S) → LeavesAsBefore holds moment left_since images old old
  none_before old = if_always (holds old) (starts moment left_since images (images old) old (λ c is. is))

  -- one call
  pub read_before : (old new : S) → MayLeave holds moment left_since images Stays old new → LeavesAsBefore holds moment left_since images old new
  read_before old new may = if_each
      (λ d. Elapses Stays (moment old) (moment new) (left_since old) (left_since new) (images old) (images new))
      (λ d. Leaves moment left_since images (images old) old new) (holds old)
      (λ d time. one_call moment left_since images (images old) Stays old new (λ b c same is. subst (images old) (sym same) is) (λ c is. is) time) may

  -- one after another
  pub both_before : (old mid new : S) → holds mid ≡ holds old → LeavesAsBefore holds moment left_since images old mid
      → LeavesAsBefore holds moment left_since images mid new → LeavesAsBefore holds moment left_since images old new
  both_before old mid new same first second = if_two
      (λ d. Leaves moment left_since images (images old) old mid)
      (λ d. Leaves moment left_since images (images mid) mid new)
      (λ d. Leaves moment left_since images (images old) old new) (holds old)
      (λ d a b. in_turn moment left_since images (images old) old mid new a (weaker moment left_since images (images mid) (images old) mid new a.now b))
      first (subst (λ o. IfSome o (λ d. Leaves moment left_since images (images mid) mid new)) same second)

-- what the search takes for a function whose calls change no file
pub ruleset reads = (none_before, read_before, both_before)
