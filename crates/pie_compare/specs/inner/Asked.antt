-- Which paths are asked for where a record is held against what changed.
use Rattle.std.specs.Prelude.{◌≡◌, ◌⊎◌, ℕ, List}
use Rattle.pie_record.specs.declared.dep.Dep.{Dep}
use Rattle.pie_record.specs.declared.dep.DepOn.TheVariants.{File}
use Rattle.pie_record.specs.declared.task_record.TaskRecord.{TaskRecord}
use Rattle.pie_named.specs.declared.named.Named.{Named}
use Rattle.pie_named.specs.Asking.{IsNamedOrAbove}
use Rattle.pie_compare.specs.inner.Touching.{SomeOf}

-- one of these observations is of a path
abbrev pub IsObservedIn : List Dep → List ℕ → Type 0
IsObservedIn deps p = SomeOf (λ (dep : Dep). dep.what ≡ File p) deps

-- one of these writes is of a path
abbrev pub IsWrittenIn : List (List ℕ × List ℕ) → List ℕ → Type 0
IsWrittenIn writes p = SomeOf (λ (w : List ℕ × List ℕ). p ≡ w.0) writes

-- a record observed a path, or wrote it
abbrev pub IsOfRecord : TaskRecord → List ℕ → Type 0
IsOfRecord rec p = IsObservedIn rec.deps p ⊎ IsWrittenIn rec.writes p

-- a path is of this kind, and named or above a name
pub record MayAskOf (n : Named) (Of : List ℕ → Type 0) (p : List ℕ) : Type 0 where
  pub named : IsNamedOrAbove n p
  pub of : Of p
