-- The tasks of the language by their canonical bytes.
use Rattle.std.specs.Prelude.{◌≡◌, ◌↔◌, ℕ, ◌+◌, true, false, cond, List, [], ◌∷◌, ◌++◌, map, All, Contains, bytes_eq}
use Rattle.pie_value.specs.declared.task.Task.{Task}
use Rattle.pie_value.specs.Canonical.{enc_task, IsCanonicalTask}
use Rattle.pie_record.specs.inner.Names.{AreDistinct}
use Rattle.pie_record.specs.declared.dep.Dep.{Dep}
use Rattle.pie_record.specs.declared.dep.DepOn.{DepOn}
use Rattle.pie_record.specs.declared.dep.DepOn.TheVariants.{File, Called}
use Rattle.pie_model.specs.Paths.{among}
use Rattle.pie_model.specs.Records.{needs_of}
use Rattle.pie_model.specs.Running.{IsDistinct}
use Rattle.pie_model_pipeline.specs.Rows.{observation_of}

-- no task comes twice, and each has canonical bytes
pub record AreTasks (names : List Task) : Type 0 where
  pub distinct : AreDistinct names
  pub canonical : All (λ t. IsCanonicalTask t (enc_task t)) names

-- what stands under the number of the first of these tasks that has such canonical bytes, and else this
abbrev pub under_name : {A : Type 0} → A → (ℕ → A) → ℕ → List Task → List ℕ → A
under_name none at n [] x = none
under_name none at n (t ∷ ts) x = cond (bytes_eq x (enc_task t)) (at n) (under_name none at (n + 1) ts x)

-- a task is one of these where its canonical bytes are among theirs
abbrev pub NamesAreAmong : Type 0
NamesAreAmong =
    (names : List Task) (t : Task) → AreTasks names → IsCanonicalTask t (enc_task t) → (among (enc_task t) (map enc_task names) ≡ true) ↔ Contains names t

-- and is none of them where they aren't
abbrev pub OtherNamesAreNot : Type 0
OtherNamesAreNot =
    (names : List Task) (t : Task) → AreTasks names → IsCanonicalTask t (enc_task t)
    → (among (enc_task t) (map enc_task names) ≡ false) ↔ (Contains names t → ⊥)

-- their canonical bytes are distinct
abbrev pub NamesAreDistinct : Type 0
NamesAreDistinct = (names : List Task) → AreTasks names → IsDistinct (map enc_task names)

-- the task that was observed
abbrev pub called_on : DepOn → List Task
called_on (File path) = []
called_on (Called t) = t ∷ []

-- the tasks that observations require, in order, repeats included
abbrev pub called_in : List Dep → List Task
called_in [] = []
called_in (d ∷ ds) = called_on d.what ++ called_in ds

-- are those that the model requires
abbrev pub NeedsAreCalled : Type 0
NeedsAreCalled = (deps : List Dep) → needs_of (map observation_of deps) ≡ map enc_task (called_in deps)
