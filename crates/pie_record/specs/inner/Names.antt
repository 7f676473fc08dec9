-- Numbers for tasks.
use Rattle.std.specs.Prelude.{◌≡◌, ◌≢◌, ℕ, ◌<◌, ◌≤◌, ◌^◌, List, length, map, All, Contains, Option, Some, None, Vec, slice_get, slice_index_or}
use Rattle.std.specs.List.{AllPairs}
use Rattle.pie_graph.specs.declared.edges.TaskNo.{TaskNo}
use Rattle.pie_value.specs.declared.task.Task.{Task}
use Rattle.pie_value.specs.Canonical.{enc_task, IsCanonicalTask}

-- an answer is the place of a task among some, or none where it isn't among them
abbrev pub Numbers : List Task → Task → Option TaskNo → Type 0
Numbers tasks task None = ¬ (Contains tasks task)
Numbers tasks task (Some number) = slice_get tasks number.0 ≡ Some task

-- no task comes twice
abbrev pub AreDistinct : List Task → Type 0
AreDistinct tasks = AllPairs (λ t u. t ≢ u) tasks

-- no key has these bytes
pub record IsFree {Z : Type 0} (keys : List (Vec ℕ Z)) (bytes : List ℕ) : Type 0 where
  pub apart : (i : ℕ) (d : Vec ℕ Z) → i < length keys → (slice_index_or keys i d).items ≢ bytes

-- an answer is the place of the key that has these bytes, or none where no key has them
abbrev pub IsPlace : {Z : Type 0} → List (Vec ℕ Z) → List ℕ → Option ℕ → Type 0
IsPlace keys bytes None = IsFree keys bytes
IsPlace {Z} keys bytes (Some i) = (i < length keys) × ((d : Vec ℕ Z) → (slice_index_or keys i d).items ≡ bytes)

-- the key that stands there has these bytes
abbrev pub IsKeyAt : {Z : Type 0} → List (Vec ℕ Z) → ℕ → List ℕ → Type 0
IsKeyAt {Z} keys i bytes = (d : Vec ℕ Z) → (slice_index_or keys i d).items ≡ bytes

-- the keys are the canonical bytes of the tasks, in the same order, and no task comes twice
pub record AreNamed {Z : Type 0} (keys : List (Vec ℕ Z)) (tasks : List Task) : Type 0 where
  pub same : map (λ (k : Vec ℕ Z). k.items) keys ≡ map enc_task tasks
  pub canonical : All (λ t. IsCanonicalTask t (enc_task t)) tasks
  pub distinct : AreDistinct tasks
  pub few : length tasks ≤ 2 ^ 32
