-- Why a build is refused at its end, said of who wrote a path and of who saw one absent.
use Rattle.std.specs.Prelude.{◌≡◌, ◌≢◌, ℕ, true, false, List, Option, Some, None}
use Rattle.std.specs.declared.cmp.Ordering.{Ordering}
use Rattle.std.specs.Ordering.{ordering_then, is_gt}
use Rattle.pie_base.specs.Path.{is_below}
use Rattle.pie_value.specs.declared.task.Task.{Task}
use Rattle.pie_value.specs.declared.verdict.Refusal.{Refusal}
use Rattle.pie_value.specs.declared.verdict.Refusal.TheVariants.{Overlap, Nested, Hidden}
use Rattle.pie_value.specs.Canonical.{enc_task}
use Rattle.pie_value.specs.Order.{byte_order}

-- which paths belong to which tasks
abbrev pub Paths : Type 1
Paths = List ℕ → Task → Type 0

-- two tasks wrote the path
abbrev pub Overlaps : Paths → List ℕ → Task → Task → Type 0
Overlaps wrote path a b = wrote path a × wrote path b × (a ≢ b)

-- some task wrote the path
abbrev pub IsProvided : Paths → List ℕ → Type 0
IsProvided wrote path = (task : Task) × wrote path task

-- both paths are provided, and the second lies below the first
abbrev pub Nests : (List ℕ → Type 0) → List ℕ → List ℕ → Type 0
Nests provided path below = provided path × provided below × (is_below path below ≡ true)

-- a task saw the path absent, and another one wrote it
abbrev pub Hides : Paths → Paths → List ℕ → Task → Task → Type 0
Hides wrote missed path reader writer = missed path reader × wrote path writer × (reader ≢ writer)

-- the order of tasks: by their canonical bytes
abbrev pub task_order : Task → Task → Ordering
task_order a b = byte_order (enc_task a) (enc_task b)

-- the order of a path with two tasks: by the path, then by the first task, then by the second
abbrev pub place_order : List ℕ → Task → Task → List ℕ → Task → Task → Ordering
place_order p a b q c d = ordering_then (byte_order p q) (ordering_then (task_order a c) (task_order b d))

-- the order of two paths: by the first, then by the second
abbrev pub pair_order : List ℕ → List ℕ → List ℕ → List ℕ → Ordering
pair_order p q r s = ordering_then (byte_order p r) (byte_order q s)

-- the relation holds of this path and these tasks, which come after no others of which it holds
pub record IsLeastPlace (R : List ℕ → Task → Task → Type 0) (path : List ℕ) (a b : Task) : Type 0 where
  pub holds : R path a b
  pub least : (q : List ℕ) (c d : Task) → R q c d → is_gt (place_order path a b q c d) ≡ false

-- the relation holds of these paths, which come after no others of which it holds
pub record IsLeastPair (R : List ℕ → List ℕ → Type 0) (path below : List ℕ) : Type 0 where
  pub holds : R path below
  pub least : (r s : List ℕ) → R r s → is_gt (pair_order path below r s) ≡ false

-- the relation holds of no path and tasks
abbrev pub NoPlace : (List ℕ → Task → Task → Type 0) → Type 0
NoPlace R = (path : List ℕ) (a b : Task) → R path a b → ⊥

-- the relation holds of no paths
abbrev pub NoPair : (List ℕ → List ℕ → Type 0) → Type 0
NoPair R = (path below : List ℕ) → R path below → ⊥

-- the answer to whether two tasks wrote one path: the least such place
abbrev pub FindsOverlap : Paths → Option Refusal → Type 0
FindsOverlap wrote None = NoPlace (Overlaps wrote)
FindsOverlap wrote (Some (Overlap path a b)) = IsLeastPlace (Overlaps wrote) path a b
FindsOverlap wrote (Some other) = ⊥

-- the answer to whether a provided path lies below another: the least such pair
abbrev pub FindsNested : (List ℕ → Type 0) → Option Refusal → Type 0
FindsNested provided None = NoPair (Nests provided)
FindsNested provided (Some (Nested path below)) = IsLeastPair (Nests provided) path below
FindsNested provided (Some other) = ⊥

-- the answer to whether a written path was seen absent: the least such place
abbrev pub FindsHidden : Paths → Paths → Option Refusal → Type 0
FindsHidden wrote missed None = NoPlace (Hides wrote missed)
FindsHidden wrote missed (Some (Hidden path reader writer)) = IsLeastPlace (Hides wrote missed) path reader writer
FindsHidden wrote missed (Some other) = ⊥

-- the first of the three that holds, with its least place, or none where none of them holds
abbrev pub FindsFirst : Paths → Paths → Option Refusal → Type 0
FindsFirst wrote missed None = NoPlace (Overlaps wrote) × NoPair (Nests (IsProvided wrote)) × NoPlace (Hides wrote missed)
FindsFirst wrote missed (Some (Overlap path a b)) = IsLeastPlace (Overlaps wrote) path a b
FindsFirst wrote missed (Some (Nested path below)) = NoPlace (Overlaps wrote) × IsLeastPair (Nests (IsProvided wrote)) path below
FindsFirst wrote missed (Some (Hidden path reader writer)) = NoPlace (Overlaps wrote) × NoPair (Nests (IsProvided wrote)) × IsLeastPlace
    (Hides wrote missed) path reader writer
FindsFirst wrote missed (Some other) = ⊥
