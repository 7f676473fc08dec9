-- Heights of tasks by their canonical bytes, and what a walk over records says of them.
use Rattle.std.specs.Prelude.{◌≡◌, ℕ, ◌-◌, ◌==◌, Bool, true, ◌&&◌, ◌||◌, List, [], ◌∷◌, ◌++◌, length, map, cond, nat_lt, Option, Some, None, Vec}
use Rattle.std.specs.Prelude.{All, slice_get}
use Rattle.std.specs.declared.alloc.Global.{Global}
use Rattle.std.specs.Ordering.{is_lt}
use Rattle.std.specs.Str.{bytes_eq}
use Rattle.pie_value.specs.declared.task.Task.{Task}
use Rattle.pie_value.specs.Canonical.{enc_task}
use Rattle.pie_value.specs.Order.{byte_order}
use Rattle.pie_record.specs.declared.task_record.TaskRecord.{TaskRecord}
use Rattle.pie_store.specs.Canonical.{tasks_in, AreInOrder}
use Rattle.pie_store.specs.Ranks.{Ranked, rank_in, height_after, IsStored}
use Rattle.pie_store.specs.inner.Reading.{rows_of}
use Rattle.pie_storable.specs.declared.heights.Heights.{Heights}

-- canonical bytes with heights
abbrev pub Placed : Type 0
Placed = List (List ℕ × ℕ)

-- an entry, by its contents
abbrev pub entry : Vec ℕ Global × ℕ → List ℕ × ℕ
entry e = (e.0.items, e.1)

-- the canonical bytes and the heights that are kept
abbrev pub heights_in : Heights → Placed
heights_in h = map entry h.by_bytes.entries

-- the height of the task with some canonical bytes, if there is one
abbrev pub height_of : Placed → List ℕ → Option ℕ
height_of [] bytes = None
height_of (e ∷ places) bytes = cond (bytes_eq e.0 bytes) (Some e.1) (height_of places bytes)

-- bytes at a height come before others at another: a lower height does, and at one height the bytes decide
abbrev pub is_below : List ℕ × ℕ → List ℕ → ℕ → Bool
is_below e bytes height = nat_lt e.1 height || (e.1 == height && is_lt (byte_order e.0 bytes))

-- bytes at a height come after others, if there are any
abbrev pub is_after : Option (List ℕ × ℕ) → List ℕ → ℕ → Bool
is_after None bytes height = true
is_after (Some e) bytes height = is_below e bytes height

-- bytes at a height come after all
abbrev pub is_last : Placed → List ℕ → ℕ → Bool
is_last places bytes height = is_after (slice_get places (length places - 1)) bytes height

-- the canonical bytes and the height of a record's task
abbrev pub placed : TaskRecord × ℕ → List ℕ × ℕ
placed r = (enc_task r.0.task, r.1)

-- the heights are those of these records, in the same order
abbrev pub AreHeights : Ranked → Heights → Type 0
AreHeights rows h = heights_in h ≡ map placed rows

-- a record may stand after these, and then the heights are theirs and its own
pub record Admits (known : List ℕ → Bool) (rows : Ranked) (r : TaskRecord) (h : Heights) : Type 0 where
  pub height : ℕ
  pub passed : height_after known rows r ≡ Some height
  pub heights : AreHeights (rows ++ (r, height) ∷ []) h

-- a record may stand after those whose heights these are, and then they are those with its own
abbrev pub Adds : (List ℕ → Bool) → Heights → TaskRecord → Heights → Type 0
Adds known old r new = (rows : Ranked) → AreHeights rows old → Admits known rows r new

-- a record may not stand after those whose heights these are
abbrev pub Bars : (List ℕ → Bool) → Heights → TaskRecord → Type 0
Bars known h r = (rows : Ranked) → AreHeights rows h → height_after known rows r ≡ None

-- records in order, each of a known function
pub record MayFollow (test : List ℕ → Bool) (rows : List TaskRecord) : Type 0 where
  pub order : AreInOrder rows
  pub known : All (λ (r : TaskRecord). test r.task.func ≡ true) rows

-- records that may stand one after another, and the heights of their tasks
pub record AreWalked (test : List ℕ → Bool) (rows : List TaskRecord) (h : Heights) : Type 0 where
  pub ranked : Ranked
  pub same : rows_of ranked ≡ rows
  pub heights : AreHeights ranked h
  pub stored : All IsStored (tasks_in rows)
  pub follow : MayFollow test rows

-- a task with canonical bytes and a height among records
pub record HasRank (rows : Ranked) (t : Task) : Type 0 where
  pub height : ℕ
  pub found : rank_in rows t ≡ Some height
  pub stored : IsStored t

-- each task is among the records whose heights these are
abbrev pub HaveRecords : Heights → List Task → Type 0
HaveRecords h tasks = (rows : Ranked) → AreHeights rows h → All (HasRank rows) tasks

-- some task isn't
abbrev pub LackRecords : Heights → List Task → Type 0
LackRecords h tasks = (rows : Ranked) → AreHeights rows h → ¬ (All (HasRank rows) tasks)
