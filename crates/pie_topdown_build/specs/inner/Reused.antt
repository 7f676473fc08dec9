-- In which order tasks are told that were reused.
use Rattle.std.specs.Prelude.{◌↔◌, ℕ, List, map, Contains, Vec}
use Rattle.std.specs.Global.{Global}
use Rattle.std.specs.BTreeMap.{insert_entry}
use Rattle.std.specs.List.Sorted.{IsStrictlySortedBy}
use Rattle.pie_value.specs.Canonical.{enc_task}
use Rattle.pie_value.specs.Order.{byte_order}
use Rattle.pie_value.specs.declared.task.Task.{Task}

-- the tasks that were found are the given ones in the order of their canonical bytes, each once, the last of each
pub record InByteOrder (tasks found : List Task) : Type 0 where
  pub ascending : IsStrictlySortedBy byte_order (map enc_task found)
  pub same : (bytes : List ℕ) → Contains (map enc_task found) bytes ↔ Contains (map enc_task tasks) bytes
  pub from : (t : Task) → Contains found t → Contains tasks t

-- a task at its canonical bytes, among those that are held so far
abbrev pub put_task : List (List ℕ × Task) → Task → List (List ℕ × Task)
put_task held t = insert_entry byte_order held (enc_task t) t

-- a task with its bytes, as a map of the program has it
abbrev pub by_key : Vec ℕ Global × Task → List ℕ × Task
by_key e = (e.0.items, e.1)
