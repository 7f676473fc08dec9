-- Tasks beside their canonical bytes.
use Rattle.std.specs.Prelude.{ℕ, List, IsPermutation, IsSortedBy, Vec}
use Rattle.std.specs.declared.alloc.Global.{Global}
use Rattle.std.specs.Ordering.{is_lt}
use Rattle.pie_value.specs.declared.task.Task.{Task}
use Rattle.pie_value.specs.Canonical.{enc_task}
use Rattle.pie_value.specs.Order.{byte_order}

-- a task with its canonical bytes
abbrev pub key_of : Task → List ℕ × Task
key_of task = (enc_task task, task)

-- bytes beside a task, as a plain list
abbrev pub plain_key : Vec ℕ Global × Task → List ℕ × Task
plain_key keyed = (keyed.0.items, keyed.1)

-- a list with the same members, each as often, whose bytes ascend
pub record InKeyOrder (keyed sorted : List (Vec ℕ Global × Task)) : Type 0 where
  pub same : IsPermutation keyed sorted
  pub ascending : IsSortedBy (λ a b. is_lt (byte_order a.0.items b.0.items)) sorted
