-- The limits of a value and of a task.
use Rattle.std.specs.Prelude.{ℕ, ◌+◌, Bool, ◌&&◌, nat_le, length}
use Rattle.pie_value.specs.declared.task.Task.{Task}
use Rattle.pie_value.specs.Tree.{Tree, items_of}
use Rattle.pie_value.specs.Size.{size_of, sizes_of, depth_of, deepest_of}

-- how many canonical bytes a task has
abbrev pub task_size : Task → ℕ
task_size t = 8 + length t.func + sizes_of (items_of t.args)

-- a value has at most 1,048,576 canonical bytes and nests at most 64 deep
abbrev pub is_small : Tree → Bool
is_small t = nat_le (size_of t) 1048576 && nat_le (depth_of t) 64

-- a task has at most 1,048,576 canonical bytes, and its arguments nest at most 64 deep
abbrev pub is_small_task : Task → Bool
is_small_task t = nat_le (task_size t) 1048576 && nat_le (deepest_of (items_of t.args)) 64
