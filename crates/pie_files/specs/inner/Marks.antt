-- Which marks the writes to files in memory give: the n-th that succeeds gives the mark n, counted from 1.
use Rattle.std.specs.Prelude.{◌==◌, ◌+◌, ◌&&◌, ℕ, suc, Bool, true, List, [], ◌∷◌}
use Rattle.pie_files.specs.declared.sure_files.Logged.{Logged}
use Rattle.pie_files.specs.declared.sure_files.Logged.TheVariants.{Put, FailsAt, Asked, Failed, Wrote, Removed, Synced}

-- how many writes that succeeded one thing is
abbrev pub writes_by : Logged → ℕ
writes_by (Put path bytes mark) = 0
writes_by (FailsAt numbers) = 0
writes_by (Asked call) = 0
writes_by (Failed call) = 0
writes_by (Wrote path bytes mark) = 1
writes_by (Removed path) = 0
writes_by Synced = 0

-- how many writes succeeded
abbrev pub writes_in : List Logged → ℕ
writes_in [] = 0
writes_in (x ∷ log) = writes_by x + writes_in log

-- a write after n others gave the mark n + 1
abbrev pub is_marked : ℕ → Logged → Bool
is_marked n (Put path bytes mark) = true
is_marked n (FailsAt numbers) = true
is_marked n (Asked call) = true
is_marked n (Failed call) = true
is_marked n (Wrote path bytes mark) = mark == suc n
is_marked n (Removed path) = true
is_marked n Synced = true

-- so did each of these, of which the first came after n others
abbrev pub are_marked : ℕ → List Logged → Bool
are_marked n [] = true
are_marked n (x ∷ log) = is_marked n x && are_marked (n + writes_by x) log
