-- The least of some tasks, and where a path would stand in a listing.
use Rattle.std.specs.Prelude.{◌≡◌, ◌≢◌, ℕ, ◌<◌, ◌≤◌, ◌==◌, Bool, true, false, cond, List, [], length, Option, Some, None, slice_index_or}
use Rattle.std.specs.Ordering.{is_gt, is_lt}
use Rattle.std.specs.List.{All, Contains}
use Rattle.pie_base.specs.Path.{is_below, same_text}
use Rattle.pie_value.specs.declared.task.Task.{Task}
use Rattle.pie_value.specs.Canonical.{IsEncodableTask}
use Rattle.pie_value.specs.Order.{byte_order}
use Rattle.pie_checks.specs.Refusals.{task_order}
use Rattle.pie_checks.specs.Listings.{Entry}

-- the task with a number, and one without a name past the last
abbrev pub task_at : List Task → ℕ → Task
task_at tasks n = slice_index_or tasks n (record { func = []; args = [] })

-- each task has canonical bytes
abbrev pub AreEncodable : List Task → Type 0
AreEncodable tasks = All IsEncodableTask tasks

-- whether this is the number that is left out
abbrev pub is_but : Option ℕ → ℕ → Bool
is_but None n = false
is_but (Some out) n = out == n

-- one of these numbers, apart from one that is left out
abbrev pub IsAmong : List ℕ → Option ℕ → ℕ → Type 0
IsAmong among but n = Contains among n × (is_but but n ≡ false)

-- the number of a task that comes after none of the others, or none where there is none
abbrev pub IsLeastBut : List Task → (ℕ → Type 0) → Option ℕ → Type 0
IsLeastBut tasks P None = (n : ℕ) → P n → ⊥
IsLeastBut tasks P (Some least) = P least × ((n : ℕ) → P n → is_gt (task_order (task_at tasks least) (task_at tasks n)) ≡ false)

-- so many entries have paths that come before these bytes, and all that follow have not
pub record IsPlaceOf (key : List ℕ) (es : List Entry) (at : ℕ) : Type 0 where
  pub within : at ≤ length es
  pub before : (k : ℕ) (d : Entry) → k < at → is_lt (byte_order (slice_index_or es k d).0 key) ≡ true
  pub after : (k : ℕ) (d : Entry) → at ≤ k → k < length es → is_lt (byte_order (slice_index_or es k d).0 key) ≡ false

-- the lesser of the best so far and one more
abbrev pub lesser_of : List Task → Option ℕ → ℕ → Option ℕ
lesser_of tasks None n = Some n
lesser_of tasks (Some best) n = cond (is_lt (task_order (task_at tasks n) (task_at tasks best))) (Some n) (Some best)

-- the least of these numbers by their tasks, and the least of the others
abbrev pub IsTwoLeast : List Task → List ℕ → ℕ × ℕ → Type 0
IsTwoLeast tasks among two = IsLeastBut tasks (IsAmong among None) (Some two.0) × IsLeastBut tasks (IsAmong among (Some two.0)) (Some two.1)

-- a path below this one that comes after no other such path of the listing
abbrev pub IsFirstBelow : List Entry → List ℕ → Option (List ℕ) → Type 0
IsFirstBelow es path None = (below : List ℕ) (n : ℕ) → Contains es (below, n) → is_below path below ≡ true → ⊥
IsFirstBelow es path (Some first) =
    ((n : ℕ) × Contains es (first, n)) × (is_below path first ≡ true)
    × ((below : List ℕ) (n : ℕ) → Contains es (below, n) → is_below path below ≡ true → is_gt (byte_order first below) ≡ false)

-- a number other than this one that stands beside the path, if there is one
abbrev pub IsOtherAt : List Entry → List ℕ → ℕ → Option ℕ → Type 0
IsOtherAt es path reader None = (n : ℕ) → Contains es (path, n) → n ≡ reader
IsOtherAt es path reader (Some n) = Contains es (path, n) × (n ≢ reader)

-- the best so far, or one more number that is better and isn't left out
abbrev pub better_of : List Task → Option ℕ → Option ℕ → ℕ → Option ℕ
better_of tasks but best n = cond (is_but but n) best (lesser_of tasks best n)

-- the number of an entry of this path, if it isn't the reader's
abbrev pub other_in : Entry → List ℕ → ℕ → Option ℕ
other_in e path reader = cond (same_text e.0 path) (cond (e.1 == reader) None (Some e.1)) None
