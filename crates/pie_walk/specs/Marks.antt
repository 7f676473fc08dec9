-- How far tasks have come in a walk.
use Rattle.std.specs.Prelude.{◌≡◌, ◌⊎◌, ℕ, ◌≤◌, List, slice_index_or}
use Rattle.std.specs.List.{sum_by}
use Rattle.pie_walk.specs.declared.marks.Mark.{Mark}
use Rattle.pie_walk.specs.declared.marks.Mark.TheVariants.{New, Visited, Runs, Settled}

-- the mark of a task, New past the last
abbrev pub mark_of : List Mark → ℕ → Mark
mark_of marks n = slice_index_or marks n New

-- a task is settled
abbrev pub IsSettled : List Mark → ℕ → Type 0
IsSettled marks n = mark_of marks n ≡ Settled

-- a task was neither taken nor settled
abbrev pub IsIdle : List Mark → ℕ → Type 0
IsIdle marks n = (mark_of marks n ≡ New) ⊎ (mark_of marks n ≡ Visited)

-- how far a mark is on the way
abbrev pub rank : Mark → ℕ
rank New = 0
rank Visited = 1
rank Runs = 2
rank Settled = 3

-- no task goes back
abbrev pub MarksRise : List Mark → List Mark → Type 0
MarksRise old new = (n : ℕ) → rank (mark_of old n) ≤ rank (mark_of new n)

-- 1 for a task that was neither taken nor settled
abbrev pub is_unstarted : Mark → ℕ
is_unstarted New = 1
is_unstarted Visited = 1
is_unstarted Runs = 0
is_unstarted Settled = 0

-- how many tasks were neither taken nor settled
abbrev pub unstarted : List Mark → ℕ
unstarted marks = sum_by is_unstarted marks
