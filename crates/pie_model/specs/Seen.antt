-- What a task sees at a path: sources, its own writes, and the writes of the tasks that it required.
use Rattle.std.specs.Prelude.{ℕ, Bool, true, false, cond, Option, Some, None, List, [], ◌∷◌, ◌++◌, bytes_eq}
use Rattle.pie_model.specs.Paths.{Path, Kind, Out, Kept, Source, kind_of}
use Rattle.pie_model.specs.Tasks.{Task}
use Rattle.pie_model.specs.Trees.{Node, node, Trace, ends, looks, lists, writes, needs, Seen, Nothing, Holds, Clashing, writes_of}

-- what was written first at a path: contents, or the hashes of contents
abbrev pub first_write : Path → List (Path × List ℕ) → Option (List ℕ)
first_write p [] = None
first_write p (w ∷ ws) = cond (bytes_eq p w.0) (Some w.1) (first_write p ws)

-- the task with what it wrote, where it wrote
abbrev pub writer : Task → Option (List ℕ) → List (Task × List ℕ)
writer t None = []
writer t (Some b) = (t, b) ∷ []

abbrev mutual
  -- the tasks in a tree that wrote a path, each with what it wrote, repeats included
  pub writers : Path → Node → List (Task × List ℕ)
  writers p (node t k) = writer t (first_write p (writes_of k)) ++ writers_below p k

  pub writers_below : Path → Trace → List (Task × List ℕ)
  writers_below p (ends e) = []
  writers_below p (looks l q s k) = writers_below p k
  writers_below p (lists d es k) = writers_below p k
  writers_below p (writes q b k) = writers_below p k
  writers_below p (needs h u n k) = writers p n ++ writers_below p k

-- the writers of a path in several trees
abbrev pub writers_in : Path → List Node → List (Task × List ℕ)
writers_in p [] = []
writers_in p (n ∷ ns) = writers p n ++ writers_in p ns

-- whether all of these writers are one task
abbrev pub all_by : Task → List (Task × List ℕ) → Bool
all_by t [] = true
all_by t (x ∷ xs) = cond (bytes_eq t x.0) (all_by t xs) false

-- nothing without a writer, the contents where one task wrote, a clash where two distinct tasks did
abbrev pub by_writers : List (Task × List ℕ) → Seen
by_writers [] = Nothing
by_writers (x ∷ xs) = cond (all_by x.0 xs) (Holds x.1 0) Clashing

-- what the trees of the tasks required so far provide at a path
unfoldable pub provided : List Node → Path → Seen
provided kids p = by_writers (writers_in p kids)

-- a file as a look finds it
abbrev pub seen_file : Option (List ℕ × ℕ) → Seen
seen_file None = Nothing
seen_file (Some f) = Holds f.0 f.1

-- a task's own write, and else what others provide
abbrev pub own_first : Option (List ℕ) → Seen → Seen
own_first (Some b) s = Holds b 0
own_first None s = s

-- what is visible at a path of this kind
abbrev pub visible_by : (Path → Option (List ℕ × ℕ)) → List (Path × List ℕ) → List Node → Path → Kind → Seen
visible_by file own kids p Out = own_first (first_write p own) (provided kids p)
visible_by file own kids p Kept = Nothing
visible_by file own kids p Source = seen_file (file p)

-- what a task sees at a path, after its own writes and with the trees of the tasks that it required so far
abbrev pub visible_at : (Path → Option (List ℕ × ℕ)) → List (Path × List ℕ) → List Node → Path → Seen
visible_at file own kids p = visible_by file own kids p (kind_of p)
