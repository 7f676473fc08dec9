-- All writes of a tree in one list, and what is seen of them.
use Rattle.std.specs.Prelude.{ℕ, cond, List, [], ◌∷◌, ◌++◌, bytes_eq}
use Rattle.pie_model.specs.Paths.{Path}
use Rattle.pie_model.specs.declared.words.Kind.{Kind}
use Rattle.pie_model.specs.declared.words.Kind.TheVariants.{Out, Kept, Source}
use Rattle.pie_model.specs.Tasks.{Task}
use Rattle.pie_model.specs.Trees.{Node, node, Trace, ends, looks, lists, writes, needs, writes_of}
use Rattle.pie_model.specs.declared.words.Seen.{Seen}
use Rattle.pie_model.specs.declared.words.Seen.TheVariants.{Nothing}
use Rattle.pie_model.specs.Seen.{by_writers, first_write, own_first, seen_file}
use Rattle.std.specs.Prelude.{Option}

-- a task's writes with the task
abbrev pub tagged : Task → List (Path × List ℕ) → List (Task × Path × List ℕ)
tagged t [] = []
tagged t (x ∷ xs) = (t, x.0, x.1) ∷ tagged t xs

abbrev mutual
  -- all writes in a tree, each with its task
  pub written_in : Node → List (Task × Path × List ℕ)
  written_in (node t k) = tagged t (writes_of k) ++ written_below k

  pub written_below : Trace → List (Task × Path × List ℕ)
  written_below (ends e) = []
  written_below (looks l p s k) = written_below k
  written_below (lists d es k) = written_below k
  written_below (writes p b k) = written_below k
  written_below (needs h u n k) = written_in n ++ written_below k

-- all writes in several trees
abbrev pub written_in_all : List Node → List (Task × Path × List ℕ)
written_in_all [] = []
written_in_all (n ∷ ns) = written_in n ++ written_in_all ns

-- the writes at a path
abbrev pub at_path : Path → List (Task × Path × List ℕ) → List (Task × List ℕ)
at_path p [] = []
at_path p (x ∷ xs) = cond (bytes_eq p x.1) ((x.0, x.2) ∷ at_path p xs) (at_path p xs)

-- what is visible at a path of this kind, by all writes of the required tasks
abbrev pub seen_by : (Path → Option (List ℕ × ℕ)) → List (Path × List ℕ) → List (Task × Path × List ℕ) → Path → Kind → Seen
seen_by file own below p Out = own_first (first_write p own) (by_writers (at_path p below))
seen_by file own below p Kept = Nothing
seen_by file own below p Source = seen_file (file p)
