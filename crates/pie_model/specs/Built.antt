-- The directory that an accepted build leaves: the rows of its store, and what stands at each path.
use Rattle.std.specs.Prelude.{ℕ, Bool, true, false, cond, ltb, eqb, ◌≡◌, Option, Some, None, option_map, List, [], ◌∷◌, map, codes, bytes_eq}
use Rattle.std.specs.List.{flat_map}
use Rattle.std.specs.FinMap as fin
use Rattle.std.specs.Cmp.Lexicographic.{slice_cmp}
use Rattle.std.specs.Ordering.{nat_cmp, is_lt}
use Rattle.pie_model.specs.Paths.{Path, Kind, Out, Kept, Source, kind_of, among, first_segment, entries_among}
use Rattle.pie_model.specs.Tasks.{Task, Answer, Event}
use Rattle.pie_model.specs.Trees.{Node, task_of, trace_of, writes_of, levels_below}
use Rattle.pie_model.specs.Seen.{first_write}
use Rattle.pie_model.specs.Evaluation.{World, Project}
use Rattle.pie_model.specs.Records.{Record, record_of}
use Rattle.pie_model.specs.Forest.{live_evaluations}

-- a directory is a finite map from paths to bytes and a mark
abbrev pub Directory : Type 0
Directory = fin.FinMap (slice_cmp nat_cmp) (List ℕ × ℕ)

-- the bytes of a file
abbrev pub bytes_at : Directory → Path → Option (List ℕ)
bytes_at d p = option_map (λ f. f.0) (fin.get d p)

-- what a build over a directory starts from
abbrev pub project_of : (Task → List Answer → Event) → Directory → Project
project_of next d = record { next = next; file = fin.get d; entries = entries_among (fin.keys d) }

-- the height of an evaluation: nothing where it requires nothing, and else one more than the greatest height that it requires
abbrev pub height : Node → ℕ
height n = levels_below (trace_of n)

-- rows are ordered by height and then by task
abbrev pub row_before : Node → Node → Bool
row_before a b = cond (ltb (height a) (height b)) true (cond (eqb (height a) (height b)) (is_lt (slice_cmp nat_cmp (task_of a) (task_of b))) false)

-- an evaluation put into its place among ordered ones
abbrev pub put_row : Node → List Node → List Node
put_row n [] = n ∷ []
put_row n (m ∷ ms) = cond (row_before m n) (m ∷ put_row n ms) (n ∷ m ∷ ms)

-- evaluations in the order of rows
abbrev pub in_row_order : List Node → List Node
in_row_order [] = []
in_row_order (n ∷ ns) = put_row n (in_row_order ns)

-- the records of the live tasks, in the order in which the store has them
abbrev pub store_rows : World → Project → List Task → List Record
store_rows w P roots = map (record_of w) (in_row_order (live_evaluations w P roots))

-- the paths of the store, of the mark of an unfinished commit, and of the pending names
abbrev pub store_path : Path
store_path = codes ".pie/store"

abbrev pub open_path : Path
open_path = codes ".pie/open"

abbrev pub pending_path : Path
pending_path = codes ".pie/pending"

-- what the live tasks wrote at a path
abbrev pub provided_at : List Node → Path → Option (List ℕ)
provided_at live p = first_write p (flat_map (λ n. writes_of (trace_of n)) live)

-- what stands at a reserved path after an accepted build whose store has this text
abbrev pub kept_after : List ℕ → Directory → Path → Option (List ℕ)
kept_after text d p =
    cond (bytes_eq p store_path) (Some text) (cond (among p (open_path ∷ pending_path ∷ [])) None (bytes_at d p))

-- what stands at a path of this kind after an accepted build
abbrev pub built_by : List ℕ → Directory → List Node → Path → Kind → Option (List ℕ)
built_by text d live p Out = provided_at live p
built_by text d live p Kept = kept_after text d p
built_by text d live p Source = bytes_at d p

-- the bytes at each path of the directory that an accepted build leaves, whose store has this text
abbrev pub built_directory : List ℕ → Directory → List Node → Path → Option (List ℕ)
built_directory text d live p = built_by text d live p (kind_of p)

-- a directory is the one that an accepted build leaves: its bytes, and outside `out` and `.pie` the marks too
pub record IsBuilt (text : List ℕ) (before after : Directory) (live : List Node) : Type 0 where
  pub bytes : (p : Path) → bytes_at after p ≡ built_directory text before live p
  pub marks : (p : Path) → (kind_of p ≡ Out → ⊥) → bytes_eq (first_segment p) (codes ".pie") ≡ false → fin.get after p ≡ fin.get before p
