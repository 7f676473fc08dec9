-- The verdict on a project: accepted, or the first refusal that holds, at its least places.
use Rattle.std.specs.Prelude.{Bool, false, cond, not, leb, Option, Some, None, List, [], ◌∷◌, ◌++◌, map, length, bytes_eq, is_some}
use Rattle.std.specs.List.{flat_map}
use Rattle.std.specs.Cmp.Lexicographic.{slice_cmp}
use Rattle.std.specs.Ordering.{nat_cmp, is_lt, ordering_then}
use Rattle.pie_model.specs.Paths.{Path, Kind, Out, Kept, Source, kind_of, after_prefix}
use Rattle.pie_model.specs.Tasks.{Task}
use Rattle.pie_model.specs.Trees.{Node, Trace, ends, looks, lists, writes, needs, Seen, Nothing, Holds, Clashing, Outcome, Ended, Failed, Cycled}
use Rattle.pie_model.specs.Trees.{Many as TooLong, task_of, trace_of, writes_of}
use Rattle.pie_model.specs.Evaluation.{World, Project}
use Rattle.pie_model.specs.Forest.{forest, entered_tasks, live_evaluations, first_stop}
-- accepted, or refused: too many tasks, a fault, a cycle, a path that two tasks wrote, a path below another one,
-- or a path that one task found absent and another wrote
pub use Rattle.pie_model.specs.declared.words.Verdict.{Verdict}
pub use Rattle.pie_model.specs.declared.words.Verdict.TheVariants.{Accepted, Many, Fault, Cycle, Overlap, Nested, Hidden}
-- what the last checks look for: two tasks that wrote a path, a written path above another, or a path that was absent and then written
pub use Rattle.pie_model.specs.declared.words.Check.{Check}
pub use Rattle.pie_model.specs.declared.words.Check.TheVariants.{Overlapping, Nesting, Hiding}
-- a path with two tasks, or with another path
pub use Rattle.pie_model.specs.declared.words.Finding.{Finding}

-- findings are ordered by path, then by the first, then by the second
abbrev pub comes_before : Finding → Finding → Bool
comes_before a b =
    is_lt (ordering_then (slice_cmp nat_cmp a.path b.path) (ordering_then (slice_cmp nat_cmp a.first b.first) (slice_cmp nat_cmp a.second b.second)))

-- the lesser of a finding and the least of others
abbrev pub lesser : Finding → Option Finding → Finding
lesser a None = a
lesser a (Some b) = cond (comes_before b a) b a

-- the least finding
abbrev pub least : List Finding → Option Finding
least [] = None
least (a ∷ rest) = Some (lesser a (least rest))

-- each path that an evaluation wrote, with its task
abbrev pub written_by : Node → List (Path × Task)
written_by n = map (λ x. (x.0, task_of n)) (writes_of (trace_of n))

-- a path of this kind, if it is under `out` and nothing was seen there
abbrev pub absent_here : Path → Kind → Seen → List Path
absent_here p Out Nothing = p ∷ []
absent_here p Kept Nothing = []
absent_here p Source Nothing = []
absent_here p k (Holds b m) = []
absent_here p k Clashing = []

-- each path under `out` that a trace found absent
abbrev pub found_absent : Trace → List Path
found_absent (ends e) = []
found_absent (looks l p s k) = absent_here p (kind_of p) s ++ found_absent k
found_absent (lists d es k) = found_absent k
found_absent (writes p b k) = found_absent k
found_absent (needs h u n k) = found_absent k

-- each path that an evaluation found absent, with its task
abbrev pub missed_by : Node → List (Path × Task)
missed_by n = map (λ p. (p, task_of n)) (found_absent (trace_of n))

-- whether a check finds something in a path with a task and another path with a task
abbrev pub is_found : Check → Path × Task → Path × Task → Bool
is_found Overlapping x y = cond (bytes_eq x.0 y.0) (is_lt (slice_cmp nat_cmp x.1 y.1)) false
is_found Nesting x y = is_some (after_prefix (x.0 ++ 47 ∷ []) y.0)
is_found Hiding x y = cond (bytes_eq x.0 y.0) (not (bytes_eq x.1 y.1)) false

-- what it then finds
abbrev pub finding_of : Check → Path × Task → Path × Task → Finding
finding_of Overlapping x y = record { path = x.0; first = x.1; second = y.1 }
finding_of Nesting x y = record { path = x.0; first = y.0; second = [] }
finding_of Hiding x y = record { path = x.0; first = x.1; second = y.1 }

-- what a check finds in them, if anything
abbrev pub found_by : Check → Path × Task → Path × Task → List Finding
found_by check x y = cond (is_found check x y) (finding_of check x y ∷ []) []

-- what a check finds in all pairs of these
abbrev pub findings : Check → List (Path × Task) → List (Path × Task) → List Finding
findings check xs ys = flat_map (λ x. flat_map (found_by check x) ys) xs

-- the first of the last three refusals that holds, by the least findings
abbrev pub by_findings : Option Finding → Option Finding → Option Finding → Verdict
by_findings (Some a) n h = Overlap a.path a.first a.second
by_findings None (Some b) h = Nested b.path b.first
by_findings None None (Some c) = Hidden c.path c.first c.second
by_findings None None None = Accepted

-- what is checked once no root fails: the written paths among themselves, and the absent ones against them
abbrev pub checked : List (Path × Task) → List (Path × Task) → Verdict
checked written missed =
    by_findings (least (findings Overlapping written written)) (least (findings Nesting written written)) (least (findings Hiding missed written))

-- the checks of the live evaluations
abbrev pub final_checks : List Node → Verdict
final_checks live = checked (flat_map written_by live) (flat_map missed_by live)

-- the verdict where not too many tasks are entered, by the first outcome that is no value
abbrev pub by_stop : Option Outcome → List Node → Verdict
by_stop None live = final_checks live
by_stop (Some (Ended v)) live = final_checks live
by_stop (Some (Failed t k)) live = Fault t k
by_stop (Some (Cycled ts)) live = Cycle ts
by_stop (Some TooLong) live = Many

-- the verdict on a project and its roots
abbrev pub verdict : World → Project → List Task → Verdict
verdict w P roots =
    cond (leb (length (entered_tasks w P roots)) w.most_tasks) (by_stop (first_stop (forest w P roots)) (live_evaluations w P roots)) Many
