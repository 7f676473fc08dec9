-- What the last checks and the commit need, from the kept records and contents.
use Rattle.std.specs.Prelude.{ℕ, ◌≡◌, Bool, true, false, cond, Option, Some, List, [], ◌∷◌, ◌++◌, map}
use Rattle.std.specs.List.{flat_map}
use Rattle.pie_model.specs.Paths.{Path, kind_of}
use Rattle.pie_model.specs.declared.words.Kind.{Kind}
use Rattle.pie_model.specs.declared.words.Kind.TheVariants.{Out, Kept, Source}
use Rattle.pie_model.specs.Tasks.{Task}
use Rattle.pie_model.specs.Seen.{first_write}
use Rattle.pie_model.specs.Evaluation.{World, Project}
use Rattle.pie_model.specs.Records.{Stamp, Absent, Present, Hash, Mark, WholeValue, Success, Query, Looked, Listed, Required, Observation, Record}
use Rattle.pie_model.specs.Forest.{live_evaluations}
use Rattle.pie_model.specs.Verdict.{checked}
use Rattle.pie_model.specs.Built.{provided_at}
use Rattle.pie_step_laws.specs.Roots.{Between, EvaluatesTo}
use Rattle.pie_step_laws.specs.Contents.{KeepsContents}

-- whether a stamp tells that nothing was there
abbrev pub is_absent : Stamp → Bool
is_absent Absent = true
is_absent Present = false
is_absent (Hash h) = false
is_absent (Mark m) = false
is_absent (WholeValue v) = false
is_absent Success = false

-- a path of this kind, if it is under `out` and the stamp tells that nothing was there
abbrev pub absent_at : Path → Stamp → Kind → List Path
absent_at p s Out = cond (is_absent s) (p ∷ []) []
absent_at p s Kept = []
absent_at p s Source = []

-- the path that a query found absent
abbrev pub absent_by : Stamp → Query → List Path
absent_by s (Looked l p) = absent_at p s (kind_of p)
absent_by s (Listed d) = []
absent_by s (Required h u) = []

-- each path under `out` that these observations found absent
abbrev pub absent_in : List Observation → List Path
absent_in [] = []
absent_in (o ∷ os) = absent_by o.stamp o.query ++ absent_in os

-- each path that a record's task wrote, with the task
abbrev pub written_in : Record → List (Path × Task)
written_in r = map (λ x. (x.0, r.task)) r.writes

-- each path that it found absent, with the task
abbrev pub missed_in : Record → List (Path × Task)
missed_in r = map (λ p. (p, r.task)) (absent_in r.observations)

-- once all roots are done the last checks go by the records of the entered tasks, in their order
abbrev pub ChecksByRecords : Type 0
ChecksByRecords =
    (w : World) (P : Project) (roots : List Task) (R : Task → Option Record) (names : List Task) (kept : List Record) → Between w P roots R names
    → map R names ≡ map Some kept → EvaluatesTo w P roots names (checked (flat_map written_in kept) (flat_map missed_in kept))

-- and what stands under `out` is what is kept of the entered tasks, in their order
abbrev pub KeptContentsAreProvided : Type 0
KeptContentsAreProvided =
    (w : World) (P : Project) (roots : List Task) (R : Task → Option Record) (names : List Task) (kept : Task → List (Path × List ℕ)) (p : Path)
    → Between w P roots R names → KeepsContents w P R kept → provided_at (live_evaluations w P roots) p ≡ first_write p (flat_map kept names)
