-- Which files are removed.
use Rattle.std.specs.Prelude.{ℕ, List, map, IsSome}
use Rattle.std.specs.List.{Contains, flat_map}
use Rattle.std.specs.List.Sorted.{IsStrictlySortedBy}
use Rattle.pie_record.specs.declared.task_record.TaskRecord.{TaskRecord}
use Rattle.pie_reach.specs.Plan.{path_cmp}
use Rattle.pie_diff.specs.Hashes.{held_at}

-- the paths of writes
abbrev pub writes_paths : List (List ℕ × List ℕ) → List (List ℕ)
writes_paths writes = map (λ (w : List ℕ × List ℕ). w.0) writes

-- the paths that records write
abbrev pub written_by : List TaskRecord → List (List ℕ)
written_by rows = flat_map (λ (r : TaskRecord). writes_paths r.writes) rows

-- the paths that are held and that no record writes, in path order, each once
pub record AreRemovals (held : List (List ℕ × List ℕ)) (rows : List TaskRecord) (found : List (List ℕ)) : Type 0 where
  pub ordered : IsStrictlySortedBy path_cmp found
  pub only : (path : List ℕ) → Contains found path → IsSome (held_at held path) × ¬ (Contains (written_by rows) path)
  pub each : (path : List ℕ) → IsSome (held_at held path) → ¬ (Contains (written_by rows) path) → Contains found path
