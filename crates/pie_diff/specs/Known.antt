-- What is known of the files under `out/`.
use Rattle.std.specs.Prelude.{ℕ, cond, List, Option, None}
use Rattle.std.specs.List.{list_any, flat_map}
use Rattle.pie_base.specs.Path.{is_out, same_text}
use Rattle.pie_files.specs.Directory.{Directory}
use Rattle.pie_record.specs.declared.task_record.TaskRecord.{TaskRecord}
use Rattle.pie_diff.specs.Hashes.{hash_in, held_at}

-- the writes of records, one record after another
abbrev pub writes_of : List TaskRecord → List (List ℕ × List ℕ)
writes_of rows = flat_map (λ (r : TaskRecord). r.writes) rows

-- of a path under `out/`
abbrev pub only_out : List ℕ → Option (List ℕ) → Option (List ℕ)
only_out q hash = cond (is_out q) hash None

-- at a named path what the directory has, elsewhere the first that a record wrote there
abbrev pub known_at : Directory → List TaskRecord → List (List ℕ) → List ℕ → Option (List ℕ)
known_at d rows names q = only_out q (cond (list_any (same_text q) names) (hash_in d q) (held_at (writes_of rows) q))
