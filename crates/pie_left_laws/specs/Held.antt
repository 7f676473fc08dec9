-- What is held under `out` by the records of an earlier build and by the names of what changed since.
use Rattle.std.specs.Prelude.{◌≡◌, ℕ, true, List, map}
use Rattle.pie_base.specs.Path.{is_out}
use Rattle.pie_files.specs.Directory.{Directory}
use Rattle.pie_record.specs.declared.task_record.TaskRecord.{TaskRecord}
use Rattle.pie_diff.specs.Hashes.{hash_in, held_at}
use Rattle.pie_diff.specs.Known.{known_at}
use Rattle.pie_model.specs.Built.{store_rows}
use Rattle.pie_model_pipeline.specs.Rows.{record_of}
use Rattle.pie_model_pipeline.specs.World.{world}
use Rattle.pie_core_laws.specs.Update.{Update, IsUpdate, earlier}

-- what is held is the hash of what a directory has, or none where it has nothing
abbrev pub HoldsRightly : List (List ℕ × List ℕ) → Directory → Type 0
HoldsRightly held d = (q : List ℕ) → is_out q ≡ true → held_at held q ≡ hash_in d q

-- so it is where the records are those that the store of the earlier build has, and the names are all
abbrev pub OldRecordsHoldRightly : Type 0
OldRecordsHoldRightly =
    (u : Update) (kept : List TaskRecord) (held : List (List ℕ × List ℕ)) → IsUpdate u → map record_of kept ≡ store_rows world (earlier u) u.old_roots
    → ((q : List ℕ) → held_at held q ≡ known_at u.directory kept u.names q) → HoldsRightly held u.directory
