-- Which entries a build with the record cache puts into the cache files of tasks that ran.
use Rattle.std.specs.Prelude.{◌≡◌, ◌⊎◌, ℕ, ◌<◌, ◌≤◌, List, [], ◌∷◌, ◌++◌, length, map, take, Contains, Option, None, Some}
use Rattle.sha2.specs.Sha256.{sha256}
use Rattle.pie_build.specs.Left.{IsProjectOf}
use Rattle.pie_files.specs.Directory.{Directory, file_at}
use Rattle.pie_model.specs.Built.{store_rows}
use Rattle.pie_model_pipeline.specs.Rows.{record_of}
use Rattle.pie_model_pipeline.specs.World.{world, project}
use Rattle.pie_parser.specs.FunctionTrees.{FunctionTree}
use Rattle.pie_record.specs.declared.task_record.TaskRecord.{TaskRecord}
use Rattle.pie_report.specs.declared.report.Report.{Report}
use Rattle.pie_topdown_build.specs.Records.{AreShort, IsOfEvaluation}
use Rattle.pie_value.specs.Canonical.{enc_task}
use Rattle.pie_value.specs.declared.task.Task.{Task}
use Rattle.pie_value.specs.declared.verdict.Verdict.TheVariants.{Accepted}
use Rattle.pie_cached.specs.Clean.{BeginsHonestly, IsOpenedAs}
use Rattle.pie_cached.specs.Honest.{entries_bytes, Entry, IsFileOf, IsNoFile}
use Rattle.pie_cached.specs.Kept.{cache_file}
use Rattle.pie_cached.specs.Ran.{HasBytes}

-- ---- a file of the cache

-- the bytes of a file of entries
abbrev pub file_bytes : List Entry → List ℕ
file_bytes es = entries_bytes es ++ sha256 (entries_bytes es)

-- the entries that can be read of a file: none where there is no file, where it is too long, or where it is none of entries
abbrev pub HasEntries : Option (List ℕ × ℕ) → List Entry → Type 0
HasEntries None es = es ≡ []
HasEntries (Some f) es =
    ((16777216 < length f.0) × (es ≡ [])) ⊎ ((length f.0 ≤ 16777216) × ((IsNoFile f.0 × (es ≡ [])) ⊎ IsFileOf es f.0))

-- a file gets an entry in front of the first three that it had; where it would be too long, it stays as it was
abbrev pub GetsInFront : Entry → Option (List ℕ × ℕ) → Option (List ℕ × ℕ) → Type 0
GetsInFront e was left = (es : List Entry) × HasEntries was es
    × (((16777216 < length (file_bytes (e ∷ take 3 es))) × (left ≡ was)) ⊎ ((mark : ℕ) × (left ≡ Some (file_bytes (e ∷ take 3 es), mark))))

-- ---- the entries of tasks that ran

-- an entry for a path of the cache: it has the record of a live task that ran, by these functions in a directory, and what its evaluation wrote, and the path is
-- that of the task by the digest of its function
pub record IsNewEntry (fs : List FunctionTree) (d : Directory) (funcs : List (List ℕ × List ℕ)) (rows : List TaskRecord) (ran : List Task) (path : List ℕ)
    (e : Entry) : Type 0 where
  pub live : Contains rows e.0
  pub ran_too : Contains (map enc_task ran) (enc_task e.0.task)
  pub digest : List ℕ
  pub listed : Contains funcs (e.0.task.func, digest)
  pub is : path ≡ cache_file e.0.task digest
  pub evaluated : IsOfEvaluation fs d e

-- the cache file of a task by the digest of its function gets such an entry: the task's own, as no other is for the path, unless two byte strings have one hash
pub record GetsNew (fs : List FunctionTree) (d : Directory) (funcs : List (List ℕ × List ℕ)) (rows : List TaskRecord) (ran : List Task) (kept : Directory)
    (t : Task) : Type 0 where
  pub digest : List ℕ
  pub listed : Contains funcs (t.func, digest)
  pub entry : Entry
  pub new : IsNewEntry fs d funcs rows ran (cache_file t digest) entry
  pub gets : GetsInFront entry (file_at d (cache_file t digest)) (file_at kept (cache_file t digest))

-- so does that of each live task that ran, by the project of a directory, where the length of each content that is provided has at most 32 bits
pub record KeepsNew (d : Directory) (ran : List Task) (kept : Directory) : Type 0 where
  pub funcs : List (List ℕ × List ℕ)
  pub roots : List Task
  pub found : IsProjectOf d funcs roots
  pub rows : List TaskRecord
  pub records : map record_of rows ≡ store_rows world (project found.functions d) (map enc_task roots)
  pub each : AreShort found.functions d (map enc_task roots) → (row : TaskRecord) → Contains rows row → Contains (map enc_task ran) (enc_task row.task)
      → GetsNew found.functions d funcs rows ran kept row.task

-- ---- the build

-- so it is after an accepted build that began honestly, over the directory as it is after opening, where the files of the cache are of bytes
pub record KeepsNews (d : Directory) (r : Report) (after : Option Directory) : Type 0 where
  pub opened : Directory
  pub opens : IsOpenedAs d opened
  pub news : HasBytes opened → r.verdict ≡ Accepted → BeginsHonestly opened r → (kept : Directory) → after ≡ Some kept → KeepsNew opened r.ran.items kept
