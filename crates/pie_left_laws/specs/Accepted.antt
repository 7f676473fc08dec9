-- An accepted build by what changed: its records are those of a clean build, and its files with those that are there already are what a clean build provides.
use Rattle.std.specs.Prelude.{◌≡◌, ◌⊎◌, ℕ, true, false, List, map, Some, slice_index_or, Contains}
use Rattle.pie_base.specs.Path.{is_out}
use Rattle.pie_value.specs.declared.task.Task.{Task}
use Rattle.pie_value.specs.Canonical.{enc_task}
use Rattle.pie_record.specs.declared.task_record.TaskRecord.{TaskRecord}
use Rattle.pie_record.specs.inner.Records.{record_of as kept_of}
use Rattle.pie_tables.specs.declared.tables.Tables.{Tables}
use Rattle.pie_checks.specs.declared.built.Built.{Built}
use Rattle.pie_results.specs.inner.Files.{contents_in}
use Rattle.pie_walk.specs.Marks.{IsSettled}
use Rattle.pie_walk.specs.States.{WalkState}
use Rattle.pie_walk.specs.Standing.{Stands}
use Rattle.pie_model.specs.Paths.{Path, among}
use Rattle.pie_model.specs.Trees.{Node}
use Rattle.pie_model.specs.Forest.{live_evaluations}
use Rattle.pie_model.specs.Verdict.{verdict}
use Rattle.pie_model.specs.declared.words.Verdict.TheVariants.{Accepted}
use Rattle.pie_model.specs.Built.{bytes_at, store_rows, provided_at}
use Rattle.pie_model_pipeline.specs.Rows.{record_of}
use Rattle.pie_model_pipeline.specs.World.{world}
use Rattle.pie_earlier_laws.specs.Left.{AreThere}
use Rattle.pie_core_laws.specs.Update.{Update, present}
use Rattle.pie_core_laws.specs.Exact.{is_busy, IsExact}
use Rattle.pie_core_laws.specs.Keeping.{Separates}
use Rattle.pie_result_laws.specs.Accepted.{HasClean, HasProvided}

-- what is there now under `out` is met
abbrev pub OutIsMet : Update → Type 0
OutIsMet u = (path bytes : List ℕ) → is_out path ≡ true → bytes_at u.directory path ≡ Some bytes → among bytes u.besides ≡ true

-- the evaluations of the live tasks now
abbrev pub live_now : Update → List Node
live_now u = live_evaluations world (present u) u.roots

-- the model accepts the build; the records are those of its live tasks in the order of the store; each file has what these provide, and all that they
-- provide is among the files, or there already
pub record IsAccepted (u : Update) (kept : List TaskRecord) (files : List (Path × List ℕ)) : Type 0 where
  pub accepted : verdict world (present u) u.roots ≡ Accepted
  pub rows : map record_of kept ≡ store_rows world (present u) u.roots
  pub only : (path bytes : List ℕ) → Contains files (path, bytes) → provided_at (live_now u) path ≡ Some bytes
  pub each : (path bytes : List ℕ) → provided_at (live_now u) path ≡ Some bytes
      → Contains files (path, bytes) ⊎ (bytes_at u.directory path ≡ Some bytes)

-- what a settled task wrote that didn't run is there, by its record
abbrev pub KeptAreThere : Update → Tables → WalkState → Type 0
KeptAreThere u t s =
    (n : ℕ) (rec : TaskRecord) → IsSettled s.marks n → slice_index_or t.ran.items n false ≡ false → kept_of t.records n ≡ Some rec
    → AreThere world u.directory rec.writes

-- so it is where what any task wrote is there that neither is busy nor ran
abbrev pub IdleWritesAreKept : Type 0
IdleWritesAreKept =
    (u : Update) (t : Tables) (s : WalkState) → Stands s
    → ((n : ℕ) (rec : TaskRecord) → is_busy s n ≡ false → slice_index_or t.ran.items n false ≡ false → kept_of t.records n ≡ Some rec
    → AreThere world u.directory rec.writes)
    → KeptAreThere u t s

-- what an exact build makes that has the records and the files of a clean build is an accepted build
abbrev pub CleanResultsAreAccepted : Type 0
CleanResultsAreAccepted =
    (u : Update) (t : Tables) (s : WalkState) (roots : List Task) (b : Built) → IsExact u t.names t.records s → Stands s → Separates u → OutIsMet u
    → KeptAreThere u t s → map enc_task roots ≡ u.roots → verdict world (present u) u.roots ≡ Accepted → HasClean u roots b
    → HasProvided u t s roots b → IsAccepted u b.rows.items (contents_in b.files.items)
