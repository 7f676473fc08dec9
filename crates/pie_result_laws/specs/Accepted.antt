-- What an accepted build by what changed leaves, once its roots are settled.
use Rattle.std.specs.Prelude.{◌≡◌, ◌⊎◌, ℕ, false, List, map, Some, slice_index_or, Contains}
use Rattle.pie_value.specs.declared.task.Task.{Task}
use Rattle.pie_value.specs.declared.verdict.Verdict.TheVariants.{Accepted}
use Rattle.pie_value.specs.Canonical.{enc_task}
use Rattle.pie_record.specs.declared.records.Records.{Records}
use Rattle.pie_record.specs.declared.task_record.TaskRecord.{TaskRecord}
use Rattle.pie_record.specs.inner.Records.{record_of as kept_of}
use Rattle.pie_tables.specs.declared.tables.Tables.{Tables}
use Rattle.pie_graph.specs.Numbers.{IsMarked}
use Rattle.pie_view.specs.Content.{Staged, content}
use Rattle.pie_checks.specs.declared.built.Built.{Built}
use Rattle.pie_results.specs.inner.Files.{contents_in}
use Rattle.pie_results.specs.inner.Made.{Makes}
use Rattle.pie_results.specs.inner.Stored.{HaveEnded, StoredWhere}
use Rattle.pie_walk.specs.Marks.{IsSettled}
use Rattle.pie_walk.specs.States.{WalkState}
use Rattle.pie_walk.specs.Standing.{Stands}
use Rattle.pie_model.specs.Paths.{Path}
use Rattle.pie_model.specs.Seen.{first_write}
use Rattle.pie_model.specs.Forest.{live_evaluations}
use Rattle.pie_model.specs.Built.{store_rows, provided_at}
use Rattle.pie_model_pipeline.specs.Clean.{with_output, output_bytes}
use Rattle.pie_model_pipeline.specs.Rows.{record_of}
use Rattle.pie_model_pipeline.specs.World.{world}
use Rattle.pie_core_laws.specs.Update.{Update, present}
use Rattle.pie_core_laws.specs.Exact.{IsExact}
use Rattle.pie_core_laws.specs.Keeping.{Separates}
use Rattle.pie_core_laws.specs.Seeing.{written_now}
use Rattle.pie_core_laws.specs.Ends.{IsDoneRoot}
use Rattle.pie_result_laws.specs.Verdicts.{RootsSettle}

-- where all roots are settled and ended with a value, what they reach has ended as the results of a build want it
abbrev pub SettledRootsHaveEnded : Type 0
SettledRootsHaveEnded =
    (u : Update) (names : List Task) (records : Records) (s : WalkState) (roots : List Task) → IsExact u names records s → Stands s → Separates u
    → ((r : Task) → Contains roots r → IsDoneRoot names records s r) → HaveEnded names records s.rows roots

-- the records in the order of the store, and the outputs of the roots, are those of a clean build
pub record HasClean (u : Update) (roots : List Task) (b : Built) : Type 0 where
  pub rows : map record_of b.rows.items ≡ store_rows world (present u) (map enc_task roots)
  pub outputs : map output_bytes b.outputs.items ≡ map (with_output u.functions u.directory) (map enc_task roots)

-- and so are those of an accepted build, whose rows can be stored where what its roots reach has ended
abbrev pub AcceptedResultsAreClean : Type 0
AcceptedResultsAreClean =
    (u : Update) (t : Tables) (s : WalkState) (staged : Staged) (roots : List Task) (b : Built) → IsExact u t.names t.records s → Stands s → Separates u
    → RootsSettle t.names t.records s roots → Makes t s.rows staged roots b
    → (HaveEnded t.names t.records s.rows roots → StoredWhere b.verdict t.names roots b) → b.verdict ≡ Accepted → HasClean u roots b

-- of each task that ran and has a record, what is staged is what its evaluation wrote first
abbrev pub AreStagedNow : Update → Tables → Staged → Type 0
AreStagedNow u t staged =
    (n : ℕ) (rec : TaskRecord) (path : Path) → IsMarked t.ran.items n → kept_of t.records n ≡ Some rec
    → content staged n path ≡ written_now u rec.task path

-- a settled task that didn't run wrote these bytes at the path
pub record IsKeptAt (u : Update) (t : Tables) (s : WalkState) (path bytes : List ℕ) : Type 0 where
  pub number : ℕ
  pub settled : IsSettled s.marks number
  pub rested : slice_index_or t.ran.items number false ≡ false
  pub rec : TaskRecord
  pub kept : kept_of t.records number ≡ Some rec
  pub hash : List ℕ
  pub first : first_write path rec.writes ≡ Some hash
  pub wrote : written_now u rec.task path ≡ Some bytes

-- each file has what a clean build provides, and all that it provides is among them, or was written by a task that didn't run
pub record HasProvided (u : Update) (t : Tables) (s : WalkState) (roots : List Task) (b : Built) : Type 0 where
  pub only : (path bytes : List ℕ) → Contains (contents_in b.files.items) (path, bytes)
      → provided_at (live_evaluations world (present u) (map enc_task roots)) path ≡ Some bytes
  pub each : (path bytes : List ℕ) → provided_at (live_evaluations world (present u) (map enc_task roots)) path ≡ Some bytes
      → Contains (contents_in b.files.items) (path, bytes) ⊎ IsKeptAt u t s path bytes

-- so it is with the files of an accepted build, by what is staged of the tasks that ran
abbrev pub AcceptedFilesAreProvided : Type 0
AcceptedFilesAreProvided =
    (u : Update) (t : Tables) (s : WalkState) (staged : Staged) (roots : List Task) (b : Built) → IsExact u t.names t.records s → Stands s → Separates u
    → RootsSettle t.names t.records s roots → Makes t s.rows staged roots b → AreStagedNow u t staged → b.verdict ≡ Accepted → HasProvided u t s roots b
