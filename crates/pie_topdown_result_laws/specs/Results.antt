-- What is made of the tables of a build without a list, once its roots are settled.
use Rattle.std.specs.Prelude.{◌≡◌, ℕ, false, List, map, Some, slice_index_or}
use Rattle.pie_value.specs.declared.task.Task.{Task}
use Rattle.pie_value.specs.declared.verdict.Refusal.{Refusal}
use Rattle.pie_value.specs.declared.verdict.Verdict.TheVariants.{Accepted, Refused}
use Rattle.pie_graph.specs.Rows.{Row}
use Rattle.pie_record.specs.declared.records.Records.{Records}
use Rattle.pie_record.specs.declared.task_record.TaskRecord.{TaskRecord}
use Rattle.pie_record.specs.inner.Records.{record_of as kept_of}
use Rattle.pie_tables.specs.declared.tables.Tables.{Tables}
use Rattle.pie_view.specs.Content.{Staged}
use Rattle.pie_checks.specs.declared.built.Built.{Built}
use Rattle.pie_results.specs.inner.Files.{contents_in}
use Rattle.pie_results.specs.inner.Made.{Makes}
use Rattle.pie_results.specs.inner.Stored.{HaveEnded, StoredWhere}
use Rattle.pie_model.specs.Verdict.{verdict}
use Rattle.pie_model_pipeline.specs.Clean.{with_output, output_bytes}
use Rattle.pie_model_pipeline.specs.Rows.{refusal_of, verdict_of}
use Rattle.pie_model_pipeline.specs.World.{world}
use Rattle.pie_earlier_laws.specs.Left.{AreThere}
use Rattle.pie_core_laws.specs.Update.{Update, present}
use Rattle.pie_core_laws.specs.Keeping.{Separates}
use Rattle.pie_result_laws.specs.Accepted.{AreStagedNow}
use Rattle.pie_left_laws.specs.Accepted.{OutIsMet, IsAccepted}
use Rattle.pie_topdown_result_laws.specs.Settled.{AreSettledTables}

-- what is made has the verdict of the clean build; where that accepts, it is an accepted build with the outputs of the clean one
pub record IsResultOf (u : Update) (b : Built) : Type 0 where
  pub verdict : verdict_of b.verdict ≡ verdict world (present u) u.roots
  pub made : b.verdict ≡ Accepted → IsAccepted u b.rows.items (contents_in b.files.items)
  pub outputs : b.verdict ≡ Accepted → map output_bytes b.outputs.items ≡ map (with_output u.functions u.directory) u.roots

-- what a task wrote that kept its record, and so didn't run, is there
abbrev pub KeptWritesAreThere : Update → Tables → Type 0
KeptWritesAreThere u t =
    (n : ℕ) (rec : TaskRecord) → slice_index_or t.ran.items n false ≡ false → kept_of t.records n ≡ Some rec → AreThere world u.directory rec.writes

-- so it is with what is made of settled tables, by what is staged of the tasks that ran
abbrev pub SettledTablesMakeClean : Type 0
SettledTablesMakeClean =
    (u : Update) (t : Tables) (rows : List Row) (places : List ℕ) (staged : Staged) (roots : List Task) (b : Built)
    → AreSettledTables u t.names t.records rows places roots → Separates u → OutIsMet u → AreStagedNow u t staged → KeptWritesAreThere u t
    → Makes t rows staged roots b → (HaveEnded t.names t.records rows roots → StoredWhere b.verdict t.names roots b) → IsResultOf u b

-- and so it is with a refused build that has the verdict of the clean one, whatever it has made
abbrev pub RefusedBuildsAreClean : Type 0
RefusedBuildsAreClean =
    (u : Update) (b : Built) (r : Refusal) → b.verdict ≡ Refused r → refusal_of r ≡ verdict world (present u) u.roots → IsResultOf u b

-- the rows of settled tables are ended as those want it who make results of them
abbrev pub SettledTablesHaveEnded : Type 0
SettledTablesHaveEnded =
    (u : Update) (names : List Task) (records : Records) (rows : List Row) (places : List ℕ) (roots : List Task)
    → AreSettledTables u names records rows places roots → Separates u → HaveEnded names records rows roots
