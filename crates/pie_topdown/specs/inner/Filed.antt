-- Which writes of an accepted build without a list have their files among those that it makes.
use Rattle.std.specs.Prelude.{◌≡◌, ℕ, List, ◌++◌, Option, Some}
use Rattle.std.specs.List.{All, Contains}
use Rattle.sha2.specs.Sha256.{sha256}
use Rattle.pie_value.specs.declared.task.Task.{Task}
use Rattle.pie_value.specs.declared.verdict.Verdict.TheVariants.{Accepted}
use Rattle.pie_value.specs.Canonical.{enc_task}
use Rattle.pie_parser.specs.FunctionTrees.{FunctionTree}
use Rattle.pie_files.specs.Directory.{Directory}
use Rattle.pie_graph.specs.Numbers.{IsMarked}
use Rattle.pie_record.specs.declared.task_record.TaskRecord.{TaskRecord}
use Rattle.pie_record.specs.inner.Records.{record_of as kept_of}
use Rattle.pie_store.specs.inner.Offers.{Offered}
use Rattle.pie_checks.specs.declared.built.Built.{Built}
use Rattle.pie_results.specs.inner.Files.{contents_in}
use Rattle.pie_core_laws.specs.Update.{Update}
use Rattle.pie_topdown_result_laws.specs.Builds.{AreHonest, IsFromStore, IsNowHere}
use Rattle.pie_topdown.specs.declared.builder.Builder.{Builder}
use Rattle.pie_topdown.specs.inner.Rooted.{IsSettledSoFar}

-- a write has its file among these: it is at the path, and has bytes of the recorded hash
abbrev pub HasFile : List (List ℕ × List ℕ) → List ℕ × List ℕ → Type 0
HasFile files w = (bytes : List ℕ) × Contains files (w.0, bytes) × (sha256 bytes ≡ w.1)

-- so has each write of a record
abbrev pub HasFiles : List (List ℕ × List ℕ) → TaskRecord → Type 0
HasFiles files rec = All (HasFile files) rec.writes

-- ---- what is made of settled roots

-- a record is that of the task with a number, and its writes have their files where this task is marked
pub record HasFilesIfRan (b : Builder) (files : List (List ℕ × List ℕ)) (row : TaskRecord) : Type 0 where
  pub number : ℕ
  pub kept : kept_of b.ledger.tables.records number ≡ Some row
  pub made : IsMarked b.ledger.tables.ran.items number → HasFiles files row

-- so it is with each record of what is made, if that is accepted
abbrev pub MakesFiles : Builder → Built → Type 0
MakesFiles b made =
    (u : Update) (done : List (List ℕ)) → IsSettledSoFar u done b → made.verdict ≡ Accepted → (row : TaskRecord) → Contains made.rows.items row
    → HasFilesIfRan b (contents_in made.files.items) row

-- ---- the whole build

-- a record is of one of these tasks, which are told apart by their canonical bytes
abbrev pub IsOfOne : List Task → TaskRecord → Type 0
IsOfOne tasks row = (t : Task) × Contains tasks t × (enc_task t ≡ enc_task row.task)

-- the writes of those records of a build have their files that aren't among these of the store, or whose tasks were started or reused
pub record HasFilesOf (rows : List TaskRecord) (before after old new : List Task) (b : Built) : Type 0 where
  pub others : (row : TaskRecord) → Contains b.rows.items row → (Contains rows row → ⊥) → HasFiles (contents_in b.files.items) row
  pub ran : (gained : List Task) → after ≡ before ++ gained → (row : TaskRecord) → Contains b.rows.items row → IsOfOne gained row
      → HasFiles (contents_in b.files.items) row
  pub reused : (gained : List Task) → new ≡ old ++ gained → (row : TaskRecord) → Contains b.rows.items row → IsOfOne gained row
      → HasFiles (contents_in b.files.items) row

-- so it is with an accepted build of each update to what the files hold, from the store of its earlier build and where offers are honest
pub record MakesFilesOf (held : Option Directory) (fs : List FunctionTree) (funcs digests : List (List ℕ × List ℕ)) (rows : List TaskRecord)
    (told : Directory → Task → List ℕ → List Offered) (roots before after old new : List Task) (b : Built) : Type 0 where
  pub each : (u : Update) → IsNowHere u held fs roots → IsFromStore u funcs digests rows → AreHonest u digests told → b.verdict ≡ Accepted
      → HasFilesOf rows before after old new b
