-- Observations that stand have the stamps that they would get now in the model.
use Rattle.std.specs.Prelude.{◌≡◌, ℕ, Bool, true, List, [], map, Some, Contains}
use Rattle.pie_base.specs.Path.{is_source}
use Rattle.pie_value.specs.declared.stamp.Stamp.TheVariants as stamps
use Rattle.pie_value.specs.declared.value.Value.{Value}
use Rattle.pie_value.specs.Values.{tree_of}
use Rattle.pie_value.specs.Canonical.{enc, IsCanonical}
use Rattle.pie_graph.specs.Rows.{Row}
use Rattle.pie_record.specs.declared.dep.Dep.{Dep}
use Rattle.pie_record.specs.declared.dep.DepKind.TheVariants as kinds
use Rattle.pie_record.specs.declared.dep.DepOn.TheVariants.{File}
use Rattle.pie_record.specs.declared.records.Records.{Records}
use Rattle.pie_record.specs.declared.task_record.Outcome.TheVariants.{Done}
use Rattle.pie_record.specs.declared.task_record.TaskRecord.{TaskRecord}
use Rattle.pie_record.specs.Canonical.{IsStorable, IsTrueRecord}
use Rattle.pie_record.specs.inner.Records.{record_of as kept_of}
use Rattle.pie_tables.specs.declared.tables.Tables.{Tables}
use Rattle.pie_named.specs.declared.named.Named.{Named}
use Rattle.pie_compare.specs.inner.Standing.{DepsStand}
use Rattle.pie_parser.specs.FunctionTrees.{FunctionTree}
use Rattle.pie_files.specs.Directory.{Directory}
use Rattle.pie_named.specs.inner.Known.{IsTrueOf}
use Rattle.pie_model.specs.Paths.{Path}
use Rattle.pie_model.specs.StampNow.{Told, by_records, RecordAgrees}
use Rattle.pie_model.specs.inner.Still.{SourcesStill}
use Rattle.pie_model_pipeline.specs.Rows.{observation_of, record_of}
use Rattle.pie_model_pipeline.specs.World.{world, project}
use Rattle.pie_builder_laws.specs.Tables.{recorded}
use Rattle.pie_compare_laws.specs.Settled.{RestsOn, ArePresent}

-- all that a record observed stands, by the records of others, the rows, and what is known of the files
abbrev pub ObservationsStand : Tables → List Row → Named → TaskRecord → Type 0
ObservationsStand t rows n rec = DepsStand (record { tables = t; rows = rows; known = n; own = rec.writes }) [] rec.deps

-- the observations of a record that stand have the stamps of now by the present records, if what it requires is settled and its sources have theirs
abbrev pub StandingObservationsAgree : Type 0
StandingObservationsAgree =
    (fs : List FunctionTree) (d : Directory) (t : Tables) (rows : List Row) (n : Named) (settled : ℕ → Bool) (told : List (List ℕ) → Path → Told)
    (no : ℕ) (rec : TaskRecord) → ArePresent t.names t.records rows settled told → RestsOn t.names t.records rows settled no rec
    → SourcesStill world (project fs d) (map observation_of rec.deps) → ObservationsStand t rows n rec
    → RecordAgrees world (project fs d) (by_records (recorded t.names t.records) told) (record_of rec)

-- ---- the converse

-- a record that can be stored, with values that the program has, and listings of sources alone
pub record IsPlainRow (rec : TaskRecord) : Type 0 where
  pub storable : IsStorable rec
  pub parts : IsTrueRecord rec
  pub lists : (dep : Dep) (p : Path) → Contains rec.deps dep → dep.kind ≡ kinds.List → dep.what ≡ File p → is_source p ≡ true

-- the outputs of settled tasks are values with canonical bytes
abbrev pub OutputsAreCanonical : Records → (ℕ → Bool) → Type 0
OutputsAreCanonical records settled =
    (n : ℕ) (rec : TaskRecord) (v : Value) → settled n ≡ true → kept_of records n ≡ Some rec → rec.outcome ≡ Done v → IsCanonical (tree_of v) (enc (tree_of v))

-- where what is known is true of the directory, observations stand that have the stamps of now by the present records
abbrev pub AgreeingObservationsStand : Type 0
AgreeingObservationsStand =
    (fs : List FunctionTree) (d : Directory) (t : Tables) (rows : List Row) (n : Named) (settled : ℕ → Bool) (told : List (List ℕ) → Path → Told)
    (no : ℕ) (rec : TaskRecord) → ArePresent t.names t.records rows settled told → RestsOn t.names t.records rows settled no rec
    → IsTrueOf d n → IsPlainRow rec → OutputsAreCanonical t.records settled
    → RecordAgrees world (project fs d) (by_records (recorded t.names t.records) told) (record_of rec) → ObservationsStand t rows n rec
